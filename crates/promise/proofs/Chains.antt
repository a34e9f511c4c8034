-- What chains of refusals that are 0 say: an accepted step's pair is one that every search takes, and a call that answers 0 was accepted.
use Prim.Native.Nat.{ℕ, zero, suc, ◌≤◌}
use mathlib.Core.Path.{◌≡◌, refl}
use mathlib.Core.Bool.{Bool, true, false}
use mathlib.Core.List.{List}
use native.Mathlib.Omega.{arith}
use borrow.Author.Tests.{le-leb}
use lib.Dec.{T, eqb}
use lib.IntN.{ℤ}
use lib.ListN.{length}
use Rattle.base.specs.Tests.{T_true}
use Rattle.measures.specs.Measures.{measure_ok}
use Rattle.frame.specs.Pictures.{Pair}
use Rattle.refusals.specs.Refusals.{unless, first_refusal, first_refusal_zero, search_ok, window_ok, threshold_ok, request_of}
use Rattle.refusals.specs.Refusals.{pair_refusal, request_refusal, Paired, paired, window_small}
use Rattle.refusals.specs.Refusals as refusals
use Rattle.field_rules.specs.Rules.{list_size, field_refusal}

-- ---- the refusals of a step that come before the field is filled, and the one after

abbrev chain : ℕ → Bool → Bool → ℕ → ℕ
chain f a b z = first_refusal f (unless a 31 (unless b 32 z))

pub chain_late : (f : ℕ) (a b : Bool) (z : ℕ) → chain f a b 0 ≡ 0 → chain f a b z ≡ z
unfolding first_refusal
chain_late zero true true z e = refl
chain_late zero true false z e = absurd (omega arith)
chain_late zero false b z e = absurd (omega arith)
chain_late (suc f) a b z e = absurd (omega arith)

pub chain_early : (f : ℕ) (a b : Bool) (z : ℕ) → (chain f a b 0 ≡ 0 → ⊥) → chain f a b z ≡ chain f a b 0
unfolding first_refusal
chain_early zero true true z n = absurd (n refl)
chain_early zero true false z n = refl
chain_early zero false b z n = refl
chain_early (suc f) a b z n = refl

module _ (p : Pair) where
  abbrev pub pair_chain : ℕ
  pair_chain = pair_refusal (length p.older) (length p.newer) p.setting

  abbrev pub request_chain : (s w t : ℕ) → ℕ
  request_chain s w t = request_refusal (length p.older) (length p.newer) (request_of p.setting s w t)

  abbrev pub field_chain : (s w t list table : ℕ) → ℕ
  field_chain s w t list table = field_refusal (length p.older) (length p.newer) (request_of p.setting s w t) list table

  -- what an accepted step's pair, measure and window have
  pub record Fine (w : ℕ) : Type 0 where
    pub pair : pair_chain ≡ 0
    pub measure : T (measure_ok p.setting.measure)
    pub small : w ≤ 16

  pub fine_paired : {w : ℕ} → Fine w → Paired (length p.older) (length p.newer) p.setting
  fine_paired f = paired (length p.older) (length p.newer) p.setting f.pair

  pub request_fine : (s w t : ℕ) → request_chain s w t ≡ 0 → Fine w
  unfolding request_refusal
  request_fine s w t e =
      let r = refusals.requested (length p.older) (length p.newer) (request_of p.setting s w t) e in
      record { pair = (first_refusal_zero pair_chain _ e).0; measure = r.measure; small = window_small s w r.window }

  pub field_request : (s w t list table : ℕ) → field_chain s w t list table ≡ 0 → request_chain s w t ≡ 0
  unfolding field_refusal
  field_request s w t list table e = (first_refusal_zero (request_chain s w t) _ e).0

  -- the same pair by the same measure, for any search with a window and a threshold that it takes
  pub request_any : (s w t : ℕ) {v : ℕ} → Fine v → T (search_ok s) → T (window_ok s w) → T (threshold_ok s p.setting.measure t) → request_chain s w t ≡ 0
  unfolding request_refusal first_refusal
  request_any s w t f r o h =
      rw (
        f.pair,
        T_true (search_ok s) r,
        T_true (measure_ok p.setting.measure) f.measure,
        T_true (window_ok s w) o,
        T_true (threshold_ok s p.setting.measure t) h,
      )

  -- searches 3 and 4 use no table
  pub field_any : (s w t : ℕ) (list : List ℤ) (table : List ℕ) → request_chain s w t ≡ 0 → eqb s 2 ≡ false → list_size p.setting ≤ length list
      → field_chain s w t (length list) (length table) ≡ 0
  unfolding field_refusal first_refusal
  field_any s w t list table e n h = rw (e, n, le-leb (list_size p.setting) (length list) h)
