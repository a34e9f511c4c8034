-- A row of squares by its runs, and the squares of a block.
--   runs_fours     where k is not 1 and not 2 it is some times 4
--   place          where the squares of a run stand, own_place: and the newer ones; run_inside: a run lies inside the array
--   parts          a block of N is N / m squares a side, that are 1, 2, or some times 4, and not 0
--   turned_about   p times x rows of m, as so many places
--   place_in       where a candidate stands; older_index, newer_index: its squares, and those of the block
use Prim.Native.Nat.{ℕ, zero, suc, ◌+◌, ◌-◌, ◌*◌, ◌/◌, ◌^◌, ◌≤◌, ◌<◌}
use mathlib.Core.Path.{◌≡◌, refl, sym, ap, ◌∙◌, subst}
use mathlib.Core.Logic.{inl, inr, ⊎_elim}
use mathlib.Core.List.{List}
use native.Mathlib.Nat.{mul_comm, mul_assoc, mul-add, mul-le-mul_left}
use native.Mathlib.Omega.{arith}
use lib.Dec.{T}
use Rattle.frame.specs.declared.SearchBlock.{SearchBlock}
use Rattle.refusals.specs.Refusals.{block_size_ok, block_size_elim}
use Rattle.reach.specs.Reach.{reach, InReach}
use Rattle.boxes.specs.Boxes.{Cut, level_at, own_at, span_of}
use Rattle.boxes.specs.Runs.{Fours, Runs, Inside}

-- ---- runs

pub runs_fours : (k : ℕ) → Runs k → (k ≡ 1 → ⊥) → (k ≡ 2 → ⊥) → Fours k
runs_fours k r one two = ⊎_elim (λ e. absurd (one e)) (λ s. ⊎_elim (λ e. absurd (two e)) (λ f. f) s) r

pub place : (m x t q i : ℕ) → x + m * q + t + m * i ≡ x + t + m * (q + i)
place m x t q i = omega (arith, mul-add m q i)

pub own_place : (m own q i : ℕ) → own + m * q + m * i ≡ own + m * (q + i)
own_place m own q i = omega (arith, mul-add m q i)

pub run_inside : (boxes : List ℕ) (at own m k size : ℕ) → Inside boxes at own m k size → (q c : ℕ) → q + c ≤ k
    → Inside boxes (at + m * q) (own + m * q) m c size
run_inside boxes at own m k size inside q c h = record {
  some = inside.some;
  older = λ t i ht hi. rw (place m at t q i) (inside.older t (q + i) ht (omega arith));
  newer = λ i hi. rw (own_place m own q i) (inside.newer (q + i) (omega arith));
}

-- ---- squares of a block

pub record Parts (n m : ℕ) : Type 0 where
  pub runs : Runs (n / m)
  pub some : 0 < n / m
  pub whole : n / m * m ≡ n

fours : {k : ℕ} (n : ℕ) → k ≡ 4 * n → Runs k
fours n e = inr (inr (record { fours = n; is = e }))

parts_4 : (e : ℕ) → 2 ^ e ≤ 4 → e ≤ 4 → Parts 4 (2 ^ e)
parts_4 zero h f = record { runs = fours 1 refl; some = omega arith; whole = refl }
parts_4 (suc zero) h f = record { runs = inr (inl refl); some = omega arith; whole = refl }
parts_4 (suc (suc zero)) h f = record { runs = inl refl; some = omega arith; whole = refl }
parts_4 (suc (suc (suc zero))) h f = absurd (omega arith)
parts_4 (suc (suc (suc (suc zero)))) h f = absurd (omega arith)
parts_4 (suc (suc (suc (suc (suc e))))) h f = absurd (omega arith)

parts_8 : (e : ℕ) → 2 ^ e ≤ 8 → e ≤ 4 → Parts 8 (2 ^ e)
parts_8 zero h f = record { runs = fours 2 refl; some = omega arith; whole = refl }
parts_8 (suc zero) h f = record { runs = fours 1 refl; some = omega arith; whole = refl }
parts_8 (suc (suc zero)) h f = record { runs = inr (inl refl); some = omega arith; whole = refl }
parts_8 (suc (suc (suc zero))) h f = record { runs = inl refl; some = omega arith; whole = refl }
parts_8 (suc (suc (suc (suc zero)))) h f = absurd (omega arith)
parts_8 (suc (suc (suc (suc (suc e))))) h f = absurd (omega arith)

pub parts_16 : (e : ℕ) → e ≤ 4 → Parts 16 (2 ^ e)
parts_16 zero f = record { runs = fours 4 refl; some = omega arith; whole = refl }
parts_16 (suc zero) f = record { runs = fours 2 refl; some = omega arith; whole = refl }
parts_16 (suc (suc zero)) f = record { runs = fours 1 refl; some = omega arith; whole = refl }
parts_16 (suc (suc (suc zero))) f = record { runs = inr (inl refl); some = omega arith; whole = refl }
parts_16 (suc (suc (suc (suc zero)))) f = record { runs = inl refl; some = omega arith; whole = refl }
parts_16 (suc (suc (suc (suc (suc e))))) f = absurd (omega arith)

parts_32 : (e : ℕ) → e ≤ 4 → Parts 32 (2 ^ e)
parts_32 zero f = record { runs = fours 8 refl; some = omega arith; whole = refl }
parts_32 (suc zero) f = record { runs = fours 4 refl; some = omega arith; whole = refl }
parts_32 (suc (suc zero)) f = record { runs = fours 2 refl; some = omega arith; whole = refl }
parts_32 (suc (suc (suc zero))) f = record { runs = fours 1 refl; some = omega arith; whole = refl }
parts_32 (suc (suc (suc (suc zero)))) f = record { runs = inr (inl refl); some = omega arith; whole = refl }
parts_32 (suc (suc (suc (suc (suc e))))) f = absurd (omega arith)

pub parts : (n : ℕ) → T (block_size_ok n) → (m : ℕ) → Cut n m → Parts n m
parts =
    block_size_elim (λ n. (m : ℕ) → Cut n m → Parts n m)
    (λ m c. subst (λ (x : ℕ). Parts 4 x) (sym c.power) (parts_4 c.exponent (rw (← c.power) c.inside) c.few))
    (λ m c. subst (λ (x : ℕ). Parts 8 x) (sym c.power) (parts_8 c.exponent (rw (← c.power) c.inside) c.few))
    (λ m c. subst (λ (x : ℕ). Parts 16 x) (sym c.power) (parts_16 c.exponent c.few))
    (λ m c. subst (λ (x : ℕ). Parts 32 x) (sym c.power) (parts_32 c.exponent c.few))

-- ---- where candidates stand

pub turned_about : (p x m : ℕ) → p * (x * m) ≡ x * (p * m)
turned_about p x m = sym (mul_assoc p x m) ∙ ap (λ (y : ℕ). y * m) (mul_comm p x) ∙ mul_assoc x p m

pub place_in : (b : SearchBlock) (i j : ℕ) → InReach (reach b) i j
    → (b.setting.n + 32) * (i - (reach b).top) + (j - (reach b).left) < span_of b.setting.n (reach b)
place_in b i j h =
    let y = i - (reach b).top in
    omega (
      arith,
      mul-le-mul_left (b.setting.n + 32) (let e : y ≤ (reach b).rows - 1 = omega (arith, h.top, h.bottom) in e),
      h.left,
      h.right,
    )

module _ (n m y z p q : ℕ) where
  pub older_index : level_at n m + p * ((n + 32) * m) + ((n + 32) * y + z) + m * q ≡ level_at n m + ((n + 32) * (y + p * m) + (z + q * m))
  older_index = omega (arith, turned_about p (n + 32) m, mul-add (n + 32) y (p * m), mul_comm m q)

  pub newer_index : own_at n m + p * (n * m) + m * q ≡ own_at n m + (n * (p * m) + q * m)
  newer_index = omega (arith, turned_about p n m, mul_comm m q)
