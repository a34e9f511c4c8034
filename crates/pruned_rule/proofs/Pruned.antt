-- A test that drops no candidate of a distortion up to E keeps the first least of all: so E stays the distortion of a candidate, what is dropped
-- is strictly worse than E, and the answer is the full search's.
use Prim.Native.Nat.{ℕ, suc, ◌≤◌, ◌<◌, min}
use mathlib.Core.Path.{◌≡◌, refl, sym, ◌∙◌, subst}
use mathlib.Core.Logic.{⊎_elim}
use mathlib.Core.Bool.{Bool, true}
use mathlib.Core.List.Memᴰ
use mathlib.Core.List.{List, [], ◌∷◌}
use native.Mathlib.Nat.{lt_of_not-le, not-le_of_lt, lt_of_le_of_lt, min-le_left, min-eq_left, min-eq_right, le_of_lt, zero-lt-suc}
use native.Mathlib.Decide.{dec_le}
use lib.ListN.{length}
use Rattle.base.specs.Least.{◌∈◌, least_of, FirstLeast, first_mem, least_of_first, least_of_unique, least_of_mem, least_of_le, mem_length}
use Rattle.base.specs.Picks.{pick, pick_mem}
use Rattle.pruned_rule.specs.Sift.{kept, exceeding}
use Rattle.pruned_rule.specs.Prune.{Pruning, all_remaining, lower, sift, rounds, prune, pruned_best}
use Rattle.pruned_rule.proofs.Parts.{Parted, parted, parted_kept, parted_over, parted_first}

-- e is the distortion of one of the candidates ks, as E is at each moment
abbrev pub Attained : (ℕ → ℕ) → List ℕ → ℕ → Type 0
Attained D ks e = (k : ℕ) × (k ∈ ks) × (D k ≡ e)

-- what holds of the search at each moment, for the candidates ks with the distortions D
pub record Holds (D : ℕ → ℕ) (ks : List ℕ) (s : Pruning) : Type 0 where
  -- E is the distortion of a candidate
  pub attained : Attained D ks s.bound
  -- the first least of all candidates is the first least of those left
  pub best : FirstLeast D (least_of D ks) s.left
  -- those left are candidates
  pub left_from : {k : ℕ} → k ∈ s.left → k ∈ ks
  -- those dropped are candidates, of a distortion over E
  pub dropped_from : {k : ℕ} → k ∈ s.dropped → k ∈ ks
  pub dropped-over : {k : ℕ} → k ∈ s.dropped → s.bound < D k
  -- and none of them is left
  pub apart : {k : ℕ} → k ∈ s.left → k ∈ s.dropped → ⊥

-- E is never below the least distortion
pub bound_ge : {D : ℕ → ℕ} {ks : List ℕ} {s : Pruning} → Holds D ks s → D (least_of D ks) ≤ s.bound
bound_ge {D} {ks} h = let (k, m, e) = h.attained in subst (λ (x : ℕ). D (least_of D ks) ≤ x) e (least_of_le D ks m)

-- at least one is left
pub holds_some : {D : ℕ → ℕ} {ks : List ℕ} {s : Pruning} → Holds D ks s → 0 < length s.left
holds_some h = mem_length (first_mem h.best)

-- the resolution m drops no candidate whose distortion is at most E, whatever E is
abbrev pub Safe : (D : ℕ → ℕ) (dist limit : ℕ → ℕ → ℕ) → ℕ → Type 0
Safe D dist limit m = (k e : ℕ) → D k ≤ e → dist m k ≤ limit m e

pub all_remaining_holds : (e : ℕ) (D : ℕ → ℕ) (ks : List ℕ) → Attained D ks e → Holds D ks (all_remaining e ks)
unfolding all_remaining
all_remaining_holds e D ks given =
    record {
      attained = given;
      best = least_of_first D ks (mem_length given.1);
      left_from = λ m. m;
      dropped_from = λ m. absurd (Memᴰ.not-nil m);
      dropped-over = λ m. absurd (Memᴰ.not-nil m);
      apart = λ m d. Memᴰ.not-nil d;
    }

-- where the candidates are the numbers below n that pass, and 0, the place of (0,0) in the preference table, does: E may begin as its distortion
pub still_attained : (D : ℕ → ℕ) (p : ℕ → Bool) (n e : ℕ) → p 0 ≡ true → D 0 ≡ e → Attained D (pick p (suc n)) e
still_attained D p n e passes is = (0, pick_mem p (suc n) (zero-lt-suc n) passes, is)

module _ (D : ℕ → ℕ) (dist : ℕ → ℕ → ℕ) (ks : List ℕ) where
  pub lower_holds : (m : ℕ) (s : Pruning) → Holds D ks s → Holds D ks (lower D dist m s)
  unfolding lower
  lower_holds m s h =
      record {
        attained = either_one (dec_le s.bound (D near));
        best = h.best;
        left_from = h.left_from;
        dropped_from = h.dropped_from;
        dropped-over = λ i. lt_of_le_of_lt (min-le_left _ _) (h.dropped-over i);
        apart = h.apart;
      }
    where
      near : ℕ
      near = least_of (dist m) s.left

      either_one : Dec (s.bound ≤ D near) → Attained D ks (min s.bound (D near))
      either_one (yes l) = let (k, i, e) = h.attained in (k, i, e ∙ sym (min-eq_left l))
      either_one (no l) = (near, h.left_from (least_of_mem (dist m) s.left (holds_some h)), sym (min-eq_right (le_of_lt (lt_of_not-le l))))

  pub sift_holds : (limit : ℕ → ℕ → ℕ) (m : ℕ) (s : Pruning) → Safe D dist limit m → Holds D ks s → Holds D ks (sift dist limit m s)
  unfolding sift
  sift_holds limit m s safe h =
      record {
        attained = h.attained;
        best = parted_first (safe (least_of D ks) s.bound (bound_ge h)) p h.best;
        left_from = λ i. h.left_from (parted_kept p i).0;
        dropped_from = λ i. ⊎_elim (λ j. h.dropped_from j) (λ j. h.left_from (parted_over p j).0) (Memᴰ.append_cases s.dropped i);
        dropped-over = λ i. ⊎_elim (λ j. h.dropped-over j) (λ j. worse (parted_over p j).1) (Memᴰ.append_cases s.dropped i);
        apart = λ i d.
            ⊎_elim (λ j. h.apart (parted_kept p i).0 j) (λ j. not-le_of_lt (parted_over p j).1 (parted_kept p i).1) (Memᴰ.append_cases s.dropped d);
      }
    where
      l : ℕ
      l = limit m s.bound

      p : Parted (dist m) l s.left (kept (dist m) l s.left) (exceeding (dist m) l s.left)
      p = parted (dist m) l s.left

      worse : {k : ℕ} → l < dist m k → s.bound < D k
      worse {k} i = lt_of_not-le (λ g. not-le_of_lt i (safe k s.bound g))

  rounds_holds : (limit : ℕ → ℕ → ℕ) (ms : List ℕ) (s : Pruning) → ((m : ℕ) → m ∈ ms → Safe D dist limit m)
      → Holds D ks s → Holds D ks (rounds D dist limit ms s)
  unfolding rounds
  rounds_holds limit [] s safe h = h
  rounds_holds limit (m ∷ ms) s safe h =
      rounds_holds limit ms _ (λ n i. safe n (Memᴰ.tail i))
      (sift_holds limit m _ (safe m (Memᴰ.head refl)) (lower_holds m s h))

-- the candidates ks in preference order; E begins as the distortion of one of them, and every resolution used is safe
module _ (e : ℕ) (D : ℕ → ℕ) (dist limit : ℕ → ℕ → ℕ) (N : ℕ) (ms ks : List ℕ) (given : Attained D ks e)
    (safe : (m : ℕ) → m ∈ N ∷ ms → Safe D dist limit m)
  where
    pub prune_holds : Holds D ks (prune e D dist limit N ms ks)
    unfolding prune
    prune_holds =
        rounds_holds D dist ks limit ms _ (λ m i. safe m (Memᴰ.tail i))
        (sift_holds D dist ks limit N _ (safe N (Memᴰ.head refl)) (all_remaining_holds e D ks given))

    -- the answer is the full search's, ties to the earliest included
    pub pruned_is_full : pruned_best e D dist limit N ms ks ≡ least_of D ks
    unfolding pruned_best
    pruned_is_full = least_of_unique prune_holds.best

    -- every dropped candidate is strictly worse than the answer
    pub dropped_worse : {k : ℕ} → k ∈ (prune e D dist limit N ms ks).dropped → D (pruned_best e D dist limit N ms ks) < D k
    dropped_worse i = rw pruned_is_full (lt_of_le_of_lt (bound_ge prune_holds) (prune_holds.dropped-over i))
