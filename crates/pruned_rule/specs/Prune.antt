-- 01, "The four searches", search 2, step by step, over a list of candidates in preference order. It is the search of Gharavi-Alkhansari's paper with
-- exponent 1, or 2 by squares (02, request 1); where the paper's Table 1 has window ends exchanged, loses earlier removals or stops at E = 0 with ties
-- unsettled, these steps hold.
--   Pruning       where the search stands: E, the candidates that remain, those dropped, and how many were tested at each m so far
--   all_remaining  "Begin with all candidates and E = distortion of (0,0)": that distortion is e
--   lower         "find the remaining vector of least distance (equals: preference order), lower E to its distortion if that is less"
--   sift          "then drop each whose distance exceeds E"
--   rounds        lower and sift at each of the resolutions ms
--   prune         "At m = N, drop each whose distance exceeds E." Then the rounds
--   pruned_best    "Measure the rest and choose as full does."
--   counts        "Each count is how many were tested at that m. Measurements made only for E are not counted."
--   resolutions   "For m = N/2, then halved each time, down to 2"
-- e is the distortion of (0,0), D k that of candidate k and dist m k its distance at m. limit m e is how far a distance at m may go for E = e: the measure
-- says it (`limit` of Measure in measures/specs/Measures.antt). For absolute differences it is e; by squares a vector is dropped "when it exceeds m² × E".
use Rattle.std.specs.Prelude.{ℕ, zero, suc, ◌-◌, ◌/◌, min, cond, List, [], ◌∷◌, ◌++◌, ltb, length, replicate}
use Rattle.base.specs.Least.{least_of}
use Rattle.frame.specs.Pictures.{count_number}
use Rattle.pruned_rule.specs.Sift.{kept, exceeding}

pub record Pruning : Type 0 where
  -- E
  pub bound : ℕ
  -- the candidates that remain, in preference order
  pub left : List ℕ
  -- those dropped, in the order of dropping
  pub dropped : List ℕ
  -- how many were tested at each m so far
  pub tested : List ℕ

unfoldable pub all_remaining : (e : ℕ) → List ℕ → Pruning
all_remaining e ks = record { bound = e; left = ks; dropped = []; tested = [] }

unfoldable pub lower : (D : ℕ → ℕ) (dist : ℕ → ℕ → ℕ) → ℕ → Pruning → Pruning
lower D dist m s =
    record { bound = min s.bound (D (least_of (dist m) s.left)); left = s.left; dropped = s.dropped; tested = s.tested }

unfoldable pub sift : (dist limit : ℕ → ℕ → ℕ) → ℕ → Pruning → Pruning
sift dist limit m s =
    record {
      bound = s.bound;
      left = kept (dist m) (limit m s.bound) s.left;
      dropped = s.dropped ++ exceeding (dist m) (limit m s.bound) s.left;
      tested = s.tested ++ (length s.left ∷ []);
    }

unfoldable pub rounds : (D : ℕ → ℕ) (dist limit : ℕ → ℕ → ℕ) → List ℕ → Pruning → Pruning
rounds D dist limit [] s = s
rounds D dist limit (m ∷ ms) s = rounds D dist limit ms (sift dist limit m (lower D dist m s))

unfoldable pub prune : (e : ℕ) (D : ℕ → ℕ) (dist limit : ℕ → ℕ → ℕ) (N : ℕ) (ms ks : List ℕ) → Pruning
prune e D dist limit N ms ks = rounds D dist limit ms (sift dist limit N (all_remaining e ks))

unfoldable pub pruned_best : (e : ℕ) (D : ℕ → ℕ) (dist limit : ℕ → ℕ → ℕ) (N : ℕ) (ms ks : List ℕ) → ℕ
pruned_best e D dist limit N ms ks = least_of D (prune e D dist limit N ms ks).left

-- "five counts, for m = 16, 8, 4, 2, 1. Unused ones are 0", and 02, request 4: "Counts become six, for m = 32 first". The last is how many were finally
-- measured
unfoldable pub counts : Pruning → List ℕ
counts s = let c = s.tested ++ (length s.left ∷ []) in replicate (count_number - length c) 0 ++ c

-- m, m / 2, .. down to 2; the first number bounds how many there are
unfoldable pub halves : ℕ → ℕ → List ℕ
halves zero m = []
halves (suc n) m = let rest = halves n (m / 2) in cond (ltb m 2) [] (m ∷ rest)

-- the same with a bound that is enough: a loop that halves m has these before it
abbrev pub halvings : ℕ → List ℕ
halvings m = halves m m

abbrev pub resolutions : ℕ → List ℕ
resolutions N = halvings (N / 2)
