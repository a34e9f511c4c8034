-- Lists of candidates parted by a limit: "drop each whose distance exceeds E" (01, search 2).
--   kept v l ks        the k of ks with v k at most l, in their order
--   exceeding v l ks   the k of ks with v k exceeding l, in their order
--   total g ks         the sum of g over the list
use Rattle.std.specs.Prelude.{ℕ, ◌+◌, cond, List, [], ◌∷◌, leb}

unfoldable pub kept : (ℕ → ℕ) → ℕ → List ℕ → List ℕ
kept v l [] = []
kept v l (k ∷ ks) = cond (leb (v k) l) (k ∷ kept v l ks) (kept v l ks)

unfoldable pub exceeding : (ℕ → ℕ) → ℕ → List ℕ → List ℕ
exceeding v l [] = []
exceeding v l (k ∷ ks) = cond (leb (v k) l) (exceeding v l ks) (k ∷ exceeding v l ks)

unfoldable pub total : (ℕ → ℕ) → List ℕ → ℕ
total g [] = 0
total g (k ∷ ks) = g k + total g ks
