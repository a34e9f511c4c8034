-- Blank paper. Where the search window has one grey and (0,0) has no distortion, no candidate has any: no test drops one, and (0,0) is the first of them.
--   blank_is   the answer for blank paper is search 2's
use Prim.Native.Nat.{ℕ, zero, suc, ◌+◌, ◌-◌, ◌*◌, ◌/◌, ◌%◌, ◌≤◌, ◌<◌, ◌∣◌}
use mathlib.Core.Path.{◌≡◌, refl, sym, ap, ◌∙◌, subst}
use mathlib.Core.List.Memᴰ
use mathlib.Core.List.{List, [], ◌∷◌, ◌++◌}
use native.Mathlib.Nat.{add_assoc, dvd_refl}
use native.Mathlib.Omega.{arith}
use borrow.Author.Tests.{le-leb}
use lib.Dec.{T, eqb, eqb→eq}
use lib.IntN.{pos}
use lib.ListN.{length, get_or, take, replicate}
use Rattle.base.specs.Tests.{and_left, and_right}
use Rattle.base.specs.Sum.{sum_over_ext}
use Rattle.base.specs.Least.{◌∈◌}
use Rattle.signed.specs.Values.{unbias}
use Rattle.order.specs.declared.Vector.{Vector}
use Rattle.order.specs.Vectors.{vec}
use Rattle.order.specs.Preference.{preferred}
use Rattle.frame.specs.Pictures.{Pair, pair_of, count_number, last_count}
use Rattle.frame.specs.declared.SearchBlock.{SearchBlock}
use Rattle.distortion.specs.Blocks.{measure_in, distortion_by, distortion, newer_block, older_block, running_place}
use Rattle.search.specs.SearchResult.{search_result}
use Rattle.search.specs.Exhaustive.{grid_vector}
use Rattle.search.specs.Target.{Ready}
use Rattle.reach.specs.Reach.{Standing, reach, InReach}
use Rattle.reach.specs.Keys.{key_of}
use Rattle.reach.proofs.Candidates.{ready_standing, reach_bounds, reach_small, reach_count, older-at}
use Rattle.reach.proofs.Keys.{still_code}
use Rattle.window_copy.specs.Grey.{one_grey}
use Rattle.window_copy.proofs.Grey.{one_grey_is}
use Rattle.full.proofs.Ready.{middle}
use Rattle.pruned_rule.specs.Sift.{kept}
use Rattle.pruned_rule.specs.Prune.{pruned_best, resolutions}
use Rattle.pruned_rule.specs.Spots.{spots, vector_on, places_of, choice_of}
use Rattle.pruned_rule.proofs.Pruned.{Attained}
use Rattle.pruned_rule.proofs.Search.{PowerOfTwo}
use Rattle.pruned_rule.proofs.Open.{open_first, all_last}
use Rattle.pruned_rule.proofs.Spots.{spots_places, spots_all, spots_reach, kept_spots, nearest_of_all}
use Rattle.pruned_list.specs.Listed.{distortion_to}
use Rattle.pruned.specs.Answer.{still_distortion, pruning, pruned_place, pruned_search}
use Rattle.pruned.specs.Flow.{dist_of, limit_of, is_blank, blank_answer}
use Rattle.pruned.proofs.Blocks.{block_size_power, few_rounds}
use Rattle.pruned.proofs.Laws.{still_given}
use Rattle.pruned.proofs.Flow.{safe_on, nests_on}

-- a list whose members are all within a limit is kept whole
kept_whole : (v : ℕ → ℕ) (l : ℕ) (ks : List ℕ) → ((k : ℕ) → k ∈ ks → v k ≤ l) → kept v l ks ≡ ks
unfolding kept
kept_whole v l [] h = refl
kept_whole v l (k ∷ ks) h =
    rw (le-leb (v k) l (h k (Memᴰ.head refl))) (ap (λ (r : List ℕ). k ∷ r) (kept_whole v l ks (λ c i. h c (Memᴰ.tail i))))

-- the counts where all remain, with so many resolutions after N
whole_counts : (rounds count : ℕ) → rounds < last_count → let t = (count ∷ []) ++ replicate rounds count in
    take (count_number - (rounds + 2)) (replicate count_number 0) ++ replicate (count_number - (count_number - (rounds + 2))) count
    ≡ replicate (count_number - length (t ++ (count ∷ []))) 0 ++ (t ++ (count ∷ []))
whole_counts zero count h = refl
whole_counts (suc zero) count h = refl
whole_counts (suc (suc zero)) count h = refl
whole_counts (suc (suc (suc zero))) count h = refl
whole_counts (suc (suc (suc (suc zero)))) count h = refl
whole_counts (suc (suc (suc (suc (suc r))))) count h = absurd (omega arith)

-- from the first row in reach on, or column: where row k of an older block stands, and that it lies in the window
moved : (at i top k : ℕ) → top ≤ i → 16 ≤ at + top → at + i - 16 + k ≡ at + top - 16 + (i - top + k)
moved at i top k a c = omega arith

window_has : (i top rows n k : ℕ) → top ≤ i → i < top + rows → k < n → i - top + k < rows + n - 1
window_has i top rows n k a c h = omega arith

-- results of equal parts
same_result : {v u : Vector} {d e : ℕ} {s t : List ℕ} {k l : ℕ} → v ≡ u → d ≡ e → s ≡ t → k ≡ l → search_result v d s k ≡ search_result u e t l
same_result p q r i = rw (p, q, r, i) refl

-- (0,0) stands in the middle of window 16
still : grid_vector 16 16 ≡ vec (pos 0) (pos 0)
unfolding unbias
still = refl

module _ (older newer : List ℕ) (b : SearchBlock) (ready : Ready older newer b) where
  abbrev p : Pair
  p = pair_of older newer b.setting

  abbrev n : ℕ
  n = b.setting.n

  abbrev width : ℕ
  width = b.setting.width

  abbrev D : Vector → ℕ
  D = distortion_to older newer b

  -- where the search window begins
  abbrev from : ℕ
  from = (b.y + (reach b).top - 16) * width + (b.x + (reach b).left - 16)

  standing : Standing b
  standing = ready_standing older newer b ready

  power : PowerOfTwo n
  power = block_size_power n ready.placed.paired.allowed

  inside : InReach (reach b) 16 16
  inside = middle older newer b ready

  module _ (grey : T (one_grey older width from ((reach b).rows + n - 1) ((reach b).columns + n - 1))) (none : D (vec (pos 0) (pos 0)) ≡ 0) where
    -- a pel of a candidate's older block lies in the window
    pel_grey : (i j k l : ℕ) → InReach (reach b) i j → k < n → l < n → older_block p b.y b.x (grid_vector i j) k l ≡ get_or older from 0
    pel_grey i j k l h hk hl =
        let r = reach b in
        let a = reach_bounds b standing in
        let o = older-at b.y b.x i j (omega (arith, a.first_row, h.top)) (omega (arith, a.first_column, h.left)) in
        let place = running_place width (b.y + r.top - 16) (b.x + r.left - 16) (i - r.top + k) (j - r.left + l) in
        rw (
          o.0,
          o.1,
          moved b.y i r.top k h.top a.first_row,
          moved b.x j r.left l h.left a.first_column,
          ← place,
          ← add_assoc from ((i - r.top + k) * width) (j - r.left + l),
        )
        (one_grey_is older width from _ _ grey (i - r.top + k) (j - r.left + l)
        (window_has i r.top r.rows n k h.top h.bottom hk)
        (window_has j r.left r.columns n l h.left h.right hl))

    -- so it differs from the block as the pel of (0,0) does, and no candidate has a distortion
    free : (i j : ℕ) → InReach (reach b) i j → D (grid_vector i j) ≡ 0
    unfolding distortion distortion_by
    free i j h =
        sum_over_ext n n _ _ (λ k l hk hl.
        ap ((measure_in p).diff (newer_block p b.y b.x k l)) (pel_grey i j k l h hk hl ∙ sym (pel_grey 16 16 k l inside hk hl)))
        ∙ ap D still
        ∙ none

    -- no test drops one
    all_kept : (m : ℕ) → m ∣ n → length (kept (λ c. dist_of older newer b m (preferred c)) (limit_of b m 0) (places_of b)) ≡ length (places_of b)
    all_kept m h =
        sym (kept_spots b standing (dist_of older newer b m) (limit_of b m 0))
        ∙ ap length (kept_whole _ _ (spots (reach b)) (λ t i.
        safe_on older newer b m h (vector_on t) 0 (omega (arith, free _ _ (spots_reach b standing i)))))
        ∙ spots_places b standing

    -- and the first of them in preference order is (0,0), which stands on spot 1040
    choice : choice_of b D ≡ vec (pos 0) (pos 0)
    unfolding key_of
    choice =
        sym (nearest_of_all b standing D 1040 (record {
          member = spots_all (reach b) 16 16 inside;
          least = λ u i. let h = spots_reach b standing i in
              let small = reach_small b standing _ _ h in
              omega (arith, free 16 16 inside, still_code (u / 64) (u % 64) small.0 small.1);
        }))
        ∙ still

    blank : blank_answer n (length (places_of b)) ≡ pruned_search p b.w b.y b.x
    unfolding pruned_search pruning pruned_place pruned_best
    blank =
        let given = still_given p b.w b.y b.x power ready.window ready.placed.down ready.placed.across in
        let first = open_first 0 _ _ (limit_of b) n (places_of b) power
        (subst (Attained (λ c. D (preferred c)) (places_of b)) none given) (λ c. safe_on older newer b n (dvd_refl n) (preferred c))
        _ (sym (all_kept n (dvd_refl n))) in
        let c = all_last first (λ i d c. safe_on older newer b i d (preferred c)) (λ i j d h c. nests_on older newer b i j d h (preferred c)) all_kept in
        let vector = ap preferred c.best ∙ choice in
        rw none
        (same_result (sym vector) (sym (ap D vector ∙ none))
        (whole_counts (length (resolutions n)) (length (places_of b)) (few_rounds n ready.placed.paired.allowed) ∙ sym c.all_counts)
        (omega (arith, c.dropped)))

pub blank_is : (older newer : List ℕ) (b : SearchBlock) → Ready older newer b
    → (e : ℕ) → e ≡ still_distortion (pair_of older newer b.setting) b.y b.x → T (is_blank older b e)
    → blank_answer b.setting.n ((reach b).rows * (reach b).columns) ≡ pruned_search (pair_of older newer b.setting) b.w b.y b.x
blank_is older newer b ready e is t =
    rw (← reach_count b (ready_standing older newer b ready))
    (blank older newer b ready (and_right (eqb e 0) _ t) (sym is ∙ eqb→eq e 0 (and_left (eqb e 0) _ t)))
