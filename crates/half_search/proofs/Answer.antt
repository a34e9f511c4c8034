-- What the half-pel call answers.
--   half_found     its first part is the single-block call's answer, whatever that is
--   half_refused   the single-block call's refusal, and zeros
--   half_answer    of an accepted one: HalfAnswer
--   half_most      a distortion of bytes at a half-pel place is at most the most that two pels differ, × N²: each sum fits 32 bits
use Prim.Native.Nat.{ℕ, ◌*◌, ◌≤◌}
use mathlib.Core.Path.{◌≡◌, refl, sym, ap, ◌∙◌}
use mathlib.Core.Bool.{Bool, true, false, cond}
use mathlib.Core.List.{List}
use native.Mathlib.Omega.{arith}
use borrow.Author.Tests.{eq-eqb, ne_eqb}
use lib.Dec.{eqb}
use lib.IntN.{ℤ, nat_abs, ◌+ℤ◌}
use Rattle.base.specs.Sum.{sum_over_bound}
use Rattle.signed.specs.Int.{added}
use Rattle.signed.specs.Values.{doubled}
use Rattle.measures.specs.Measures.{pel_most}
use Rattle.order.specs.declared.Vector.{Vector}
use Rattle.order.specs.Vectors.{Within}
use Rattle.frame.specs.Pictures.{Pair, pair_of}
use Rattle.refusals.specs.declared.Request.{Request}
use Rattle.refusals.specs.Refusals.{setting_of, window_small}
use Rattle.distortion.specs.Blocks.{distortion_by, measure_in, Bytes}
use Rattle.half_pel.proofs.Values.{value_most}
use Rattle.search.specs.declared.SearchResult.{SearchResult}
use Rattle.search.specs.SearchResult.{vector_in}
use Rattle.block.specs.Block.{search_block, OwnResult, searchable, block_unrefused, block_accepted}
use Rattle.block.proofs.Own.{searched_own}
use Rattle.half_search.specs.Half.{centre, neighbour, half_distortion, HalfAnswer, counts, winner, half_result, refined, search_half}
use Rattle.half_search.specs.Steps.{Refining}
use Rattle.half_search.proofs.Best.{centre_distortion, centre_tried, winner_below, winner_best}

-- a result that is a candidate with its own distortion, refined
module _ (p : Pair) (y x : ℕ) (f : SearchResult) (some : 1 ≤ p.setting.n) (own : OwnResult p 16 y x f) where
  abbrev v : Vector
  v = vector_in f

  centre_counts : counts p y x v 0 ≡ true
  centre_counts = centre_tried p 16 y x v own.chosen

  part_range : (d o : ℤ) → nat_abs d ≤ 16 → nat_abs o ≤ 1 → nat_abs (doubled d +ℤ o) ≤ 33
  part_range d o h g = omega (arith, added d d, added (d +ℤ d) o)

  pub refined_answer : HalfAnswer p y x (refined p y x f)
  unfolding refined
  refined_answer =
      let b = winner_below p y x v some centre_counts in
      let best = winner_best p y x v some centre_counts in
      let near = own.chosen.window in
      record {
        offset = neighbour (winner p y x v);
        best = best;
        vector = refl;
        reported = refl;
        none_lower = best.least;
        no_higher = omega (arith, b.least 0 (omega arith) centre_counts, centre_distortion p y x v, own.reported);
        range = record {
          down = part_range f.dy _ near.down best.near.down;
          across = part_range f.dx _ near.across best.near.across;
        };
      }

module _ (older newer : List ℕ) (q : Request) (y x : ℕ) where
  abbrev p : Pair
  p = pair_of older newer (setting_of q)

  abbrev f : SearchResult
  f = search_block older newer q y x

  pub half_accepted : f.refusal ≡ 0 → search_half older newer q y x ≡ refined p y x f
  unfolding search_half
  half_accepted e = rw (eq-eqb f.refusal 0 e)

  pub half_refused : (f.refusal ≡ 0 → ⊥) → search_half older newer q y x ≡ half_result f centre 0
  unfolding search_half
  half_refused h = rw (ne_eqb f.refusal 0 h)

  pub half_found : (search_half older newer q y x).found ≡ f
  unfolding search_half refined
  half_found = go (eqb f.refusal 0)
    where
      go : (t : Bool) → (cond t (refined p y x f) (half_result f centre 0)).found ≡ f
      go true = refl
      go false = refl

  -- an accepted result is a candidate with its own distortion
  own_result : f.refusal ≡ 0 → OwnResult p q.w y x f
  own_result e =
      let zero = block_unrefused older newer q y x e in
      let s = searchable _ _ q y x zero in
      rw (block_accepted older newer q y x zero) (searched_own older newer q s.requested y x s.placed.down s.placed.across)

  -- so it may be refined
  pub refining : f.refusal ≡ 0 → Refining older newer (setting_of q) y x f
  refining e =
      let s = searchable _ _ q y x (block_unrefused older newer q y x e) in
      let own = own_result e in
      let c = own.chosen in
      let small = window_small q.search q.w s.requested.window in
      let near : Within 16 (vector_in f) = record { down = omega (arith, c.window.down); across = omega (arith, c.window.across) } in
      record { placed = s.placed; own = record { chosen = record { window = near; down = c.down; across = c.across }; reported = own.reported } }

  pub half_answer : (search_half older newer q y x).found.refusal ≡ 0 → HalfAnswer p y x (search_half older newer q y x)
  half_answer h =
      let e : f.refusal ≡ 0 = ap (λ (r : SearchResult). r.refusal) (sym half_found) ∙ h in
      let r = refining e in
      rw (half_accepted e) (refined_answer p y x f r.placed.paired.fitting.some r.own)

pub half_most : (p : Pair) (y x : ℕ) (h : Vector) → Bytes p.older → Bytes p.newer
    → half_distortion p y x h ≤ p.setting.n * (p.setting.n * (measure_in p).most)
unfolding half_distortion distortion_by
half_most p y x h older newer =
    sum_over_bound _ p.setting.n p.setting.n _
    (λ i j hi hj. pel_most p.setting.measure _ _ (newer _) (value_most p.older p.setting.width _ _ older))
