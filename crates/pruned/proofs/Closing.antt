-- The end of search 2: the best of the few that are listed, or what full search finds.
--   closing_in      the listed are candidates
--   closing_chosen  the least key by distortion holds the best of all, and its distortion
--   full_answer     full search finds the same
use Prim.Native.Nat.{ℕ, ◌/◌, ◌%◌, ◌≤◌}
use mathlib.Core.Path.{◌≡◌, ap, ◌∙◌}
use mathlib.Core.Bool.{false, ◌&&◌}
use mathlib.Core.List.{List}
use native.Mathlib.Omega.{arith}
use borrow.Author.Tests.{le-ltb}
use lib.ListN.{length}
use Rattle.frame.specs.Pictures.{pair_of}
use Rattle.frame.specs.declared.SearchBlock.{SearchBlock}
use Rattle.search.specs.declared.SearchResult.{SearchResult}
use Rattle.search.specs.Exhaustive.{best}
use Rattle.search.specs.Target.{Ready}
use Rattle.reach.specs.Reach.{Standing}
use Rattle.reach.proofs.Candidates.{ready_standing, reach_small}
use Rattle.full.specs.Full.{full_search}
use Rattle.pruned_rule.specs.Spots.{vector_on, choice_of}
use Rattle.pruned_rule.proofs.Spots.{spots_reach}
use Rattle.pruned_list.specs.Listed.{spot_of, distance_of, SpotsIn, distortion_to, least_measured}
use Rattle.pruned_list.proofs.Listed.{chosen_measured}
use Rattle.pruned.specs.declared.Remaining.{Remaining}
use Rattle.pruned.specs.Flow.{few, fits, by_all, Closing}
use Rattle.pruned.proofs.Steps.{listed_grid, listed_in}

module _ {older newer : List ℕ} {b : SearchBlock} (ready : Ready older newer b) {keys : List ℕ} {q : Remaining} (c : Closing older newer b keys q)
    (low : q.count ≤ few) where
  abbrev standing : Standing b
  standing = ready_standing older newer b ready

  abbrev listed : by_all b.setting c.m q.count ≡ false
  listed = ap (λ t. t && fits b.setting c.m) (le-ltb few q.count low)

  pub closing_room : q.count ≤ length keys
  closing_room = (c.held.listed listed).0

  pub closing_in : SpotsIn b keys q.count
  closing_in = listed_in b standing c.ts keys q.count c.among closing_room (c.held.listed listed).1.0 (c.held.listed listed).1.1

  pub closing_chosen : (key : ℕ) → key ≡ least_measured (distortion_to older newer b) keys q.count →
      (spot_of key / 64 ≤ 32) × (spot_of key % 64 ≤ 32) × (vector_on (spot_of key) ≡ choice_of b (distortion_to older newer b))
      × (distance_of key ≡ distortion_to older newer b (choice_of b (distortion_to older newer b)))
  closing_chosen key is =
      let grid = listed_grid b standing c.ts keys q.count c.among closing_room (c.held.listed listed).1.0 (c.held.listed listed).1.1 in
      let (chosen, cost) =
      chosen_measured (c.held.listed listed).1.0 c.ts keys q.count c.some closing_room (c.held.listed listed).1.1 grid (distortion_to older newer b) key is in
      let small = reach_small b standing _ _ (spots_reach b standing (c.among _ chosen.member)) in
      let v = c.best (spot_of key) chosen in
      (omega (arith, small), omega (arith, small), v, cost ∙ ap (distortion_to older newer b) v)

pub full_answer : (older newer : List ℕ) (b : SearchBlock) (f : SearchResult) → f ≡ full_search (pair_of older newer b.setting) b.w b.y b.x
    → let v = choice_of b (distortion_to older newer b) in (f.dy ≡ v.dy) × (f.dx ≡ v.dx) × (f.distortion ≡ distortion_to older newer b v)
unfolding full_search best
full_answer older newer b f e = (ap (λ (r : SearchResult). r.dy) e, ap (λ (r : SearchResult). r.dx) e, ap (λ (r : SearchResult). r.distortion) e)
