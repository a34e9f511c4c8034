-- A frame that is cut where a block begins: it begins with that block.
--   voter_ext         blocks that agree vote alike
--   standing_inside   the block's rows lie in what is left
--   standing_votes    it votes exactly if the block that what is left begins with does
--   last_size         an N that is none of 16, 8 and 4 is 32
use Prim.Native.Nat.{ℕ, ◌+◌, ◌*◌, ◌%◌, ◌≤◌}
use mathlib.Core.Path.{◌≡◌, refl, ◌∙◌}
use mathlib.Core.Bool.{Bool}
use mathlib.Core.List.{List}
use native.Mathlib.Nat.{zero-add, pow-suc}
use native.Mathlib.Omega.{arith}
use lib.ListN.{length, length-drop}
use lib.Seq.{get_or-drop}
use borrow.Author.Rules.{part_to_end}
use Rattle.frame.specs.declared.Setting.{Setting}
use Rattle.refusals.specs.Refusals.{block_size_elim, block_size}
use Rattle.distortion.specs.Blocks.{Block, block_at, running_place, Comparable, block-inside, size_small}
use Rattle.distortion.proofs.Rows.{part_from}
use Rattle.voter.specs.Voter.{largest_to, smallest_to, largest, smallest, is_voter, Standing}
use Rattle.voter.proofs.Extremes.{largest_ext, smallest_ext}

pub voter_ext : (n : ℕ) (b c : Block) → ((i j : ℕ) → b i j ≡ c i j) → is_voter n b ≡ is_voter n c
unfolding is_voter smallest largest
voter_ext n b c h =
    rw (
      smallest_ext (λ i. smallest_to (b i) n) (λ i. smallest_to (c i) n) n (λ i. smallest_ext (b i) (c i) n (h i)),
      largest_ext (λ i. largest_to (b i) n) (λ i. largest_to (c i) n) n (λ i. largest_ext (b i) (c i) n (h i)),
    )

module _ (newer : List ℕ) (s : Setting) (y x : ℕ) (h : Standing (length newer) s y x) where
  -- a block is comparable with itself
  itself : Comparable newer newer s y x y x
  itself =
      let f = h.framed in
      record {
        placed = record {
          paired = record { fitting = f.fitting; allowed = f.allowed; older_whole = f.whole; newer_whole = f.whole };
          down = h.down;
          across = h.across;
        };
        down = h.down;
        across = h.across;
      }

  pub standing_inside : (n : ℕ) → s.n ≡ n
      → (n * s.width + n ≤ length (part_from (y * s.width + x) newer) + s.width) × (s.width ≤ 1024) × (n ≤ 64) × (n % 2 ≡ 0)
  standing_inside n e =
      let k = block-inside newer newer s y x y x itself in
      let small = size_small s.n h.framed.allowed in
      let size = block_size s.n h.framed.allowed in
      rw (part_to_end, length-drop, ← e) (omega (arith, k.in_newer), k.wide, omega arith, omega (arith, size.power, pow-suc 2 size.doublings))

  pub standing_votes : (n : ℕ) (r : Bool) → s.n ≡ n → r ≡ is_voter n (block_at (part_from (y * s.width + x) newer) s.width 0 0)
      → r ≡ is_voter s.n (block_at newer s.width y x)
  standing_votes n r e q = rw e (q ∙ voter_ext n _ _ pel_is)
    where
      pel_is : (i j : ℕ) → block_at (part_from (y * s.width + x) newer) s.width 0 0 i j ≡ block_at newer s.width y x i j
      pel_is i j = rw (part_to_end, get_or-drop, zero-add, zero-add, running_place)

  pub last_size : (s.n ≡ 16 → ⊥) → (s.n ≡ 8 → ⊥) → (s.n ≡ 4 → ⊥) → s.n ≡ 32
  last_size a b c =
      block_size_elim (λ (m : ℕ). s.n ≡ m → s.n ≡ 32) (λ e. absurd (c e)) (λ e. absurd (b e)) (λ e. absurd (a e)) (λ e. e) s.n h.framed.allowed refl
