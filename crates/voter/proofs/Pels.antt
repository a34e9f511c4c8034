-- Of pels, a block votes exactly if two of its pels differ by 8 or more.
--   Differing                what it takes: the pel at row k, column l exceeds the one at row i, column j by 8 or more
--   voter_yes, voter_true    a block that votes has two such pels; a block that has them votes
use Prim.Native.Nat.{ℕ, ◌+◌, ◌-◌, ◌≤◌, ◌<◌}
use mathlib.Core.Path.{◌≡◌}
use mathlib.Core.Bool.{true}
use native.Mathlib.Omega.{arith}
use borrow.Author.Tests.{leb-true, le-leb}
use Rattle.distortion.specs.Blocks.{Block}
use Rattle.voter.specs.Voter.{largest_to, smallest_to, largest, smallest, is_voter}
use Rattle.voter.proofs.Extremes.{largest_above, smallest_below, largest_least, largest_some, smallest_some}

pub record Differing (n : ℕ) (b : Block) : Type 0 where
  pub i : ℕ
  pub j : ℕ
  pub k : ℕ
  pub l : ℕ
  pub inside : (i < n) × (j < n) × (k < n) × (l < n)
  pub apart : b i j + 8 ≤ b k l

pub voter_yes : (n : ℕ) (b : Block) → ((i j : ℕ) → i < n → j < n → b i j ≤ 255) → is_voter n b ≡ true → Differing n b
unfolding is_voter smallest largest
voter_yes n b pels e =
    let low = smallest_to (λ i. smallest_to (b i) n) n in
    let high = largest_to (λ i. largest_to (b i) n) n in
    let apart = leb-true (low + 8) high e in
    let most : high ≤ 255 = largest_least _ n 255 (λ i hi. largest_least (b i) n 255 (λ j hj. pels i j hi hj)) in
    let i = smallest_some (λ i. smallest_to (b i) n) n (low + 1) (omega arith) (omega arith) in
    let j = smallest_some (b i.0) n (low + 1) (omega arith) i.2 in
    let k = largest_some (λ i. largest_to (b i) n) n (high - 1) (omega arith) in
    let l = largest_some (b k.0) n (high - 1) k.2 in
    record { i = i.0; j = j.0; k = k.0; l = l.0; inside = (i.1, j.1, k.1, l.1); apart = omega (arith, j.2, l.2) }

pub voter_true : (n : ℕ) (b : Block) → Differing n b → is_voter n b ≡ true
unfolding is_voter smallest largest
voter_true n b d =
    let h = d.inside in
    let low = smallest_below (λ i. smallest_to (b i) n) n d.i h.0 in
    let high = largest_above (λ i. largest_to (b i) n) n d.k h.2 in
    le-leb (smallest_to (λ i. smallest_to (b i) n) n + 8) (largest_to (λ i. largest_to (b i) n) n)
    (omega (arith, d.apart, smallest_below (b d.i) n d.j h.1, largest_above (b d.k) n d.l h.3))
