-- `choose`: the least key of those measured is carried along, from 2^50 - 1 on, which no key reaches.
use Prim.Native.Nat.{ℕ, ◌<◌}
use mathlib.Core.Path.{◌≡◌}
use mathlib.Core.List.{List, ◌∷◌}
use lib.ListN.{get_or}
use Rattle.base.specs.Lists.{list_to}
use Rattle.base.specs.Least.{least_of}
use Rattle.frame.specs.declared.SearchBlock.{SearchBlock}
use Rattle.pruned_list.specs.Listed.{distortion_to, measured_key}
use Rattle.pruned_list.proofs.choose.Given as goal

-- the key at a place by its distortion
abbrev pub key_at : List ℕ → List ℕ → SearchBlock → List ℕ → ℕ → ℕ
key_at older newer b keys j = measured_key (distortion_to older newer b) (get_or keys j 0)

abbrev pub invariant-loop-key : goal.invariant-loop-key
invariant-loop-key l =
    (l.best < 1125899906842624) × (l.best ≡ least_of (λ k. k) (1125899906842623 ∷ list_to (key_at l.matching.older.now l.matching.newer.now l.matching.block l.keys) l.key-index))
