-- What a field call reads lies in window 16: the vector of most voters does, whatever the search and whoever votes, and so does a refused call's (0,0).
use Prim.Native.Nat.{ℕ}
use mathlib.Core.Path.{◌≡◌}
use mathlib.Core.List.{List}
use native.Mathlib.Decide.{ℕ_discrete}
use native.Mathlib.Omega.{arith}
use lib.IntN.{ℤ}
use Rattle.order.specs.Vectors.{vec, Within}
use Rattle.refusals.specs.declared.Request.{Request}
use Rattle.reading.proofs.Majority.{majority_within}
use Rattle.field.specs.Field.{field_answer, FieldResult, field, refusal_is, field_refused, field_accepted}

abbrev pub Reads : FieldResult → Type 0
Reads f = Within 16 (vec f.answer.dy f.answer.dx)

pub reading_within : (older newer : List ℕ) (q : Request) (list : List ℤ) (table : List ℕ) → Reads (field older newer q list table)
unfolding field_answer
reading_within older newer q list table = go (ℕ_discrete (refusal_is older newer q list table) 0)
  where
    go : Dec (refusal_is older newer q list table ≡ 0) → Reads (field older newer q list table)
    go (yes e) = rw (field_accepted older newer q list table e) (majority_within _ _ _)
    go (no n) = rw (field_refused older newer q list table n) (record { down = omega arith; across = omega arith })
