-- 01, "What the input can be turned away for": "9 search 2: table shorter than (width + 1) × (height + 1)", "10 list shorter than three a block"; and
-- a field's tests as one chain.
--   table_size, list_size     places of the table and of the list that are used
--   table_ok 9 · list_ok 10   what each number asks for
--   field_refusal            1 2 3 4 51 5 6 9 10: a request, and the lengths of table and list
--   HasRoom                 what an accepted field call may go by: has_room
use Rattle.std.specs.Prelude.{ℕ, ◌+◌, ◌*◌, ◌≤◌, ◌≡◌, Bool, not, ◌||◌, T, leb, eqb}
use Rattle.std.proofs.Common.{leb→le}
use Rattle.frame.specs.declared.Setting.{Setting}
use Rattle.frame.specs.Grid.{blocks}
use Rattle.refusals.specs.declared.Request.{Request}
use Rattle.refusals.specs.Refusals.{unless, unless_zero, first_refusal, first_refusal_zero, setting_of, request_refusal}

abbrev pub table_size : Setting → ℕ
table_size s = (s.height + 1) * (s.width + 1)

abbrev pub list_size : Setting → ℕ
list_size s = 3 * blocks s

-- 9 search 2: table shorter than (width + 1) × (height + 1)
abbrev pub table_ok : Request → ℕ → Bool
table_ok q table = not (eqb q.search 2) || leb (table_size (setting_of q)) table

-- 10 list shorter than three a block
abbrev pub list_ok : Request → ℕ → Bool
list_ok q list = leb (list_size (setting_of q)) list

-- frames, list and table come in by their lengths
unfoldable pub field_refusal : ℕ → ℕ → Request → ℕ → ℕ → ℕ
field_refusal older newer q list table =
    first_refusal (request_refusal older newer q)
    (unless (table_ok q table) 9
    (unless (list_ok q list) 10 0))

pub record HasRoom (older newer : ℕ) (q : Request) (list table : ℕ) : Type 0 where
  pub fine : request_refusal older newer q ≡ 0
  pub table_room : q.search ≡ 2 → table_size (setting_of q) ≤ table
  pub list_room : list_size (setting_of q) ≤ list

table_long : (q : Request) (table : ℕ) → T (table_ok q table) → q.search ≡ 2 → table_size (setting_of q) ≤ table
table_long q table t e = leb→le _ _ (rw e at t)

pub has_room : (older newer : ℕ) (q : Request) (list table : ℕ) → field_refusal older newer q list table ≡ 0 → HasRoom older newer q list table
unfolding field_refusal
has_room older newer q list table e =
    let a = first_refusal_zero (request_refusal older newer q) _ e in
    let b = unless_zero (table_ok q table) 8 _ a.1 in
    let c = unless_zero (list_ok q list) 9 0 b.1 in
    record { fine = a.0; table_room = table_long q table b.0; list_room = leb→le _ _ c.0 }
