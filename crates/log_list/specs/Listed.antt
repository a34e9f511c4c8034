-- Head numbers and a list of three numbers a block, tested as writing a log tests them. 01, "What the input can be turned away for": "Writing tests 1,
-- 3, 4, 5, 10, then 16 with the block's number, from 0, as place": the head's numbers, the list's length, then each block.
-- 02, request 1: 51 is "tested after 4".
--   value_of       the number at place i of block k's three
--   entry_of       block k's three, as the code reads them
--   list_refusal   1 3 4 51 5 10
--   listed_ok      16 lets block k pass: its three numbers are a candidate and its distortion
--   list_verdict   the first that applies, or 0, with its place: a Verdict; verdict_of reads one from what the code answers
--   Writable      1 3 4 51 5 10 let head and list pass; AllPass: 16 lets every block pass too
use Rattle.std.specs.Prelude.{ℕ, ◌+◌, ◌*◌, ◌≤◌, ◌<◌, ◌≡◌, List, Bool, true, cond, leb, ltb, eqb, ℤ, pos, length, get_or, Result, Ok, Err}
use Rattle.base.specs.FirstWrong.{first_wrong}
use Rattle.refusals.specs.Refusals.{unless, first_refusal}
use Rattle.log_head.specs.declared.Head.{Head}
use Rattle.log_head.specs.Heads.{head_refusal, head_blocks, entry_ok}
use Rattle.refusals.specs.declared.Refusal.{Refusal}
use Rattle.refusals.specs.Numbers.{number_of}
use Rattle.log_list.specs.declared.Entry.{Entry}
use Rattle.log_list.specs.declared.Fault.{Fault}

abbrev pub value_of : List ℤ → ℕ → ℕ → ℤ
value_of list k i = get_or list (3 * k + i) (pos 0)

abbrev pub entry_of : List ℤ → ℕ → Entry
entry_of list k = record { dy = value_of list k 0; dx = value_of list k 1; distortion = value_of list k 2 }

-- the list comes in by its length
unfoldable pub list_refusal : Head → ℕ → ℕ
list_refusal h list = first_refusal (head_refusal h) (unless (leb (3 * head_blocks h) list) 10 0)

abbrev pub listed_ok : Head → List ℤ → ℕ → Bool
listed_ok h list k = entry_ok h k (value_of list k 0) (value_of list k 1) (value_of list k 2)

-- a refusal without a place of its own
abbrev pub unplaced : Refusal → Fault
unplaced r = record { refusal = r; place = 0 }

-- the number of the refusal, or 0, and its place
pub record Verdict : Type 0 where
  pub refusal : ℕ
  pub place : ℕ

abbrev pub verdict : ℕ → ℕ → Verdict
verdict refusal place = record { refusal = refusal; place = place }

-- the same of what the code answers
abbrev pub verdict_of : {A : Type 0} → Result A Fault → Verdict
verdict_of (Ok x) = verdict 0 0
verdict_of (Err fault) = verdict (number_of fault.refusal) fault.place

unfoldable pub list_verdict : Head → List ℤ → Verdict
list_verdict h list =
    let refusal = list_refusal h (length list) in
    let wrong = first_wrong (listed_ok h list) 0 (head_blocks h) in
    cond (eqb refusal 0) (cond (ltb wrong (head_blocks h)) (verdict 16 wrong) (verdict 0 0)) (verdict refusal 0)

pub record Writable (h : Head) (list : ℕ) : Type 0 where
  pub fine : head_refusal h ≡ 0
  pub few : head_blocks h ≤ 1048576
  pub room : 3 * head_blocks h ≤ list

pub record AllPass (h : Head) (list : List ℤ) : Type 0 where
  pub listed : Writable h (length list)
  pub each : (k : ℕ) → k < head_blocks h → listed_ok h list k ≡ true
