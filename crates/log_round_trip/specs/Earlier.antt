-- 02, request 4: "Every log accepted so far reads to the same numbers as before." The format as it was, in definitions of its own: 01, "Log", with commands 1
-- to 4 alone, N 4, 8 or 16, distortions of two bytes and no measure. Nothing here goes by the commands of today.
--   Earlier            what a log of that format says: the head's five numbers, and the field, three numbers a block
--   Allowed            15 and 16 as they were let it pass
--   earlier_log         its bytes: "one head, all grid blocks in order, one end"
--   earlier_text        what the program printed for it
--   head_of             its head today: the same five numbers, and measure 1; earlier_of: what is read of a log today, without the measure
--   EarlierLogs        the theorem; proofs/Earlier.antt has earlier_logs : EarlierLogs
use Rattle.std.specs.Prelude.{ℕ, ◌*◌, ◌≤◌, ◌<◌, ◌≡◌, ◌⊎◌, true, cond, List, [], ◌∷◌, ◌++◌, ℤ, pos, length, take, drop}
use Rattle.base.specs.Lists.{Each, concat_to}
use Rattle.signed.specs.Int.{up, dn}
use Rattle.signed.specs.Values.{byte_of}
use Rattle.frame.specs.Pictures.{setting}
use Rattle.frame.specs.Grid.{blocks}
use Rattle.refusals.specs.Refusals.{window_ok}
use Rattle.log_head.specs.declared.Head.{Head}
use Rattle.log_head.specs.Heads.{head_blocks, candidate_ok, is_still}
use Rattle.log_list.specs.Listed.{value_of}
use Rattle.log_command.specs.Numbers.{bytes2, bytes4}
use Rattle.log_reading.specs.Reading.{accepted_read, read_result, read_log}
use Rattle.log_line.specs.Line.{spaced, end_word}
use Rattle.log_text.specs.Text.{longest_log, print_log}

pub record Earlier : Type 0 where
  pub width : ℕ
  pub height : ℕ
  pub n : ℕ
  pub w : ℕ
  pub search : ℕ
  pub field : List ℤ

abbrev pub head_of : Earlier → Head
head_of e = record { width = e.width; height = e.height; n = e.n; w = e.w; search = e.search; measure = 1 }

abbrev pub earlier_of : Head → List ℤ → Earlier
earlier_of h list =
    record { width = h.width; height = h.height; n = h.n; w = h.w; search = h.search; field = take (3 * head_blocks h) list }

-- "all grid blocks"
abbrev pub grid_blocks : Earlier → ℕ
grid_blocks e = blocks (setting e.width e.height e.n 1)

-- the three numbers of block k: dy, dx, distortion
abbrev pub down : Earlier → ℕ → ℤ
down e k = value_of e.field k 0

abbrev pub across : Earlier → ℕ → ℤ
across e k = value_of e.field k 1

abbrev pub distortion : Earlier → ℕ → ℤ
distortion e k = value_of e.field k 2

-- ---- 15: "head that 1, 3, 4 or 5 would turn away"; 16: "block vector no candidate, distortion below 0 or over 255 × N²"

-- (dn and up: how far an integer lies below and above 0)
pub record Allowed (e : Earlier) : Type 0 where
  pub wide : (4 ≤ e.width) × (e.width ≤ 1024)
  pub high : (4 ≤ e.height) × (e.height ≤ 1024)
  pub size : (e.n ≡ 4) ⊎ ((e.n ≡ 8) ⊎ (e.n ≡ 16))
  pub fits : (e.n ≤ e.width) × (e.n ≤ e.height)
  pub searched : (1 ≤ e.search) × (e.search ≤ 4)
  pub window : window_ok e.search e.w ≡ true
  pub whole : length e.field ≡ 3 * grid_blocks e
  pub vector : (k : ℕ) → k < grid_blocks e → candidate_ok (setting e.width e.height e.n 1) e.w k (down e k) (across e k) ≡ true
  pub not_below : (k : ℕ) → k < grid_blocks e → dn (distortion e k) ≡ 0
  pub not_over : (k : ℕ) → k < grid_blocks e → up (distortion e k) ≤ 255 * (e.n * e.n)

-- ---- the bytes

-- "Head: width and height (2 bytes each), N, w, search (1 each)."
abbrev pub earlier_head : Earlier → List ℕ
earlier_head e = 1 ∷ bytes2 e.width ++ bytes2 e.height ++ (e.n ∷ e.w ∷ e.search ∷ [])

-- "Block: dy, dx as two's-complement bytes, distortion 2 bytes. Still block: no operand, for (0,0) with distortion 0"
unfoldable pub earlier_block : Earlier → ℕ → List ℕ
earlier_block e k =
    cond (is_still (down e k) (across e k) (distortion e k)) (3 ∷ []) (2 ∷ byte_of (down e k) ∷ byte_of (across e k) ∷ bytes2 (up (distortion e k)))

-- "End: number of blocks, 4 bytes."
abbrev pub earlier_end : Earlier → List ℕ
earlier_end e = 4 ∷ bytes4 (grid_blocks e)

unfoldable pub earlier_log : Earlier → List ℕ
earlier_log e = earlier_head e ++ concat_to (earlier_block e) (grid_blocks e) ++ earlier_end e

-- ---- the text: "width, height, N, w, search; dy, dx, distortion; blocks"

abbrev pub earlier_line : Earlier → ℕ → List ℕ
earlier_line e k = spaced (down e k ∷ across e k ∷ distortion e k ∷ [])

unfoldable pub earlier_text : Earlier → List ℕ
earlier_text e =
    spaced (pos e.width ∷ pos e.height ∷ pos e.n ∷ pos e.w ∷ pos e.search ∷ [])
    ++ concat_to (earlier_line e) (grid_blocks e)
    ++ (end_word ++ spaced (pos (grid_blocks e) ∷ []))

-- ---- the theorem

pub record EarlierLogs : Type 0 where
  -- An earlier log reads to its five numbers, with measure 1, and its field, into every list that is long enough,
  pub reads : (e : Earlier) → Allowed e → (list : List ℤ) → length e.field ≤ length list
      → read_log (earlier_log e) list ≡ read_result (accepted_read (head_of e)) (e.field ++ drop (length e.field) list)
  -- and prints as it did.
  pub prints : (e : Earlier) → Allowed e → length (earlier_log e) ≤ longest_log → print_log (earlier_log e) ≡ earlier_text e
  -- No other log was accepted, and none is today but for measure 2 and N 32: one that is read with measure 1 and another N is an earlier log.
  pub no_other : (log : List ℕ) → Each (λ (b : ℕ). b < 256) log → (list : List ℤ) → (read_log log list).answer.refusal ≡ 0
      → (read_log log list).answer.head.measure ≡ 1 → ((read_log log list).answer.head.n ≡ 32 → ⊥)
      → let e = earlier_of (read_log log list).answer.head (read_log log list).list in
      Allowed e × (log ≡ earlier_log e)
