-- 01, "Worked pairs": "Marked * belong to the proved set." These, A to I, stand here in one table, with one proof over it. A row has a query of a pair
-- and the answer that is owed, in 01's words above it; it is right if the definitions that the contracts cite give that answer.
--   pair_a, pair_b, pair_c, pair_d, pair_l, pair_m   the frames with their setting, by the absolute measure; E and F have C's, G and H have B's; bySquares: by squares
--   pair32     32×32, N 32, older all 255, newer all 0: the largest distortion (02, request 4)
--   speckled   frames of one grey but for one pel, for what makes a voter
--   full, pruned, four_step, cross   a request for a search of a pair
--   head_of, log_b, log_c   a head by search 2 with w 1; the logs of B and C; log32, log32Squares: those of pair32 by either measure
--   held_list, held_table, held_buffer   what lent memory held
--   Query    a query: a search of one block, the measuring call, a distance, a field, a travel, calls on a track, or a log that is written, read,
--            walked or printed
--   answer   the answer by the definitions
--   Row      a query, and the answer that is owed; Right: the definitions give it
--   table    the rows; the proof over them: proofs/Worked.antt
use Rattle.std.specs.Prelude.{ℕ, ◌+◌, ◌*◌, ◌≡◌, true, List, [], ◌∷◌, ◌++◌, ℤ, pos, neg_ℤ, length, replicate}
use Rattle.base.specs.Lists.{concat_to}
use Rattle.order.specs.declared.Vector.{Vector}
use Rattle.order.specs.Vectors.{vec}
use Rattle.refusals.specs.declared.Request.{Request}
use Rattle.frame.specs.Pictures.{Pair, pair_of, setting}
use Rattle.measuring.specs.declared.Measured.{Measured}
use Rattle.distortion.specs.Blocks.{measure_in, newer_block, older_block}
use Rattle.measuring.specs.Measured.{measure_vector}
use Rattle.search.specs.declared.SearchResult.{SearchResult}
use Rattle.search.specs.SearchResult.{search_result, only_at_one, refused_search}
use Rattle.probe.specs.Probe.{origin}
use Rattle.pruned_rule.specs.Distance.{distance_by}
use Rattle.block.specs.Block.{search_block}
use Rattle.half_search.specs.declared.HalfResult.{HalfResult}
use Rattle.half_search.specs.Half.{half_result, search_half}
use Rattle.field.specs.declared.FieldAnswer.{FieldAnswer}
use Rattle.refusals.specs.Refusals.{request_of}
use Rattle.field.specs.Field.{refused_field, FieldResult, field_result, field}
use Rattle.recent.specs.declared.Recent.{Recent}
use Rattle.track.specs.declared.Track.{Track}
use Rattle.track.specs.Track.{homed_at, step_result}
use Rattle.log_head.specs.declared.Head.{Head}
use Rattle.log_command.specs.declared.Command.{Command}
use Rattle.log_command.specs.declared.Command.TheVariants as Cmd
use Rattle.log_cursor.specs.Walk.{walk}
use Rattle.log_writing.specs.Writing.{WriteResult, write_result, write_log}
use Rattle.log_reading.specs.Reading.{ReadResult, read_result, refused_read, accepted_read, read_log}
use Rattle.log_text.specs.Text.{print_log}
use Rattle.promise.specs.Demand.{Call, Result, travel, run}
use Rattle.promise.specs.Demand.Call.{home, step}
use Rattle.promise.specs.Demand.Result.{homing, stepping}

-- ---- the frames

abbrev pub twice : List ℕ → List ℕ
twice rows = rows ++ rows

-- A* "4×4, N 4, .. newer all 10, older all 12"
unfoldable pub pair_a : Pair
pair_a = pair_of (replicate 16 12) (replicate 16 10) (setting 4 4 4 1)

-- B* "width 5, height 4, N 4, .. older rows 0 10 20 30 40, newer rows 10 20 30 40 99"
unfoldable pub pair_b : Pair
pair_b = pair_of (twice (twice (0 ∷ 10 ∷ 20 ∷ 30 ∷ 40 ∷ []))) (twice (twice (10 ∷ 20 ∷ 30 ∷ 40 ∷ 99 ∷ []))) (setting 5 4 4 1)

-- C* "8×8, all 7, N 4"
unfoldable pub pair_c : Pair
pair_c = pair_of (replicate 64 7) (replicate 64 7) (setting 8 8 4 1)

-- D* "4×4, newer alternating 0 and 20 along and down, older all 10"
unfoldable pub pair_d : Pair
pair_d = pair_of (replicate 16 10) (twice (0 ∷ 20 ∷ 0 ∷ 20 ∷ 20 ∷ 0 ∷ 20 ∷ 0 ∷ [])) (setting 4 4 4 1)

-- 32×32, N 32, older all 255, newer all 0
unfoldable pub pair32 : Pair
pair32 = pair_of (replicate 1024 255) (replicate 1024 0) (setting 32 32 32 1)

-- L*, width 5, height 4, N 4, older rows 0 10 20 30 40, newer ones 5 more: half a pel to the right (02, request 6)
unfoldable pub pair_l : Pair
pair_l = pair_of (twice (twice (0 ∷ 10 ∷ 20 ∷ 30 ∷ 40 ∷ []))) (twice (twice (5 ∷ 15 ∷ 25 ∷ 35 ∷ 45 ∷ []))) (setting 5 4 4 1)

-- M*, 5×5, N 4, each row 10 more than the one above: older first row 0 11 20 31 40, newer first row 11 21 31 41 51
unfoldable pub pair_m : Pair
pair_m =
    pair_of (older_row 0 ++ older_row 10 ++ older_row 20 ++ older_row 30 ++ older_row 40) (newer_row 11 ++ newer_row 21 ++ newer_row 31 ++ newer_row 41 ++ newer_row 51) (setting 5 5 4 1)
  where
    older_row : ℕ → List ℕ
    older_row a = a ∷ (a + 11) ∷ (a + 20) ∷ (a + 31) ∷ (a + 40) ∷ []

    newer_row : ℕ → List ℕ
    newer_row a = a ∷ (a + 10) ∷ (a + 20) ∷ (a + 30) ∷ (a + 40) ∷ []

-- 4×4, all 10 but for the newer one's first pel
abbrev pub speckled : ℕ → Pair
speckled first = pair_of (replicate 16 10) (first ∷ replicate 15 10) (setting 4 4 4 1)

-- the same frames, measured by squares (02, request 1)
abbrev pub by_squares : Pair → Pair
by_squares p = pair_of p.older p.newer (setting p.setting.width p.setting.height p.setting.n 2)

-- ---- the requests

abbrev pub full : ℕ → Pair → Request
full w p = request_of p.setting 1 w 0

abbrev pub pruned : ℕ → Pair → Request
pruned w p = request_of p.setting 2 w 0

abbrev pub four_step : Pair → Request
four_step p = request_of p.setting 3 7 0

abbrev pub cross : ℕ → ℕ → Pair → Request
cross w t p = request_of p.setting 4 w t

abbrev pub minus : ℕ → ℤ
minus n = neg_ℤ (pos n)

-- what n places of a lent list and of a lent table held before the call: "Places past the used part of any lent memory keep what they held."
abbrev pub held_list : ℕ → List ℤ
held_list n = replicate n (pos 5)

abbrev pub held_table : ℕ → List ℕ
held_table n = replicate n 6

abbrev pub held_buffer : ℕ → List ℕ
held_buffer n = replicate n 8

-- a search of the block at row y, column x, and to half a pel; a vector of the block at (0,0) measured under a ceiling; the distance at m of the two blocks at (0,0); a
-- field with what list and table held; a travel by window w; calls on a track, from New on; a log written into a buffer, read into a list, walked, printed
pub data Query : Type 0 where
  search : Pair → (Pair → Request) → (y x : ℕ) → Query
  half_search : Pair → (Pair → Request) → (y x : ℕ) → Query
  measuring : Pair → Vector → (ceiling : ℕ) → Query
  distance : Pair → (m : ℕ) → Query
  every_block : Pair → (Pair → Request) → List ℤ → List ℕ → Query
  travelling : Pair → (w : ℕ) → Query
  calls : List Call → Query
  writing : Head → List ℤ → List ℕ → Query
  reading : List ℕ → List ℤ → Query
  walking : List ℕ → Query
  printing : List ℕ → Query

-- ---- what is answered

pub data Answer : Type 0 where
  found : SearchResult → Answer
  half : HalfResult → Answer
  amount : Measured → Answer
  apart : ℕ → Answer
  filled : FieldResult → Answer
  travels : Vector → Answer
  results : List Result → Answer
  written : WriteResult → Answer
  read : ReadResult → Answer
  commands : List Command → Answer
  text : List ℕ → Answer

-- by the definitions
abbrev pub answer : Query → Answer
answer (search p q y x) = found (search_block p.older p.newer (q p) y x)
answer (half_search p q y x) = half (search_half p.older p.newer (q p) y x)
answer (measuring p v ceiling) = amount (measure_vector p 0 0 v ceiling)
answer (distance p m) = apart (distance_by (measure_in p) p.setting.n m (newer_block p 0 0) (older_block p 0 0 origin))
answer (every_block p q list table) = filled (field p.older p.newer (q p) list table)
answer (travelling p w) = travels (travel p w)
answer (calls cs) = results (run cs)
answer (writing h list buffer) = written (write_log h list buffer)
answer (reading log list) = read (read_log log list)
answer (walking log) = commands (walk log)
answer (printing log) = text (print_log log)

-- what a search owes: a vector, its distortion, the counts, which have a 0 more in front than 01 prints (02, request 4), and the number dropped
abbrev pub finds : Vector → ℕ → List ℕ → ℕ → Answer
finds v d counts dropped = found (search_result v d counts dropped)

-- (0,0) with distortion 0 after so many probes, as wherever all pels are alike
abbrev pub still_after : ℕ → Answer
still_after probes = finds origin 0 (only_at_one probes) 0

-- what the half-pel call owes where (0,0) is the only candidate: its distortion, then the winner's vector, in half pels, and its distortion
abbrev pub refines : ℕ → Vector → ℕ → Answer
refines d h e = half (half_result (search_result origin d (only_at_one 1) 0) h e)

-- what the measuring call owes: a distortion and all N rows, or the row at whose end it is over
abbrev pub measures : (d n : ℕ) → Answer
measures d n = amount (record { refusal = 0; distortion = d; over = 0; rows = n })

abbrev pub over_at : (row : ℕ) → Answer
over_at row = amount (record { refusal = 0; distortion = 0; over = 1; rows = row })

-- the reading with its votes and the voters, and the sums over the blocks
abbrev pub reads : Vector → (votes voters : ℕ) → List ℕ → ℕ → FieldAnswer
reads v votes voters counts dropped =
    record { refusal = 0; dy = v.dy; dx = v.dx; votes = votes; voters = voters; counts = counts; dropped = dropped }

-- 02, request 3: "a field call without a voter reads (0,0), 0 and 0"
abbrev pub reads_blank : List ℕ → ℕ → FieldAnswer
reads_blank counts dropped = reads origin 0 0 counts dropped

-- with what list and table then hold
abbrev pub fills : FieldAnswer → List ℤ → List ℕ → Answer
fills a list table = filled (field_result a list table)

-- a block's three numbers of the list: "dy, dx, distortion"
abbrev pub triple : Vector → ℕ → List ℤ
triple v d = v.dy ∷ v.dx ∷ pos d ∷ []

abbrev pub still_block : List ℤ
still_block = triple origin 0

abbrev pub times : ℕ → List ℕ → List ℕ
times r [] = []
times r (n ∷ ns) = r * n ∷ times r ns

-- the table of sums of a frame whose rows are alike, from one row's sums: those of r rows are r times as much
abbrev pub sums_of : List ℕ → (height : ℕ) → List ℕ
sums_of row height = concat_to (λ r. times r row) (height + 1)

-- ---- by field: what list and table hold, two places longer than the used part

abbrev pub list_a : List ℤ
list_a = triple origin 32 ++ held_list 2

abbrev pub table_a : List ℕ
table_a = sums_of (0 ∷ 12 ∷ 24 ∷ 36 ∷ 48 ∷ []) 4 ++ held_table 2

abbrev pub vector_b : Vector
vector_b = vec (pos 0) (pos 1)

abbrev pub list_b : List ℤ
list_b = triple vector_b 0 ++ held_list 2

abbrev pub table_b : List ℕ
table_b = sums_of (0 ∷ 0 ∷ 10 ∷ 30 ∷ 60 ∷ 100 ∷ []) 4 ++ held_table 2

-- "four still blocks"
abbrev pub list_c : List ℤ
list_c = still_block ++ still_block ++ still_block ++ still_block ++ held_list 2

abbrev pub table_c : List ℕ
table_c = sums_of (0 ∷ 7 ∷ 14 ∷ 21 ∷ 28 ∷ 35 ∷ 42 ∷ 49 ∷ 56 ∷ []) 8 ++ held_table 2

-- ---- on a track: "home (y, x), step B", and A and C likewise

-- B by search 2
abbrev pub reads_b : FieldAnswer
reads_b = reads vector_b 1 1 (0 ∷ 0 ∷ 0 ∷ 2 ∷ 2 ∷ 1 ∷ []) 1

abbrev pub step_a : Call
step_a = step pair_a 16 0 (held_list 5) (held_table 27)

abbrev pub step_b : Call
step_b = step pair_b 1 0 (held_list 5) (held_table 32)

abbrev pub step_c : Call
step_c = step pair_c 1 0 (held_list 14) (held_table 83)

abbrev pub home_and_step : ℤ → ℤ → Call → Query
home_and_step y x c = calls (home y x ∷ c ∷ [])

-- one travel held, in the first place: 02, request 7
abbrev pub one_held : ℤ → ℤ → Recent
one_held dy dx = record { held = 1; dy = dy ∷ replicate 63 (pos 0); dx = dx ∷ replicate 63 (pos 0); down = dy; across = dx }

-- Home is accepted; the step hands the track back, with what the field call answers or a refusal, and list and table are filled
abbrev pub homed_and_stepped : ℤ → ℤ → Track → FieldAnswer → List ℤ → List ℕ → Answer
homed_and_stepped y x t a list table =
    let first = homing (record { refusal = 0; track = homed_at y x }) in
    let second = stepping (step_result (record { track = t; answer = a }) list table) in
    results (first ∷ second ∷ [])

-- 02, request 3: "52 ..; list and table are filled as with 33": the old track, zeros
abbrev pub blank_stepped : ℤ → ℤ → List ℤ → List ℕ → Answer
blank_stepped y x list table = homed_and_stepped y x (homed_at y x) (refused_field 52) list table

-- ---- logs: what buffer and list hold, two places longer than the used part

-- the head of a pair searched by search 2 with w 1
abbrev pub head_of : Pair → Head
head_of p = record { width = p.setting.width; height = p.setting.height; n = p.setting.n; w = 1; search = 2; measure = p.setting.measure }

-- "search 2's log above": `01 00 05 00 04 04 01 02 02 00 01 00 00 04 00 00 00 01`
abbrev pub log_b : List ℕ
log_b = 1 ∷ 0 ∷ 5 ∷ 0 ∷ 4 ∷ 4 ∷ 1 ∷ 2 ∷ 2 ∷ 0 ∷ 1 ∷ 0 ∷ 0 ∷ 4 ∷ 0 ∷ 0 ∷ 0 ∷ 1 ∷ []

-- "5 4 4 1 2", "0 1 0" and "end 1", each line with its end
abbrev pub text_b : List ℕ
text_b =
    53 ∷ 32 ∷ 52 ∷ 32 ∷ 52 ∷ 32 ∷ 49 ∷ 32 ∷ 50 ∷ 10
    ∷ 48 ∷ 32 ∷ 49 ∷ 32 ∷ 48 ∷ 10
    ∷ 101 ∷ 110 ∷ 100 ∷ 32 ∷ 49 ∷ 10 ∷ []

-- `01 00 08 00 08 04 01 02 03 03 03 03 04 00 00 00 04`
abbrev pub log_c : List ℕ
log_c = 1 ∷ 0 ∷ 8 ∷ 0 ∷ 8 ∷ 4 ∷ 1 ∷ 2 ∷ 3 ∷ 3 ∷ 3 ∷ 3 ∷ 4 ∷ 0 ∷ 0 ∷ 0 ∷ 4 ∷ []

-- 02, request 4: command 5 with 261,120: `01 00 20 00 20 20 01 02 05 00 00 00 03 fc 00 04 00 00 00 01`
abbrev pub log32 : List ℕ
log32 = 1 ∷ 0 ∷ 32 ∷ 0 ∷ 32 ∷ 32 ∷ 1 ∷ 2 ∷ 5 ∷ 0 ∷ 0 ∷ 0 ∷ 3 ∷ 252 ∷ 0 ∷ 4 ∷ 0 ∷ 0 ∷ 0 ∷ 1 ∷ []

-- by squares, commands 6 and 5, with 66,585,600: `06 00 20 00 20 20 01 02 02 05 00 00 03 f8 04 00 04 00 00 00 01`
abbrev pub log32_squares : List ℕ
log32_squares = 6 ∷ 0 ∷ 32 ∷ 0 ∷ 32 ∷ 32 ∷ 1 ∷ 2 ∷ 2 ∷ 5 ∷ 0 ∷ 0 ∷ 3 ∷ 248 ∷ 4 ∷ 0 ∷ 4 ∷ 0 ∷ 0 ∷ 0 ∷ 1 ∷ []

-- "32 32 32 1 2 2", "0 0 66585600" and "end 1": "Its printed line ends with the measure."
abbrev pub text32_squares : List ℕ
text32_squares =
    51 ∷ 50 ∷ 32 ∷ 51 ∷ 50 ∷ 32 ∷ 51 ∷ 50 ∷ 32 ∷ 49 ∷ 32 ∷ 50 ∷ 32 ∷ 50 ∷ 10
    ∷ 48 ∷ 32 ∷ 48 ∷ 32 ∷ 54 ∷ 54 ∷ 53 ∷ 56 ∷ 53 ∷ 54 ∷ 48 ∷ 48 ∷ 10
    ∷ 101 ∷ 110 ∷ 100 ∷ 32 ∷ 49 ∷ 10 ∷ []

-- pair32's list, with distortion d
abbrev pub list32 : ℕ → List ℤ
list32 d = triple origin d ++ held_list 2

-- command 6 carrying this measure, before a still block; command 5 with 65,535
abbrev pub carrying : ℕ → List ℕ
carrying measure = 6 ∷ 0 ∷ 32 ∷ 0 ∷ 32 ∷ 32 ∷ 1 ∷ 2 ∷ measure ∷ 3 ∷ 4 ∷ 0 ∷ 0 ∷ 0 ∷ 1 ∷ []

abbrev pub long65535 : List ℕ
long65535 = 1 ∷ 0 ∷ 32 ∷ 0 ∷ 32 ∷ 32 ∷ 1 ∷ 2 ∷ 5 ∷ 0 ∷ 0 ∷ 0 ∷ 0 ∷ 255 ∷ 255 ∷ 4 ∷ 0 ∷ 0 ∷ 0 ∷ 1 ∷ []

abbrev pub writes : List ℕ → Answer
writes log = written (write_result (record { refusal = 0; place = 0; length = length log }) (log ++ held_buffer 2))

abbrev pub reads_as : Head → List ℤ → Answer
reads_as h list = read (read_result (accepted_read h) list)

-- ---- the table

pub record Row : Type 0 where
  pub query : Query
  pub owed : Answer

abbrev pub Right : Row → Type 0
Right r = answer r.query ≡ r.owed

infix 10 ◌gives◌
abbrev pub ◌gives◌ : Query → Answer → Row
q gives a = record { query = q; owed = a }

unfoldable pub table : List Row
table =
    -- A* ".. w 16, ..: (0,0), 32; pruned 0,0,1,1,1"
    (search pair_a (full 16) 0 0 gives finds origin 32 (only_at_one 1) 0)
    ∷ (search pair_a (pruned 16) 0 0 gives finds origin 32 (0 ∷ 0 ∷ 0 ∷ 1 ∷ 1 ∷ 1 ∷ []) 0)
    ∷ (measuring pair_a origin 4080 gives measures 32 4)
    ∷ (every_block pair_a (full 16) (held_list 5) (held_table 27) gives fills (reads_blank (only_at_one 1) 0) list_a (held_table 27))
    ∷ (every_block pair_a (pruned 16) (held_list 5) (held_table 27) gives fills (reads_blank (0 ∷ 0 ∷ 0 ∷ 1 ∷ 1 ∷ 1 ∷ []) 0) list_a table_a)
    -- B* ".. w 1, ..: (0,1), 0; full 2; pruned 0,0,2,2,1, dropped 1; travel (0,-1)"
    ∷ (search pair_b (full 1) 0 0 gives finds vector_b 0 (only_at_one 2) 0)
    ∷ (search pair_b (pruned 1) 0 0 gives finds vector_b 0 (0 ∷ 0 ∷ 0 ∷ 2 ∷ 2 ∷ 1 ∷ []) 1)
    ∷ (measuring pair_b vector_b 4080 gives measures 0 4)
    ∷ (every_block pair_b (full 1) (held_list 5) (held_table 32) gives fills (reads vector_b 1 1 (only_at_one 2) 0) list_b (held_table 32))
    ∷ (every_block pair_b (pruned 1) (held_list 5) (held_table 32) gives fills reads_b list_b table_b)
    ∷ (travelling pair_b 1 gives travels (vec (pos 0) (minus 1)))
    -- "search 2's log above"
    ∷ (writing (head_of pair_b) list_b (held_buffer 20) gives writes log_b)
    ∷ (reading log_b (held_list 5) gives reads_as (head_of pair_b) list_b)
    ∷ (walking log_b gives commands (Cmd.Head (head_of pair_b) ∷ Cmd.Block (pos 0) (pos 1) 0 ∷ Cmd.End 1 ∷ Cmd.Refused 34 0 ∷ []))
    ∷ (printing log_b gives text text_b)
    -- C* ".. w 1: four still blocks, full 4 each; pruned sums 0,0,16,16,16"
    ∷ (search pair_c (full 1) 0 0 gives still_after 4)
    ∷ (search pair_c (full 1) 0 4 gives still_after 4)
    ∷ (search pair_c (full 1) 4 0 gives still_after 4)
    ∷ (search pair_c (full 1) 4 4 gives still_after 4)
    ∷ (every_block pair_c (full 1) (held_list 14) (held_table 83) gives fills (reads_blank (only_at_one 16) 0) list_c (held_table 83))
    ∷ (every_block pair_c (pruned 1) (held_list 14) (held_table 83) gives fills (reads_blank (0 ∷ 0 ∷ 0 ∷ 16 ∷ 16 ∷ 16 ∷ []) 0) list_c table_c)
    -- "log `01 00 08 00 08 04 01 02 03 03 03 03 04 00 00 00 04`"
    ∷ (writing (head_of pair_c) list_c (held_buffer 19) gives writes log_c)
    ∷ (reading log_c (held_list 14) gives reads_as (head_of pair_c) list_c)
    ∷ (walking log_c
    gives commands (Cmd.Head (head_of pair_c) ∷ Cmd.Still ∷ Cmd.Still ∷ Cmd.Still ∷ Cmd.Still ∷ Cmd.End 4 ∷ Cmd.Refused 34 0 ∷ []))
    -- D* "distances 0 at 4 and 2, distortion 160"
    ∷ (distance pair_d 4 gives apart 0)
    ∷ (distance pair_d 2 gives apart 0)
    ∷ (measuring pair_d origin 4080 gives measures 160 4)
    -- D by squares: each pel differs by 10
    ∷ (distance (by_squares pair_d) 4 gives apart 0)
    ∷ (distance (by_squares pair_d) 2 gives apart 0)
    ∷ (measuring (by_squares pair_d) origin 1040400 gives measures 1600 4)
    ∷ (search (by_squares pair_d) (full 16) 0 0 gives finds origin 1600 (only_at_one 1) 0)
    ∷ (search (by_squares pair_d) (pruned 16) 0 0 gives finds origin 1600 (0 ∷ 0 ∷ 0 ∷ 1 ∷ 1 ∷ 1 ∷ []) 0)
    -- B by squares: at 4 the distance of (0,0), 25,600, is just 4² × E, so it is dropped at 2 and not before
    ∷ (distance (by_squares pair_b) 4 gives apart 25600)
    ∷ (measuring (by_squares pair_b) origin 1040400 gives measures 1600 4)
    ∷ (search (by_squares pair_b) (pruned 1) 0 0 gives finds vector_b 0 (0 ∷ 0 ∷ 0 ∷ 2 ∷ 2 ∷ 1 ∷ []) 1)
    -- E* "C's frames, block (2,2): four-step 17; cross w 2, T 0: 9; T 1: 1"
    ∷ (search pair_c four_step 2 2 gives still_after 17)
    ∷ (search pair_c (cross 2 0) 2 2 gives still_after 9)
    ∷ (search pair_c (cross 2 1) 2 2 gives still_after 1)
    -- F* "the same at block (0,0): 7, 4, 1"
    ∷ (search pair_c four_step 0 0 gives still_after 7)
    ∷ (search pair_c (cross 2 0) 0 0 gives still_after 4)
    ∷ (search pair_c (cross 2 1) 0 0 gives still_after 1)
    -- G* "home (10,20), step B: (10,19), steps 1", and that travel held
    ∷ (home_and_step (pos 10) (pos 20) step_b
    gives homed_and_stepped (pos 10) (pos 20) (record { homed = true; y = pos 10; x = pos 19; steps = 1; recent = one_held (pos 0) (minus 1) })
    reads_b list_b table_b)
    -- H* "home (0,-1000000), step B: 33": the old track, zeros, list and table filled
    ∷ (home_and_step (pos 0) (minus 1000000) step_b
    gives homed_and_stepped (pos 0) (minus 1000000) (homed_at (pos 0) (minus 1000000)) (refused_field 33) list_b table_b)
    -- 02, request 3: "Worked pairs A and C now have no voter": a step on them is 52
    ∷ (home_and_step (pos 10) (pos 20) step_a gives blank_stepped (pos 10) (pos 20) list_a table_a)
    ∷ (home_and_step (pos 10) (pos 20) step_c gives blank_stepped (pos 10) (pos 20) list_c table_c)
    -- a block votes from 8 on
    ∷ (every_block (speckled 17) (full 16) (held_list 3) [] gives fills (reads_blank (only_at_one 1) 0) (triple origin 7) [])
    ∷ (every_block (speckled 18) (full 16) (held_list 3) [] gives fills (reads origin 1 1 (only_at_one 1) 0) (triple origin 8) [])
    -- 02, request 4: N 32 with the largest distortions, their logs both ways, the lines; 10 after command 6 has place 9
    ∷ (measuring pair32 origin 261120 gives measures 261120 32)
    ∷ (measuring (by_squares pair32) origin 66585600 gives measures 66585600 32)
    ∷ (search pair32 (pruned 1) 0 0 gives finds origin 261120 (1 ∷ 1 ∷ 1 ∷ 1 ∷ 1 ∷ 1 ∷ []) 0)
    ∷ (search (by_squares pair32) (pruned 1) 0 0 gives finds origin 66585600 (1 ∷ 1 ∷ 1 ∷ 1 ∷ 1 ∷ 1 ∷ []) 0)
    -- 02, request 5: each row of A has 8, so the sum is 8, 16, 24, 32: it comes back up to the ceiling, and is over in the first row that passes it
    ∷ (measuring pair_a origin 32 gives measures 32 4)
    ∷ (measuring pair_a origin 31 gives over_at 4)
    ∷ (measuring pair_a origin 16 gives over_at 3)
    ∷ (measuring pair_a origin 15 gives over_at 2)
    ∷ (measuring pair_b vector_b 0 gives measures 0 4)
    ∷ (measuring (by_squares pair32) origin 66585599 gives over_at 32)
    -- 02, request 6: between two pels and between four; a block at the right edge has no neighbour to its right; the centre first on ties; a refusal
    ∷ (half_search pair_l (full 0) 0 0 gives refines 80 (vec (pos 0) (pos 1)) 0)
    ∷ (half_search (by_squares pair_l) (full 0) 0 0 gives refines 400 (vec (pos 0) (pos 1)) 0)
    ∷ (half_search pair_l (full 0) 0 1 gives refines 80 origin 80)
    ∷ (half_search pair_m (full 0) 0 0 gives refines 168 (vec (pos 1) (pos 1)) 0)
    ∷ (half_search pair_c (full 0) 2 2 gives refines 0 origin 0)
    ∷ (half_search pair_c (full 17) 2 2 gives half (half_result (refused_search 5) origin 0))
    -- T goes by the measure alone, whatever N is
    ∷ (search pair_c (cross 2 261120) 2 2 gives still_after 1)
    ∷ (writing (head_of pair32) (list32 261120) (held_buffer 22) gives writes log32)
    ∷ (reading log32 (held_list 5) gives reads_as (head_of pair32) (list32 261120))
    ∷ (writing (head_of (by_squares pair32)) (list32 66585600) (held_buffer 23) gives writes log32_squares)
    ∷ (reading log32_squares (held_list 5) gives reads_as (head_of (by_squares pair32)) (list32 66585600))
    ∷ (reading log32_squares (held_list 2) gives read (read_result (refused_read 10 9) (held_list 2)))
    ∷ (walking log32_squares
    gives commands (Cmd.Head (head_of (by_squares pair32)) ∷ Cmd.Block (pos 0) (pos 0) 66585600 ∷ Cmd.End 1 ∷ Cmd.Refused 34 0 ∷ []))
    ∷ (printing log32_squares gives text text32_squares)
    -- "with 65,535 or less it is turned away by 16"; "carrying any other is turned away by 15"
    ∷ (reading long65535 (held_list 3) gives read (read_result (refused_read 16 8) (held_list 3)))
    ∷ (reading (carrying 1) (held_list 3) gives read (read_result (refused_read 15 0) (held_list 3)))
    ∷ (reading (carrying 2) (held_list 3) gives reads_as (head_of (by_squares pair32)) still_block)
    -- I* "empty log: 13 at 0": the list as it was; the line "refused 13 at 0"
    ∷ (reading [] (held_list 2) gives read (read_result (refused_read 13 0) (held_list 2)))
    ∷ (walking [] gives commands (Cmd.Refused 13 0 ∷ []))
    ∷ (printing [] gives text (114 ∷ 101 ∷ 102 ∷ 117 ∷ 115 ∷ 101 ∷ 100 ∷ 32 ∷ 49 ∷ 51 ∷ 32 ∷ 97 ∷ 116 ∷ 32 ∷ 48 ∷ 10 ∷ []))
    ∷ []
