-- The table of worked pairs holds: every answer is computed from the definitions, and is the one owed. The computing goes by the laws of
-- Once.antt, which give the same answers in a form that is quick to compute.
use mathlib.Core.Path.{◌≡◌, refl, ap, ◌∙◌}
use mathlib.Core.List.{List, [], ◌∷◌, flat_map}
use Rattle.base.specs.Sum.{sum_to, sum_each}
use Rattle.base.specs.Lists.{Each, none, more, list_to, concat_to}
use Rattle.base.specs.Least.{least_from, least_of}
use Rattle.base.specs.Picks.{pick}
use Rattle.base.specs.Calls.{run_from}
use Rattle.signed.specs.Values.{signed_byte, byte_of}
use Rattle.order.specs.Preference.{preference}
use Rattle.measures.specs.Measures.{measure_of}
use Rattle.frame.specs.Grid.{rows, columns, blocks, block_row, block_column}
use Rattle.frame.specs.Candidates.{candidate}
use Rattle.refusals.specs.Cross.{cross_window}
use Rattle.refusals.specs.Refusals.{first_refusal, block_size_ok, window_ok, threshold_ok, pair_refusal, request_refusal}
use Rattle.distortion.specs.Blocks.{distortion_by, partial_by, capped, distortion}
use Rattle.measuring.specs.Measurement.{rows_measured, with_rows, measurement}
use Rattle.measuring.specs.Measured.{measure_refusal, measure_at, answer_of, measure_vector}
use Rattle.probe.specs.Probe.{count_point, probe_point, probe, at_origin, around, widened, is_in, fresh}
use Rattle.probe.specs.BestSoFar.{result_of}
use Rattle.four_step.specs.FourStep.{square, ring, moved, step1, step23, step4, from3, from2, four_step}
use Rattle.cross.specs.Cross.{diagonal_cross, plus_cross, pass, all_passes, diagonal, on_diagonal, ended, finished, cross}
use Rattle.pruned_rule.specs.Distance.{square_sum, distance_by}
use Rattle.pruned_rule.specs.Sift.{kept, exceeding}
use Rattle.pruned_rule.specs.Prune.{all_remaining, lower, sift, rounds, prune, pruned_best, counts, halves}
use Rattle.pruned_sums.specs.Area.{summed}
use Rattle.block.specs.Block.{search_refusal}
use Rattle.half_pel.specs.HalfPel.{value_of, half_pel}
use Rattle.half_search.specs.Half.{tried, half_distortion, winner, refined}
use Rattle.voter.specs.Voter.{largest_to, smallest_to, largest, smallest, is_voter}
use Rattle.reading.specs.Reading.{voters, votes}
use Rattle.field_rules.specs.Rules.{field_refusal}
use Rattle.field.specs.Field.{entries_of, table_of}
use Rattle.recent.specs.Recent.{no_travels, sum_held, parts_ok, places_more, recent_ok, recent_more}
use Rattle.track.specs.Track.{track_home, step_refusal, arrived}
use Rattle.log_head.specs.Heads.{head_refusal, entry_ok, is_still}
use Rattle.log_command.specs.Numbers.{be2, be4}
use Rattle.log_cursor.specs.Step.{judged, taken, end_taken, standing_ok, start_command, body_command, step_at}
use Rattle.log_command.specs.Operands.{head_in}
use Rattle.log_cursor.specs.Walk.{commands_from, walk as logWalk, last_of}
use Rattle.log_command.specs.Logs.{block_command, log_commands, log_of}
use Rattle.base.specs.FirstWrong.{first_wrong}
use Rattle.log_list.specs.Listed.{list_refusal, list_verdict}
use Rattle.log_writing.specs.Writing.{write_log}
use Rattle.log_reading.specs.Reading.{field_of, log_read, read_log}
use Rattle.put.specs.Digits.{digits}
use Rattle.log_line.specs.Line.{number_text, spaced, end_word, refused_word, at_word, worded}
use Rattle.log_text.specs.Text.{print_log}
use Rattle.worked.specs.Table.{pair_a, pair_b, pair_c, pair_d, pair_l, pair_m, pair32, Query, search, half_search, measuring, distance, every_block, travelling, calls, writing, reading}
use Rattle.worked.specs.Table.{walking, printing, Answer, found, half, filled, travels, results, answer, Row, Right, table}
use Rattle.worked.proofs.Places.{walk_places, after}
use Rattle.worked.proofs.Alike.{every, all_alike}
use Rattle.worked.proofs.Once.{block_once, block-once, half_once, half-once, field_once, field-once, travel_once, travel-once, run_once, run-once}

-- the same answers, quick to compute
abbrev answer_once : Query → Answer
answer_once (search p q y x) = found (block_once p.older p.newer (q p) y x)
answer_once (half_search p q y x) = half (half_once p.older p.newer (q p) y x)
answer_once (measuring p v ceiling) = answer (measuring p v ceiling)
answer_once (distance p m) = answer (distance p m)
answer_once (every_block p q list table) = filled (field_once p.older p.newer (q p) list table)
answer_once (travelling p w) = travels (travel_once p w)
answer_once (calls cs) = results (run_once cs)
answer_once (writing h list buffer) = answer (writing h list buffer)
answer_once (reading log list) = answer (reading log list)
answer_once (walking log) = answer (walking log)
answer_once (printing log) = answer (printing log)

answer-once : (c : Query) → answer c ≡ answer_once c
answer-once (search p q y x) = ap found (block-once p.older p.newer (q p) y x)
answer-once (half_search p q y x) = ap half (half-once p.older p.newer (q p) y x)
answer-once (measuring p v ceiling) = refl
answer-once (distance p m) = refl
answer-once (every_block p q list table) = ap filled (field-once p.older p.newer (q p) list table)
answer-once (travelling p w) = ap travels (travel-once p w)
answer-once (calls cs) = ap results (run-once cs)
answer-once (writing h list buffer) = refl
answer-once (reading log list) = refl
answer-once (walking log) = refl
answer-once (printing log) = refl

abbrev answers : List Row → List Answer
answers [] = []
answers (r ∷ rs) = answer_once r.query ∷ answers rs

abbrev oweds : List Row → List Answer
oweds [] = []
oweds (r ∷ rs) = r.owed ∷ oweds rs

each : (rs : List Row) → answers rs ≡ oweds rs → Each Right rs
each [] e = none
each (r ∷ rs) e =
    let h : answer_once r.query ≡ r.owed = cc in
    more {x = r} (answer-once r.query ∙ h) (each rs cc)

-- the whole table at once
computed : answers table ≡ oweds table
unfolding
    table pair_a pair_b pair_c pair_d pair_l pair_m pair32
    sum_to least_from least_of preference candidate cross_window first_refusal block_size_ok window_ok threshold_ok pair_refusal request_refusal
    measure_of distortion_by partial_by capped distortion rows_measured with_rows measurement measure_refusal measure_at answer_of measure_vector count_point probe_point probe at_origin around widened is_in fresh result_of
    square ring moved step1 step23 step4 from3 from2 four_step diagonal_cross plus_cross pass all_passes diagonal on_diagonal ended finished cross
    square_sum distance_by kept exceeding all_remaining lower sift rounds prune pruned_best counts halves
    search_refusal walk_places after pick value_of half_pel tried half_distortion winner refined
    rows columns blocks block_row block_column list_to concat_to summed field_refusal entries_of table_of
    largest_to smallest_to largest smallest is_voter voters votes every all_alike
    run_from track_home step_refusal arrived no_travels sum_held parts_ok places_more recent_ok recent_more sum_each
    signed_byte byte_of head_refusal entry_ok is_still be2 be4 judged head_in taken end_taken standing_ok start_command body_command step_at
    commands_from logWalk last_of block_command log_commands log_of flat_map
    list_refusal first_wrong list_verdict write_log field_of log_read read_log digits number_text spaced end_word refused_word at_word worded print_log
computed = refl

pub worked : Each Right table
worked = each table computed
