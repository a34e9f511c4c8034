-- Answers that the promise of the tracks excludes, by accepted steps of pair B: by window 1 it travels (0,-1), by window 0 not at all. Whatever keeps
-- that promise ends where the reckoning ends, and where that is, is computed.
use Prim.Native.Nat.{ℕ}
use mathlib.Core.Path.{◌≡◌, sym, ap, ◌∙◌}
use mathlib.Core.List.{List, [], ◌∷◌}
use native.Mathlib.Omega.{arith}
use lib.IntN.{pos}
use Rattle.base.specs.Sum.{sum_to, sum_each}
use Rattle.base.specs.Least.{least_of, least_from}
use Rattle.base.specs.Calls.{reckon_call, EachCall, last_each}
use Rattle.signed.specs.Int.{up}
use Rattle.order.specs.Vectors.{vec}
use Rattle.order.specs.Preference.{preference}
use Rattle.frame.specs.Grid.{rows, columns, blocks, block_row, block_column}
use Rattle.frame.specs.Candidates.{candidate}
use Rattle.measures.specs.Measures.{measure_of}
use Rattle.refusals.specs.Refusals.{first_refusal, block_size_ok, window_ok, threshold_ok, pair_refusal, request_refusal}
use Rattle.distortion.specs.Blocks.{distortion, distortion_by}
use Rattle.probe.specs.Probe.{origin}
use Rattle.voter.specs.Voter.{largest_to, smallest_to, largest, smallest, is_voter}
use Rattle.reading.specs.Reading.{voters}
use Rattle.field_rules.specs.Rules.{field_refusal}
use Rattle.recent.specs.Recent.{no_travels, sum_held, parts_ok, places_more, recent_ok, recent_more}
use Rattle.track.specs.declared.Track.{Track}
use Rattle.track.specs.Track.{track_new}
use Rattle.promise.specs.Demand.{Call, travel, refusal_of, accept, reckon, reckoned, Result, track_in, last_track}
use Rattle.promise.specs.Demand.Call.{home, step}
use Rattle.worked.specs.Table.{pair_b, held_list, held_table, minus, step_b}
use Rattle.worked.proofs.Places.{walk_places, after}
use Rattle.worked.proofs.Alike.{every, all_alike}
use Rattle.worked.proofs.Once.{travel-once}

-- what the promise says of each call's track
abbrev pub Tracks : Track → Call → Result → Type 0
Tracks t c r = track_in r ≡ reckon t c

travels_B : (travel pair_b 1 ≡ vec (pos 0) (minus 1)) × (travel pair_b 0 ≡ origin)
unfolding
    pair_b preference candidate measure_of distortion distortion_by sum_to least_of least_from blocks rows columns block_row block_column walk_places after
    largest_to smallest_to largest smallest is_voter voters every all_alike
travels_B = (travel-once pair_b 1, travel-once pair_b 0)

-- the accepted step of G, and another by window 0
abbrev pub one_step : List Call
one_step = home (pos 10) (pos 20) ∷ step_b ∷ []

abbrev pub two_steps : List Call
two_steps = home (pos 10) (pos 20) ∷ step_b ∷ step pair_b 0 0 (held_list 5) (held_table 32) ∷ []

ends_B : ((reckoned track_new one_step).x ≡ pos 19) × ((reckoned track_new two_steps).x ≡ pos 19)
unfolding
    pair_b reckon_call refusal_of accept field_refusal request_refusal pair_refusal block_size_ok window_ok threshold_ok first_refusal blocks rows columns
    block_row block_column largest_to smallest_to largest smallest is_voter voters sum_to no_travels sum_held parts_ok places_more recent_ok recent_more sum_each
ends_B = (rw travels_B.0, rw (travels_B.0, travels_B.1))

-- a track that stands at another x
elsewhere : (x : ℕ) (cs : List Call) (rs : List Result) → EachCall reckon Tracks track_new cs rs → (reckoned track_new cs).x ≡ pos 19
    → (x ≡ 19 → ⊥) → (last_track rs).x ≡ pos x → ⊥
elsewhere x cs rs k e ne h = ne (ap up (sym h ∙ ap (λ (t : Track). t.x) (last_each reckon track_in cs rs track_new k) ∙ e))

-- "still paper for every pair"
pub still_excluded : (rs : List Result) → EachCall reckon Tracks track_new one_step rs → (last_track rs).x ≡ pos 20 → ⊥
still_excluded rs k = elsewhere 20 one_step rs k ends_B.0 (λ q. omega arith)

-- "a first step worked out and its travel repeated"
pub repeated_excluded : (rs : List Result) → EachCall reckon Tracks track_new two_steps rs → (last_track rs).x ≡ pos 18 → ⊥
repeated_excluded rs k = elsewhere 18 two_steps rs k ends_B.1 (λ q. omega arith)
