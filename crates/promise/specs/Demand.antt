-- Demand 3, whole: "one claim about the whole list of calls". To be read from top to bottom beside docs/REFERENCE.md, "Field, reading, track",
-- "Demand 3"; in quotation marks stand 01's own words, and 02's where it changes them. proofs/Promise.antt has the theorem,
-- promise : (calls : List Call) → Promise calls.
--   Call                     the calls
--   travel, voters_in         a pair's travel, by exhaustive bests, and its voters
--   refusal_of, accept        which refusal applies to a call, and what an accepted one does
--   reckon, reckoned         the plain reckoning
--   accepted_calls, standing_on, track_at   where the reckoning ends, in one line; travels_since: the travels since homing
--   Result, run, last_track   what the gauge's own calls answer, one after the other
--   EachCall, EachStep       of each call, of each accepted step
--   Promise                  what is promised
-- From below come: reckon_call, accepted_from, run_from, last_handed and EachCall, of any list of calls (base: Calls), candidate and distortion (frame,
-- distortion), Best and best (search), voting (voter), voters, votes, majority and Most (reading), turned (order), recent_ok, last_held, travels_in, holding, sum_down and
-- sum_across (recent), homed_at and moved_to (track), the steps of search 2 (pruned), and what the contracts of the code cite: search_block (block), field (field), track_new, track_home and track_step (track).
use Rattle.std.specs.Prelude.{ℕ, ◌+◌, ◌*◌, ◌≤◌, ◌<◌, ◌≡◌, Bool, true, not, ◌&&◌, T, leb, eqb, ℤ, pos, ◌+ℤ◌, ◌≤ℤ◌, ◌<ℤ◌, length, get_or, drop}
use mathlib.Core.List.{List, [], ◌∷◌, ◌++◌, foldl}
use Rattle.base.specs.Sum.{sum_to}
use Rattle.base.specs.Lists.{concat_to}
use Rattle.base.specs.Calls.{reckon_call, accepted_from, run_from, last_handed, EachCall}
use Rattle.order.specs.declared.Vector.{Vector}
use Rattle.order.specs.Vectors.{turned}
use Rattle.order.specs.Preference.{preferred}
use Rattle.frame.specs.Pictures.{Pair, largest_distortion, last_count}
use Rattle.frame.specs.Grid.{blocks, block_row, block_column}
use Rattle.frame.specs.Candidates.{candidate}
use Rattle.refusals.specs.Cross.{cross_window, log2}
use Rattle.refusals.specs.Refusals.{unless, first_refusal, request_of}
use Rattle.distortion.specs.Blocks.{distortion}
use Rattle.search.specs.declared.SearchResult.{SearchResult}
use Rattle.search.specs.SearchResult.{vector_in, probes}
use Rattle.search.specs.Exhaustive.{Best, passing, best}
use Rattle.probe.specs.Probe.{is_in}
use Rattle.pruned.specs.Answer.{pruning}
use Rattle.block.specs.Block.{search_block}
use Rattle.voter.specs.Voter.{voting}
use Rattle.reading.specs.Reading.{voters, votes, majority, Most}
use Rattle.field_rules.specs.Rules.{list_size, field_refusal}
use Rattle.field.specs.Field.{FieldResult, field}
use Rattle.recent.specs.Recent.{last_held, recent_ok, travels_in, sum_down, sum_across, holding}
use Rattle.track.specs.declared.Track.{Track}
use Rattle.track.specs.declared.Homed.{Homed}
use Rattle.track_rules.specs.Rules.{in_range}
use Rattle.track.specs.Track.{track_new, homed_at, moved_to, track_home, StepResult, track_step}

-- ---- 1. The calls

-- "They are Home and Step with search 2, whatever their inputs and whatever lent memory held." Home (y, x); Step by search 2: a pair (its frames with width, height, N
-- and the measure), w, T, and what list and table hold
pub data Call : Type 0 where
  home : (y x : ℤ) → Call
  step : (p : Pair) (w t : ℕ) (list : List ℤ) (table : List ℕ) → Call

-- ---- 2. The plain reckoning: "fed the calls' inputs alone (of lent list and table just the lengths), keeps the track's four values from New", and 02, request 7,
-- the last 64 travels and their sums: "The reckoning keeps both beside its four values, by these same rules."

-- grid block k's exhaustive best: "its candidate of least distortion (equals: preference order)"
abbrev pub best_of : Pair → ℕ → ℕ → Vector
best_of p w k = best p w (block_row p.setting k) (block_column p.setting k)

-- "the travel is the one most grid blocks have (likewise), reversed", and 02, request 3: "a travel means the reverse of the most frequent exhaustive best
-- among voters"
unfoldable pub travel : Pair → ℕ → Vector
travel p w = turned (majority (voting p) (best_of p w) (blocks p.setting))

-- how many grid blocks vote
abbrev pub voters_in : Pair → ℕ
voters_in p = voters (voting p) (blocks p.setting)

-- the refusal that applies to a call, with these values as the track; 0 where none does
unfoldable pub refusal_of : Track → Call → ℕ
refusal_of t (home y x) = unless (in_range y && in_range x) 11 0
refusal_of t (step p w threshold list table) =
    first_refusal (field_refusal (length p.older) (length p.newer) (request_of p.setting 2 w threshold) (length list) (length table))
    (unless t.homed 31
    (unless (not (leb 1000000 t.steps) && recent_ok t.recent) 32
    (unless (not (eqb (voters_in p) 0)) 52
    (unless (in_range (t.y +ℤ (travel p w).dy) && in_range (t.x +ℤ (travel p w).dx)) 33 0))))

-- "Any other is accepted, a step's pair with it, and does as Home and Step above."
unfoldable pub accept : Track → Call → Track
accept t (home y x) = homed_at y x
accept t (step p w threshold list table) = moved_to t (travel p w)

-- "A call to which a refusal applies, with these as the track, changes nothing."
abbrev pub reckon : Track → Call → Track
reckon = reckon_call refusal_of accept

abbrev pub reckoned : Track → List Call → Track
reckoned = foldl reckon

-- ---- 3. The same in one line: the last accepted homing place plus the travels of all pairs accepted since, their number as steps, and the last 64 of them

-- the accepted calls, in order
abbrev pub accepted_calls : Track → List Call → List Call
accepted_calls = accepted_from refusal_of accept

-- nowhere before the first homing; then the last homing's place, and the travels since, in order
pub data Standing : Type 0 where
  nowhere : Standing
  from : (y x : ℤ) (travels : List Vector) → Standing

unfoldable pub stand_on : Standing → Call → Standing
stand_on s (home y x) = from y x []
stand_on nowhere (step p w threshold list table) = nowhere
stand_on (from y x vs) (step p w threshold list table) = from y x (vs ++ (travel p w ∷ []))

abbrev pub standing_on : Standing → List Call → Standing
standing_on = foldl stand_on

-- all travels since the last homing
abbrev pub travels_since : Standing → List Vector
travels_since nowhere = []
travels_since (from y x vs) = vs

unfoldable pub track_at : Standing → Track
track_at nowhere = track_new
track_at (from y x vs) = record { homed = true; y = y +ℤ sum_down vs; x = x +ℤ sum_across vs; steps = length vs; recent = holding (last_held vs) }

-- no homing among the calls
unfoldable pub NoHoming : List Call → Type 0
NoHoming [] = Unit {0}
NoHoming (home y x ∷ cs) = ⊥
NoHoming (step p w threshold list table ∷ cs) = NoHoming cs

-- ---- 4. The run: "The first gets a new track, each later one the track just handed back"

-- what the contracts of Track::home and Track::step say that a call answers; a step's with what list and table then hold
pub data Result : Type 0 where
  homing : Homed → Result
  stepping : StepResult → Result

abbrev pub track_in : Result → Track
track_in (homing h) = h.track
track_in (stepping s) = s.stepped.track

abbrev pub refusal_in : Result → ℕ
refusal_in (homing h) = h.refusal
refusal_in (stepping s) = s.stepped.answer.refusal

unfoldable pub answer_to : Track → Call → Result
answer_to t (home y x) = homing (track_home t y x)
answer_to t (step p w threshold list table) = stepping (track_step t p.older p.newer (request_of p.setting 2 w threshold) list table)

abbrev pub run : List Call → List Result
run calls = run_from answer_to track_in track_new calls

-- the track handed back last
abbrev pub last_track : List Result → Track
last_track results = last_handed track_in track_new results

-- ---- 5. The promise

-- EachCall reckon P: P holds of each call, of the reckoning's values before it, the call, and what the run answered. Acceptance is the reckoning's, never the
-- run's

abbrev pub AtStep : (Pair → ℕ → List ℤ → StepResult → Type 0) → Track → Call → Result → Type 0
AtStep Q t (home y x) r = Unit {0}
AtStep Q t (step p w threshold list table) (homing h) = ⊥
AtStep Q t (step p w threshold list table) (stepping s) = refusal_of t (step p w threshold list table) ≡ 0 → Q p w list s

-- Q holds of each accepted step: of its pair and w, what its list held, and all that it answered
abbrev pub EachStep : List Call → (Pair → ℕ → List ℤ → StepResult → Type 0) → Type 0
EachStep calls Q = EachCall reckon (AtStep Q) track_new calls (run calls)

-- each grid block
abbrev pub EachBlock : Pair → (ℕ → Type 0) → Type 0
EachBlock p Q = (k : ℕ) → k < blocks p.setting → Q k

-- each grid block, by its row and column of pels
abbrev pub EachGridPlace : Pair → (ℕ → ℕ → ℕ → Type 0) → Type 0
EachGridPlace p Q = EachBlock p (λ k. Q k (block_row p.setting k) (block_column p.setting k))

-- each place where a block may stand, "on the grid or off it"
abbrev pub EachPlace : Pair → (ℕ → ℕ → Type 0) → Type 0
EachPlace p Q = (y x : ℕ) → y + p.setting.n ≤ p.setting.height → x + p.setting.n ≤ p.setting.width → Q y x

-- the sum over the grid's blocks
abbrev pub over_grid : Pair → (ℕ → ℕ → ℕ) → ℕ
over_grid p f = sum_to (λ k. f (block_row p.setting k) (block_column p.setting k)) (blocks p.setting)

-- dy, dx and distortion of each grid block's exhaustive best, in order
unfoldable pub best_entries : Pair → ℕ → List ℤ
best_entries p w =
    concat_to (λ k.
    let v = best_of p w k in
    v.dy ∷ v.dx ∷ pos (distortion p (block_row p.setting k) (block_column p.setting k) v) ∷ []) (blocks p.setting)

-- the distortion that a list reports for grid block k
abbrev pub reported : List ℤ → ℕ → ℤ
reported list k = get_or list (3 * k + 2) (pos 0)

-- how many vectors of window 16 pass a test
abbrev pub how_many : (Vector → Bool) → ℕ
how_many test = length (passing test)

unfoldable pub vectors_at : List ℕ → List Vector
vectors_at [] = []
vectors_at (k ∷ ks) = preferred k ∷ vectors_at ks

-- "Dropped are the candidates that search 2's steps drop, finally measured the others."
module _ (p : Pair) (w y x : ℕ) where
  abbrev pub is_dropped : Vector → Bool
  is_dropped v = candidate p.setting w y x v && is_in v (vectors_at (pruning p w y x).dropped)

  abbrev pub is_measured : Vector → Bool
  is_measured v = candidate p.setting w y x v && not (is_in v (vectors_at (pruning p w y x).dropped))

-- the single-block call and the field call on a pair
abbrev pub block_on : Pair → (search w t : ℕ) → (y x : ℕ) → SearchResult
block_on p search w t y x = search_block p.older p.newer (request_of p.setting search w t) y x

abbrev pub field_on : Pair → (search w t : ℕ) → List ℤ → List ℕ → FieldResult
field_on p search w t list table = field p.older p.newer (request_of p.setting search w t) list table

-- a block's result is not lower than the exhaustive best, after at most so many probes
abbrev pub NotLower : Pair → ℕ → (y x : ℕ) → SearchResult → ℕ → Type 0
NotLower p w y x f most = (distortion p y x (best p w y x) ≤ f.distortion) × (probes f ≤ most)

-- no block of a field is lower than an accepted step's list has it, after at most so many probes a block
abbrev pub FieldNotLower : Pair → List ℤ → FieldResult → ℕ → Type 0
FieldNotLower p list f most =
    EachBlock p (λ k. reported list k ≤ℤ reported f.list k) × (get_or f.answer.counts last_count 0 ≤ blocks p.setting * most)

-- every place a block may stand at, and every field whose list has room, is searched unrefused
abbrev pub Runs : Pair → (search w t : ℕ) → Type 0
Runs p search w t =
    EachPlace p (λ y x. (block_on p search w t y x).refusal ≡ 0)
    × ((list : List ℤ) (table : List ℕ) → list_size p.setting ≤ length list → (field_on p search w t list table).answer.refusal ≡ 0)

pub record Promise (calls : List Call) : Type 0 where
  -- the track stands at the last accepted homing place plus the travels of all pairs accepted since, with their number as its steps
  pub stands : last_track (run calls) ≡ track_at (standing_on nowhere (accepted_calls track_new calls))
  -- 02, request 7: "For every list of calls the held ones are the last 64 accepted since homing, and the sums are theirs."
  pub held : let last = last_held (travels_since (standing_on nowhere (accepted_calls track_new calls))) in let r = (last_track (run calls)).recent in
      (travels_in r ≡ last) × (r.down ≡ sum_down last) × (r.across ≡ sum_across last)
  -- and no list of calls leads to a track that 32 refuses for them
  pub whole : T (recent_ok (last_track (run calls)).recent)
  -- all zeros and unhomed where no homing was accepted
  pub unhomed : NoHoming (accepted_calls track_new calls) → last_track (run calls) ≡ track_new
  -- "In the end track and reckoning are equal,
  pub reckoning : last_track (run calls) ≡ reckoned track_new calls
  -- and each call was refused exactly when the reckoning refuses it": by the same number, and with the reckoning's track handed back
  pub refusals : EachCall reckon (λ t c r. refusal_in r ≡ refusal_of t c) track_new calls (run calls)
  pub tracks : EachCall reckon (λ t c r. track_in r ≡ reckon t c) track_new calls (run calls)
  -- the travel is the reverse of the vector that most voters have as exhaustive best, and that vector is the reading, with votes and voters
  pub travels : EachStep calls (λ p w list s. let a = s.stepped.answer in
      (v : Vector) × Most (voting p) (best_of p w) (blocks p.setting) v × (travel p w ≡ turned v) × (a.dy ≡ v.dy) × (a.dx ≡ v.dx)
      × (a.votes ≡ votes (voting p) (best_of p w) (blocks p.setting) v) × (a.voters ≡ voters_in p))
  -- a candidate of least distortion, by preference order: of each block's exhaustive best, on the grid or off it
  pub bests : EachStep calls (λ p w list s. EachPlace p (λ y x. Best p w y x (best p w y x)))
  -- "an accepted step .. lists each block's exhaustive best with that vector's distortion, the reported one"; places past them keep what they held
  pub listed : EachStep calls (λ p w list s. s.list ≡ best_entries p w ++ drop (list_size p.setting) list)
  -- no candidate has less than the reported distortion,
  pub no_less : EachStep calls (λ p w list s. EachGridPlace p (λ k y x. (v : Vector) → T (candidate p.setting w y x v)
      → reported s.list k ≤ℤ pos (distortion p y x v)))
  -- and every dropped one has strictly more
  pub dropped_more : EachStep calls (λ p w list s. EachGridPlace p (λ k y x. (v : Vector) → T (is_dropped p w y x v)
      → reported s.list k <ℤ pos (distortion p y x v)))
  -- "A block's result counts them as dropped and at m = 1": by search 2, on the grid or off it, with the exhaustive best and its distortion
  pub block_results : EachStep calls (λ p w list s. EachPlace p (λ y x. let f = block_on p 2 w 0 y x in
      (f.refusal ≡ 0) × (vector_in f ≡ best p w y x) × (f.distortion ≡ distortion p y x (best p w y x))
      × (f.dropped ≡ how_many (is_dropped p w y x)) × (probes f ≡ how_many (is_measured p w y x))
      × (f.dropped + probes f ≡ how_many (candidate p.setting w y x))))
  -- "an accepted step answers with the sums over blocks": dropped, finally measured, and both together all candidates
  pub sums : EachStep calls (λ p w list s. let a = s.stepped.answer in
      (a.dropped ≡ over_grid p (λ y x. how_many (is_dropped p w y x)))
      × (get_or a.counts last_count 0 ≡ over_grid p (λ y x. how_many (is_measured p w y x)))
      × (a.dropped + get_or a.counts last_count 0 ≡ over_grid p (λ y x. how_many (candidate p.setting w y x))))
  -- "Four-step and cross .. run, unrefused, by field or single block, on an accepted step's frames and N, cross with any T it takes."
  pub four_step_runs : EachStep calls (λ p w list s. Runs p 3 7 0)
  pub cross_runs : EachStep calls (λ p w list s. (u t : ℕ) → T (cross_window u) → t ≤ largest_distortion p.setting.measure → Runs p 4 u t)
  -- "Each is held against the exhaustive best, for that step's w, of the block at the same place", and 02, request 1: "by the same measure": four-step,
  -- where w is 7 or more, never ends lower, within 27 probes a block
  pub four-step : EachStep calls (λ p w list s. 7 ≤ w → (t y x : ℕ) → (block_on p 3 7 t y x).refusal ≡ 0 → NotLower p w y x (block_on p 3 7 t y x) 27)
  pub four_step_field : EachStep calls (λ p w list s. 7 ≤ w → (t : ℕ) (l : List ℤ) (table : List ℕ) → (field_on p 3 7 t l table).answer.refusal ≡ 0
      → FieldNotLower p s.list (field_on p 3 7 t l table) 27)
  -- cross with a window u of at most w, whatever its T, never ends lower, within 5 + 4 log2 u probes a block
  pub cross : EachStep calls (λ p w list s. (u t y x : ℕ) → u ≤ w → (block_on p 4 u t y x).refusal ≡ 0
      → NotLower p w y x (block_on p 4 u t y x) (5 + 4 * log2 u))
  pub cross_field : EachStep calls (λ p w list s. (u t : ℕ) (l : List ℤ) (table : List ℕ) → u ≤ w → (field_on p 4 u t l table).answer.refusal ≡ 0
      → FieldNotLower p s.list (field_on p 4 u t l table) (5 + 4 * log2 u))
