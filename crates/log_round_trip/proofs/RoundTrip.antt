-- The theorems: writing passes just where the walker accepts what is written, and the walker's commands over an accepted log give back its head, its field
-- and its bytes.
use Prim.Native.Nat.{ℕ, ◌+◌, ◌*◌, ◌≤◌, ◌<◌}
use mathlib.Core.Path.{◌≡◌, sym, ap, ◌∙◌}
use mathlib.Core.Logic.{◌↔◌}
use mathlib.Core.List.{List, [], ◌∷◌, ◌++◌, flat_map, append-nil}
use native.Mathlib.Omega.{arith}
use lib.IntN.{ℤ}
use lib.ListN.{length, take, drop, length-append}
use lib.Seq.{take-append_seam, length-take-le}
use Rattle.base.specs.Lists.{Each}
use Rattle.log_head.specs.declared.Head.{Head}
use Rattle.log_command.specs.declared.Command.TheVariants as Cmd
use Rattle.log_command.specs.Commands.{command_number, command_bytes, command_head}
use Rattle.frame.specs.Grid.{blocks_few}
use Rattle.log_head.specs.Heads.{setting_in, head_blocks, headed}
use Rattle.log_list.specs.Listed.{AllPass}
use Rattle.log_command.specs.Logs.{log_commands, log_of}
use Rattle.log_cursor.specs.declared.WalkStep.{WalkStep}
use Rattle.log_cursor.specs.Walk.{walk, log_head, last_of}
use Rattle.log_writing.specs.Writing.{write_result, write_log}
use Rattle.log_reading.specs.Reading.{field_of, accepted_read, read_result, read_log}
use Rattle.base.specs.Fronts.{flat_map_append}
use Rattle.log_walks.proofs.Ends.{ends_from, over_stays}
use Rattle.log_walks.proofs.Accepted.{accepted_log, field_length}
use Rattle.log_walks.proofs.Sound.{sound}
use Rattle.log_walks.proofs.Whole.{whole}
use Rattle.log_walks.proofs.Entries.{entries}
use Rattle.log_walks.proofs.Steps.{head_step}
use Rattle.log_walks.proofs.Complete.{complete}
use Rattle.log_round_trip.specs.RoundTrip.{RoundTrip}
use Rattle.log_round_trip.proofs.Writing as Writing
use Rattle.log_round_trip.proofs.Reading as Reading
use Rattle.log_round_trip.proofs.Plain.{plain_walk}
use Rattle.log_round_trip.proofs.Fields.{field_is, last_is, front_entry, front_log}

-- ---- what is written reads back

module _ (h : Head) (list : List ℤ) (buffer : List ℕ) (e : (write_log h list buffer).answer.refusal ≡ 0) where
  written : Writing.Accepted h list buffer
  written = Writing.accepted h list buffer e

  passes : AllPass h list
  passes = written.pass

  written_log : take (write_log h list buffer).answer.length (write_log h list buffer).buffer ≡ log_of h list
  written_log = rw (Writing.writes h list buffer written) (take-append_seam (log_of h list) (drop (length (log_of h list)) buffer))

  walked : walk (log_of h list) ≡ log_commands h list ++ (Cmd.Refused 34 0 ∷ [])
  walked = complete h list passes.listed.fine passes.each

  head_back : log_head (log_of h list) ≡ h
  unfolding log_of log_commands flat_map
  head_back = ap (λ (s : WalkStep). command_head s.command) (head_step h _ passes.listed.fine)

  field_back : field_of (walk (log_of h list)) ≡ take (3 * head_blocks h) list
  field_back = rw walked (field_is h list passes.listed.fine passes.each passes.listed.room)

  reads_back : (other : List ℤ) → 3 * head_blocks h ≤ length other
      → read_log (log_of h list) other ≡ read_result (accepted_read h) (take (3 * head_blocks h) list ++ drop (3 * head_blocks h) other)
  reads_back other m =
      Reading.reads (log_of h list) other (record { ended = rw (walked, last_is (log_commands h list) (Cmd.Refused 34 0)); room = rw head_back m })
      ∙ rw (head_back, field_back, length-take-le (3 * head_blocks h) list passes.listed.room)

-- ---- what is read writes back

module _ (log : List ℕ) (bytes : Each (λ (b : ℕ). b < 256) log) (list : List ℤ) (e : (read_log log list).answer.refusal ≡ 0) where
  ended : command_number (last_of (walk log)) ≡ 34
  ended = (Reading.accepted log list e).ended

  abbrev head : Head
  head = log_head log

  abbrev field : List ℤ
  field = field_of (walk log)

  abbrev after : List ℤ
  after = field ++ drop (length field) list

  pub three : length field ≡ 3 * head_blocks head
  unfolding field_of
  three = field_length log ended

  pub field_log : log_of head field ≡ log
  unfolding log_of field_of flat_map
  field_log =
      sym (append-nil (flat_map command_bytes (log_commands head field)))
      ∙ sym (flat_map_append command_bytes (log_commands head field) (Cmd.Refused 34 0 ∷ []))
      ∙ ap (flat_map command_bytes) (sym (whole log ended))
      ∙ sym (sound log bytes ended)

  same_log : log_of head after ≡ log
  same_log = front_log head field (drop (length field) list) (omega (arith, three)) ∙ field_log

  writes_back : (buffer : List ℕ) → length log ≤ length buffer
      → write_log (read_log log list).answer.head (read_log log list).list buffer
      ≡ write_result (record { refusal = 0; place = 0; length = length log }) (log ++ drop (length log) buffer)
  unfolding field_of
  writes_back buffer m =
      let behind = drop (length field) list in
      let ok = (accepted_log log ended).ok in
      let front : 3 * head_blocks head ≤ length field = omega (arith, three) in
      let listed : 3 * head_blocks head ≤ length after = omega (arith, length-append field behind) in
      rw (Reading.reads log list (Reading.accepted log list e))
      (Writing.writes head after buffer
      (record {
        pass = record {
          listed = record { fine = ok; few = blocks_few (setting_in head) (headed head ok).fitting; room = listed };
          each = λ k l. front_entry head field behind front k l ∙ entries log ended k l;
        };
        fits = rw same_log m;
      })
      ∙ rw same_log)

accepted_alike : (log : List ℕ) (list : List ℤ)
    → ((read_log log list).answer.refusal ≡ 0) ↔ ((command_number (last_of (walk log)) ≡ 34) × (3 * head_blocks (log_head log) ≤ length list))
accepted_alike log list = (
  λ e. let p = Reading.accepted log list e in (p.ended, p.room),
  λ p. rw (Reading.reads log list (record { ended = p.0; room = p.1 })),
)

pub round_trip : RoundTrip
unfolding field_of
round_trip = record {
  written_log = written_log;
  written_reads_back = reads_back;
  read_writes_back = writes_back;
  accepted_alike = accepted_alike;
  accepted_walk = whole;
  walker_ends = λ log c. (ends_from (length log + 1) log c (omega arith)).said;
  walker_stays = over_stays;
  plain_walk = plain_walk;
}
