-- A run of still blocks: counted byte by byte, and its lines in the text of the log.
--   Counted           n blocks of a run are counted
--   printing_stills   the lines of a run are put
use Prim.Native.Nat.{ℕ, zero, suc, ◌+◌, ◌-◌, ◌*◌, ◌≤◌, ◌<◌}
use native.Mathlib.Nat.{add-zero}
use native.Mathlib.Omega.{arith}
use mathlib.Core.Path.{◌≡◌, refl, sym, ap, ◌∙◌}
use mathlib.Core.List.{List, ◌∷◌, ◌++◌, flat_map, append_assoc}
use mathlib.Core.Bool.{Bool, true, false, cond}
use borrow.Author.Tests.{eq-eqb, ne_eqb, eqb-true}
use lib.Dec.{eqb}
use lib.ListN.{length, get_or, drop, replicate, get_or-eq_default}
use lib.Seq.{drop-cons}
use native.Mathlib.Decide.{dec_lt}
use Rattle.put.specs.Put.{Put, rest_more}
use Rattle.log_head.specs.declared.Head.{Head}
use Rattle.log_head.specs.Heads.{head_refusal, head_blocks}
use Rattle.log_command.specs.declared.Command.TheVariants as Cmd
use Rattle.log_cursor.specs.declared.Phase.TheVariants.{Body}
use Rattle.log_cursor.specs.Step.{command_step, body_cursor}
use Rattle.log_cursor.specs.Walk.{commands_from, commands_next}
use Rattle.log_walks.proofs.Steps.{still_step}
use Rattle.log_line.specs.Line.{line_of}
use Rattle.log_text.specs.Stills.{still_run}
use Rattle.log_text.proofs.Blocks.{Printing}

module _ (log : List ℕ) where
  -- a still block's byte stands inside the log
  pub still_inside : (at : ℕ) → get_or log at 0 ≡ 3 → at < length log
  still_inside at e = go (dec_lt at (length log))
    where
      go : Dec (at < length log) → at < length log
      go (yes h) = h
      go (no h) = absurd (omega (arith, e, get_or-eq_default log 0 {n = at} (omega arith)))

  run_none : (from most : ℕ) → (0 < most → get_or log from 0 ≡ 3 → ⊥) → still_run log from most ≡ 0
  unfolding still_run
  run_none from zero n = refl
  run_none from (suc most) n = rw (ne_eqb (get_or log from 0) 3 (n (omega arith)))

  run_more : (from most : ℕ) → 0 < most → get_or log from 0 ≡ 3 → still_run log from most ≡ suc (still_run log (from + 1) (most - 1))
  unfolding still_run
  run_more from zero h e = absurd (omega arith)
  run_more from (suc most) h e = let q : suc most - 1 ≡ most = omega arith in rw (eq-eqb (get_or log from 0) 3 e, q)

-- ---- a loop that counts

pub record Counted (log : List ℕ) (from most n : ℕ) : Type 0 where
  pub few : n ≤ most
  pub inside : from + n ≤ length log
  pub rest : n + still_run log (from + n) (most - n) ≡ still_run log from most

pub counted_first : (log : List ℕ) (from most : ℕ) → from ≤ length log → Counted log from most 0
counted_first log from most h =
    let e : most - 0 ≡ most = omega arith in
    record { few = omega arith; inside = omega arith; rest = rw (add-zero, e) (omega arith) }

module _ {log : List ℕ} {from most n : ℕ} (c : Counted log from most n) where
  pub counted_more : n < most → get_or log (from + n) 0 ≡ 3 → Counted log from most (n + 1)
  counted_more h e =
      let a : from + n + 1 ≡ from + (n + 1) = omega arith in
      let b : most - n - 1 ≡ most - (n + 1) = omega arith in
      let m = rw (a, b) at (run_more log (from + n) (most - n) (omega arith) e) in
      record { few = omega arith; inside = omega (arith, still_inside log (from + n) e); rest = omega (arith, c.rest, m) }

  pub counted_last : (n < most → get_or log (from + n) 0 ≡ 3 → ⊥) → n ≡ still_run log from most
  counted_last h = omega (arith, c.rest, run_none log (from + n) (most - n) (λ l. h (omega arith)))

-- ---- its lines

module _ (log : List ℕ) (h : Head) (ok : head_refusal h ≡ 0) where
  -- what so many calls from among the blocks print
  abbrev text_at : ℕ → ℕ → ℕ → List ℕ
  text_at calls next k = flat_map line_of (commands_from calls log (body_cursor h next k))

  abbrev still_lines : ℕ → List ℕ
  still_lines n = flat_map line_of (replicate n Cmd.Still)

  still_text : (calls next k : ℕ) → k < head_blocks h → length log ≤ calls + next → get_or log next 0 ≡ 3
      → text_at calls next k ≡ line_of Cmd.Still ++ text_at (calls - 1) (next + 1) (k + 1)
  unfolding flat_map
  still_text calls next k due long e =
      let there = still_inside log next e in
      let goes = drop-cons log next 0 there ∙ ap (λ (b : ℕ). b ∷ drop (suc next) log) e in
      let s = command_step Cmd.Still next (Body h (k + 1)) in
      let step = still_step log next h k ok due (drop (suc next) log) goes in
      ap (flat_map line_of) (commands_next calls log (body_cursor h next k) s false (omega arith) (sym step) refl)

  stills_none : (calls next k : ℕ) → text_at calls next k ≡ still_lines 0 ++ text_at (calls - 0) (next + 0) (k + 0)
  unfolding flat_map
  stills_none calls next k = let e : calls - 0 ≡ calls = omega arith in rw (add-zero next, add-zero k, e)

  stills_text : (most calls next k : ℕ) → k + most ≤ head_blocks h → length log ≤ calls + next
      → let n = still_run log next most in
      text_at calls next k ≡ still_lines n ++ text_at (calls - n) (next + n) (k + n)
  unfolding still_run flat_map
  stills_text zero calls next k due long = stills_none calls next k
  stills_text (suc most) calls next k due long =
      go (eqb (get_or log next 0) 3) refl (stills_text most (calls - 1) (next + 1) (k + 1) (omega arith) (omega arith))
    where
      m : ℕ
      m = still_run log (next + 1) most

      go : (t : Bool) → eqb (get_or log next 0) 3 ≡ t
          → text_at (calls - 1) (next + 1) (k + 1) ≡ still_lines m ++ text_at (calls - 1 - m) (next + 1 + m) (k + 1 + m)
          → let n = cond t (suc m) 0 in
          text_at calls next k ≡ still_lines n ++ text_at (calls - n) (next + n) (k + n)
      go true e more =
          let a : calls - 1 - m ≡ calls - suc m = omega arith in
          let b : next + 1 + m ≡ next + suc m = omega arith in
          let c : k + 1 + m ≡ k + suc m = omega arith in
          still_text calls next k (omega arith) long (eqb-true _ _ e)
          ∙ ap (◌++◌ (line_of Cmd.Still)) (rw (a, b, c) at more)
          ∙ sym (append_assoc (line_of Cmd.Still) (still_lines m) _)
      go false e more = stills_none calls next k

  pub printing_stills : {before out m : List ℕ} {from first at to next k : ℕ} → Printing log h before from first out at next k
      → (most n : ℕ) → n ≡ still_run log next most → k + most ≤ head_blocks h → next + n ≤ length log
      → Put out at (still_lines n) m to → to ≤ at + 6 * n → Printing log h before from first m to (next + n) (k + n)
  printing_stills {next = next} {k = k} p most n is due inside w l =
      let q : length log - k - n ≡ length log - (k + n) = omega arith in
      let text = rw (← is) at (stills_text most (length log - k) next k due (omega (arith, p.on))) in
      record {
        on = omega (arith, p.on);
        inside = inside;
        short = omega (arith, p.short);
        rest = rw q at (rest_more (rw text at p.rest) w);
      }
