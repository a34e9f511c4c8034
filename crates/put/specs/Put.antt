-- Elements put into a lent list, one text after another, bytes into a buffer above all. What lies past the list's end is counted and not put.
--   Put before at text after next   text put from place `at` on: what the buffer then holds, and the next place
--   StillToPut out at text before from whole   what is still to be put: put from here on, it makes the whole text, from place `from` on, over `before`
--   over_front text buffer           a text over the front of a buffer, as far as it fits; the rest is kept
use Rattle.std.specs.Prelude.{ℕ, suc, ◌+◌, ◌≤◌, ◌≡◌, length, set, take}
use Rattle.std.proofs.Math.Path.{refl, ap}
use Rattle.std.proofs.Common.{◌∙◌, sym, add-zero, zero-add, arith, length-append, take_all}
use mathlib.Core.List.{List, [], ◌∷◌, ◌++◌}
use Rattle.std.proofs.Math.ListN.{drop}
use Rattle.std.proofs.lemmas.List.Edits.{sets}
use Rattle.std.proofs.Math.Seq.{set_out, length-sets}

pub record Put {A : Type 0} (before : List A) (at : ℕ) (text : List A) (after : List A) (next : ℕ) : Type 0 where
  pub holds : after ≡ sets before at text
  pub place : next ≡ at + length text

pub record StillToPut {A : Type 0} (out : List A) (at : ℕ) (text : List A) (before : List A) (from : ℕ) (whole : List A) : Type 0 where
  pub holds : sets out at text ≡ sets before from whole
  pub place : at + length text ≡ from + length whole
  pub long : length out ≡ length before

module _ {A : Type 0} where
  unfoldable pub over_front : List A → List A → List A
  over_front text buffer = take (length buffer) text ++ drop (length text) buffer

  -- ---- one text after another

  sets_append : (l : List A) (i : ℕ) (vs ws : List A) → sets (sets l i vs) (i + length vs) ws ≡ sets l i (vs ++ ws)
  sets_append l i [] ws = rw add-zero
  sets_append l i (v ∷ vs) ws =
      let e : i + suc (length vs) ≡ suc i + length vs = omega arith in
      rw e (sets_append (set l i v) (suc i) vs ws)

  pub put_none : (l : List A) (i : ℕ) → Put l i [] l i
  put_none l i = record { holds = refl; place = sym (add-zero i) }

  pub put_then : {l m n : List A} {i j k : ℕ} {vs ws : List A} → Put l i vs m j → Put m j ws n k → Put l i (vs ++ ws) n k
  put_then {l} {m} {n} {i} {j} {k} {vs} {ws} a b = record {
    holds = b.holds ∙ rw (a.holds, a.place) (sets_append l i vs ws);
    place = omega (arith, length-append vs ws, a.place, b.place);
  }

  -- an element past the end
  pub put_past : (l : List A) (i : ℕ) (v : A) → length l ≤ i → Put l i (v ∷ []) l (i + 1)
  put_past l i v h = record { holds = sym (set_out l i v h); place = refl }

  -- ---- what is still to be put

  pub rest_first : (out : List A) (from : ℕ) (text : List A) → StillToPut out from text out from text
  rest_first out from text = record { holds = refl; place = refl; long = refl }

  pub rest_last : {out before whole : List A} {at from : ℕ} → StillToPut out at [] before from whole → Put before from whole out at
  rest_last r = record { holds = r.holds; place = omega (arith, r.place) }

  pub rest_more : {out m text tail before whole : List A} {at k from : ℕ} → StillToPut out at (text ++ tail) before from whole
      → Put out at text m k → StillToPut m k tail before from whole
  rest_more {out} {m} {text} {tail} {before} {whole} {at} {k} {from} r w = record {
    holds = rw (w.holds, w.place) (sets_append out at text tail ∙ r.holds);
    place = omega (arith, w.place, r.place, length-append text tail);
    long = rw w.holds (length-sets out at text ∙ r.long);
  }

  -- all of it put at once
  pub rest_all : {out m text before whole : List A} {at k from : ℕ} → StillToPut out at text before from whole → Put out at text m k → Put before from whole m k
  rest_all r w = record { holds = w.holds ∙ r.holds; place = omega (arith, w.place, r.place) }

  -- ---- a whole text

  sets_none : (i : ℕ) (vs : List A) → sets [] i vs ≡ []
  sets_none i [] = refl
  sets_none i (v ∷ vs) = sets_none (suc i) vs

  sets_front : (x : A) (l : List A) (i : ℕ) (vs : List A) → sets (x ∷ l) (suc i) vs ≡ x ∷ sets l i vs
  sets_front x l i [] = refl
  sets_front x l i (v ∷ vs) = sets_front x (set l i v) (suc i) vs

  sets_over : (text buffer : List A) → sets buffer 0 text ≡ over_front text buffer
  unfolding over_front
  sets_over [] [] = refl
  sets_over [] (x ∷ l) = refl
  sets_over (v ∷ vs) [] = sets_none 1 vs
  sets_over (v ∷ vs) (x ∷ l) = sets_front v l 0 vs ∙ ap (λ (r : List A). v ∷ r) (sets_over vs l)

  -- a text put from the start on
  pub put_over : {text before after : List A} {next : ℕ} → Put before 0 text after next → (after ≡ over_front text before) × (next ≡ length text)
  put_over {text} {before} p = (p.holds ∙ sets_over text before, p.place ∙ zero-add (length text))

  -- a text that fits
  pub over_fits : (text buffer : List A) → length text ≤ length buffer → over_front text buffer ≡ text ++ drop (length text) buffer
  unfolding over_front
  over_fits text buffer h = ap (λ (t : List A). t ++ drop (length text) buffer) (take_all (length buffer) text h)
