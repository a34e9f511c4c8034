-- One turn of the loop that drops, on plain lists: of the first i keys those within the limit stand in front.
use Prim.Native.Nat.{ℕ, ◌+◌, ◌≤◌, ◌<◌, zero-le}
use mathlib.Core.Path.{◌≡◌, refl, sym, ap, ◌∙◌}
use mathlib.Core.Bool.{cond}
use mathlib.Core.List.{List, [], ◌∷◌, ◌++◌, append-nil}
use native.Mathlib.Nat.{le_refl}
use native.Mathlib.Numerals.{add-one}
use native.Mathlib.Omega.{arith}
use borrow.Author.Tests.{le-leb, lt-leb}
use lib.ListN.{length, get_or, take, drop, set, length-append, length-set}
use lib.Seq.{take-set-le, take-suc-set, drop-set-lt, get_or-set_other, drop-drop}
use Rattle.pruned_rule.specs.Sift.{kept}
use Rattle.pruned_rule.proofs.Loops.{kept_take}
use Rattle.pruned_list.specs.Listed.{distance_of, swept}

pub record Sifting (old : List ℕ) (count limit i j : ℕ) (keys : List ℕ) : Type 0 where
  pub inside : i ≤ count
  pub behind : j ≤ i
  pub many : j ≡ length (kept distance_of limit (take i old))
  pub list : keys ≡ swept limit old i
  pub front : take j keys ≡ kept distance_of limit (take i old)
  pub long : length keys ≡ length old
  -- the rest still stands as it did
  pub rest : (k : ℕ) → i ≤ k → get_or keys k 0 ≡ get_or old k 0
  -- behind the place after those that stay the array is as it was
  pub past : drop (j + 1) keys ≡ drop (j + 1) old

pub sifting_first : (old : List ℕ) (count limit : ℕ) → Sifting old count limit 0 0 old
unfolding kept swept
sifting_first old count limit = record {
  inside = zero-le;
  behind = zero-le;
  many = refl;
  list = refl;
  front = refl;
  long = refl;
  rest = λ k h. refl;
  past = refl;
}

module _ {old : List ℕ} {count limit i j : ℕ} {keys : List ℕ} (s : Sifting old count limit i j keys) (c : i < count) (h : i < length old) where
  abbrev stored : List ℕ
  stored = set keys j (get_or keys i 0)

  stored_is : stored ≡ swept limit old (i + 1)
  unfolding swept
  stored_is = rw (add-one i, ← s.many, ← s.list, s.rest i (le_refl i))

  stored_rest : (k : ℕ) → i + 1 ≤ k → get_or stored k 0 ≡ get_or old k 0
  stored_rest k l = get_or-set_other keys j k _ 0 (λ e. omega (arith, s.behind)) ∙ s.rest k (omega arith)

  stored_past : drop (j + 1) stored ≡ drop (j + 1) old
  stored_past = drop-set-lt (j + 1) keys j _ (omega arith) ∙ s.past

  -- a key within the limit stays
  stays : distance_of (get_or keys i 0) ≤ limit → kept distance_of limit (take (i + 1) old) ≡ kept distance_of limit (take i old) ++ (get_or old i 0 ∷ [])
  stays l =
      kept_take distance_of limit old i h
      ∙ ap (λ t. kept distance_of limit (take i old) ++ cond t (get_or old i 0 ∷ []) []) (le-leb _ limit (rw (s.rest i (le_refl i)) at l))

  -- one over it goes
  goes : limit < distance_of (get_or keys i 0) → kept distance_of limit (take (i + 1) old) ≡ kept distance_of limit (take i old)
  goes l =
      kept_take distance_of limit old i h
      ∙ ap (λ t. kept distance_of limit (take i old) ++ cond t (get_or old i 0 ∷ []) []) (lt-leb _ limit (rw (s.rest i (le_refl i)) at l))
      ∙ append-nil _

  pub sifting_yes : distance_of (get_or keys i 0) ≤ limit → Sifting old count limit (i + 1) (j + 1) stored
  sifting_yes l = record {
    inside = omega arith;
    behind = omega (arith, s.behind);
    many = rw (stays l) (omega (arith, s.many, length-append (kept distance_of limit (take i old)) (get_or old i 0 ∷ [])));
    list = stored_is;
    front =
        rw (stays l)
        (ap (λ (n : ℕ). take n stored) (add-one j)
        ∙ take-suc-set keys j (get_or keys i 0) (omega (arith, s.long, s.behind))
        ∙ rw (s.front, s.rest i (le_refl i)));
    long = length-set keys j _ ∙ s.long;
    rest = stored_rest;
    past =
        drop-set-lt (j + 1 + 1) keys j _ (omega arith)
        ∙ sym (drop-drop 1 (j + 1) keys)
        ∙ ap (drop 1) s.past
        ∙ drop-drop 1 (j + 1) old;
  }

  pub sifting_no : limit < distance_of (get_or keys i 0) → Sifting old count limit (i + 1) j stored
  sifting_no l = record {
    inside = omega arith;
    behind = omega (arith, s.behind);
    many = rw (goes l) s.many;
    list = stored_is;
    front = rw (goes l) (take-set-le j keys j _ (le_refl j) ∙ s.front);
    long = length-set keys j _ ∙ s.long;
    rest = stored_rest;
    past = stored_past;
  }
