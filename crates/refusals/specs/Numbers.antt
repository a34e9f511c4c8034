-- Refusals as the code hands them on, and their numbers: 01, "What the input can be turned away for", and 02, requests 1 and 3.
--   number_of   the number of a refusal
--   number_in   what a test that may refuse tells: its refusal's number, or 0 where it lets the call pass
use Rattle.std.specs.Prelude.{ℕ, ◌≡◌, refl, eqb, Result, Ok, Err, is_ok, is_err, IsErrAnd, true, false}
use Rattle.std.proofs.Common.{ap, sym, ◌∙◌, arith, ne_eqb}
use Rattle.refusals.specs.Refusals.{first_refusal, first_refusal_some}
use Rattle.refusals.specs.declared.Refusal.{Refusal}
use Rattle.refusals.specs.declared.Refusal.TheVariants.{Side, Length, BlockSize, Search, Window, Threshold, Place, Vector, Table, List, Homing, ViewSide, Entry, Buffer, NotHomed, NoStep, OutOfRange, Measure, NoVoter}

abbrev pub number_of : Refusal → ℕ
number_of Side = 1
number_of Length = 2
number_of BlockSize = 3
number_of Search = 4
number_of Window = 5
number_of Threshold = 6
number_of Place = 7
number_of Vector = 8
number_of Table = 9
number_of List = 10
number_of Homing = 11
number_of ViewSide = 12
number_of Entry = 16
number_of Buffer = 19
number_of NotHomed = 31
number_of NoStep = 32
number_of OutOfRange = 33
number_of Measure = 51
number_of NoVoter = 52

abbrev pub number_in : {A : Type 0} → Result A Refusal → ℕ
number_in (Ok x) = 0
number_in (Err r) = number_of r

-- a refusal that `?` hands on keeps its number
pub handed_on : {A : Type 0} (r : Result A Refusal) (e : Refusal) {n : ℕ} → IsErrAnd r (λ y. y ≡ e) → number_of e ≡ n → number_in r ≡ n
handed_on (Ok x) e i h = absurd i
handed_on (Err y) e i h = ap number_of i ∙ h

-- no refusal has the number 0
pub number_some : (r : Refusal) → number_of r ≡ 0 → ⊥
number_some Side e = omega arith
number_some Length e = omega arith
number_some BlockSize e = omega arith
number_some Search e = omega arith
number_some Window e = omega arith
number_some Threshold e = omega arith
number_some Place e = omega arith
number_some Vector e = omega arith
number_some Table e = omega arith
number_some List e = omega arith
number_some Homing e = omega arith
number_some ViewSide e = omega arith
number_some Entry e = omega arith
number_some Buffer e = omega arith
number_some NotHomed e = omega arith
number_some NoStep e = omega arith
number_some OutOfRange e = omega arith
number_some Measure e = omega arith
number_some NoVoter e = omega arith

-- and so it does where it is the first of a chain
pub handed_first : {A : Type 0} (r : Result A Refusal) (e : Refusal) {n : ℕ} (rest : ℕ) → IsErrAnd r (λ y. y ≡ e) → number_of e ≡ n
    → number_in r ≡ first_refusal n rest
handed_first r e rest i h = handed_on r e i (h ∙ sym (first_refusal_some _ rest (λ z. number_some e (h ∙ z))))

-- a test lets a call pass just where its number is 0
pub passes : {A : Type 0} (r : Result A Refusal) → is_ok r ≡ eqb (number_in r) 0
passes (Ok x) = refl
passes (Err r) = sym (ne_eqb (number_of r) 0 (number_some r))

pub refused_some : {A : Type 0} (r : Result A Refusal) → is_err r ≡ true → number_in r ≡ 0 → ⊥
refused_some (Ok x) h e = absurd cc
refused_some (Err r) h e = number_some r e

pub refused_none : {A : Type 0} (r : Result A Refusal) → is_err r ≡ false → number_in r ≡ 0
refused_none (Ok x) h = refl
refused_none (Err r) h = absurd cc
