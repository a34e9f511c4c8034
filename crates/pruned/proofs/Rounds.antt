-- The loop over the resolutions.
--   Turning          before a turn at m, or after the last: where the search stands, and that m is the next resolution, or 1 where one candidate remains
--   next_either      the next resolution is half of m, or one candidate remains
--   turning_first    after the test at N; turning_more: after a turn
--   turning_search   what a turn asks for; turning_facing: and what it finds in memory; turning_slot: its count has a place
--   turning_few      at most all candidates remain
--   turning_closing  after the last turn the best of those that remain is the best of all; turning_last: and the answer is search 2's
use Prim.Native.Nat.{ℕ, zero, suc, ◌+◌, ◌-◌, ◌*◌, ◌/◌, ◌≤◌, ◌<◌}
use mathlib.Core.Path.{◌≡◌, refl, sym, ap, ◌∙◌}
use mathlib.Core.Logic.{◌⊎◌, ⊎_elim, inl, inr}
use mathlib.Core.List.{List, [], ◌∷◌, ◌++◌}
use native.Mathlib.Nat.{not-suc-le-zero, le_of_suc-le-suc}
use native.Mathlib.Numerals.{add-one}
use native.Mathlib.Decide.{ℕ_discrete}
use native.Mathlib.Omega.{arith}
use borrow.Author.Tests.{eq-eqb, ne_eqb}
use lib.ListN.{length, take, set, replicate, length-set}
use lib.Seq.{take-suc-set}
use Rattle.frame.specs.Pictures.{pair_of, count_number, last_count}
use Rattle.frame.specs.declared.Region.{Region}
use Rattle.frame.specs.declared.SearchBlock.{SearchBlock}
use Rattle.search.specs.SearchResult.{search_result}
use Rattle.reach.specs.Reach.{reach}
use Rattle.reach.proofs.Candidates.{ready_standing, reach_count}
use Rattle.pruned_rule.specs.Prune.{resolutions}
use Rattle.pruned_rule.specs.Spots.{spots, places_of, choice_of}
use Rattle.pruned_rule.proofs.Nested.{along_more}
use Rattle.pruned_rule.proofs.Search.{halvings_more}
use Rattle.pruned_rule.proofs.Spots.{spots_places}
use Rattle.pruned_rule.proofs.Open.{open_some, open_few}
use Rattle.pruned_list.specs.Listed.{distortion_to}
use Rattle.pruned.specs.declared.Remaining.{Remaining}
use Rattle.pruned.specs.Answer.{still_distortion, pruned_search}
use Rattle.pruned.specs.Flow.{few, next_of, first_slot, Held, Facing, Leveled, Search, Closing}
use Rattle.pruned.proofs.Flow.{Slots, Going, coarser, going_first, going_facing, going_more, going_among, going_chosen, ended_is}
use Rattle.pruned.proofs.Levels.{reach_room}
use Rattle.pruned.proofs.Blocks.{few_rounds}

pub record Turning (older newer : List ℕ) (b : SearchBlock) (r : Region) (boxes keys numbers counts : List ℕ) (slot : ℕ) (q : Remaining) (m : ℕ) : Type 0 where
  pub block : Search older newer b r boxes b.setting.n
  pub next : ℕ
  pub going : Going older newer b next keys q counts slot
  pub stands : (m ≡ next) ⊎ ((m ≡ 1) × (q.count ≡ 1))
  pub room : few < length keys
  pub numbers_long : length numbers ≡ 2088

-- the next resolution
pub next_either : (m count r : ℕ) → r ≡ next_of m count → (r ≡ m / 2) ⊎ ((r ≡ 1) × (count ≡ 1))
unfolding next_of
next_either m count r e = go (ℕ_discrete count 1)
  where
    go : Dec (count ≡ 1) → (r ≡ m / 2) ⊎ ((r ≡ 1) × (count ≡ 1))
    go (yes one) = inr (rw (eq-eqb count 1 one) at e, one)
    go (no more) = inl (rw (ne_eqb count 1 more) at e)

take_zeros : (z n : ℕ) → z ≤ n → take {A = ℕ} z (replicate n 0) ≡ replicate z 0
take_zeros zero n h = refl
take_zeros (suc z) zero h = absurd (not-suc-le-zero h)
take_zeros (suc z) (suc n) h = ap (λ (ks : List ℕ). 0 ∷ ks) (take_zeros z n (le_of_suc-le-suc h))

-- the first count stands in its place
pub slots_first : (n total : ℕ) → length (resolutions n) < last_count
    → Slots (n / 2) (total ∷ []) (set (replicate count_number 0) (first_slot n) total) (first_slot n + 1)
slots_first n total h =
    let inside : first_slot n < count_number = omega arith in
    record {
      unused = first_slot n;
      is = omega arith;
      long = length-set (replicate count_number 0) (first_slot n) total;
      front = rw (add-one (first_slot n), take-suc-set (replicate count_number 0) (first_slot n) total inside)
          (ap (λ (l : List ℕ). l ++ (total ∷ [])) (take_zeros (first_slot n) count_number (omega arith)));
      ahead = omega (arith, h);
    }

module _ {older newer : List ℕ} {b : SearchBlock} {r : Region} {boxes : List ℕ} (s : Search older newer b r boxes b.setting.n) where
  total_is : length (places_of b) ≡ (reach b).rows * (reach b).columns
  total_is = reach_count b (ready_standing older newer b s.ready)

  -- all candidates
  pub total_places : (m : ℕ) (keys : List ℕ) (q : Remaining) → Held b m (spots (reach b)) keys q → q.count ≡ length (places_of b)
  total_places m keys q h = sym h.many ∙ spots_places b (ready_standing older newer b s.ready)

  pub places_few : (0 < length (places_of b)) × (length (places_of b) ≤ 1089)
  places_few = let k = reach_room b (ready_standing older newer b s.ready) (reach b) refl in rw total_is (k.3, k.0)

  pub turning_first : {keys numbers : List ℕ} {q : Remaining} (m total slot e : ℕ) → e ≡ still_distortion (pair_of older newer b.setting) b.y b.x
      → Leveled older newer b b.setting.n e keys q → (m ≡ b.setting.n / 2) ⊎ ((m ≡ 1) × (q.count ≡ 1)) → slot ≡ first_slot b.setting.n
      → total ≡ length (places_of b) → few < length keys → length numbers ≡ 2088
      → Turning older newer b r boxes keys numbers (set (replicate count_number 0) slot total) (slot + 1) q m
  turning_first {keys} {numbers} {q} m total slot e first l stands place all room long = record {
    block = s;
    next = b.setting.n / 2;
    going = going_first older newer b s.ready keys q _ _ (rw first at l)
        (rw (place, all) (slots_first b.setting.n (length (places_of b)) (few_rounds b.setting.n s.ready.placed.paired.allowed)));
    stands = stands;
    room = room;
    numbers_long = long;
  }

module _ {older newer : List ℕ} {b : SearchBlock} {r : Region} {boxes keys numbers counts : List ℕ} {slot : ℕ} {q : Remaining} {m : ℕ}
    (t : Turning older newer b r boxes keys numbers counts slot q m) where
  pub turning_few : q.count ≤ length (places_of b)
  turning_few = open_few t.going.stands

  module _ (two : 2 ≤ m) where
    same : m ≡ t.next
    same = ⊎_elim (λ e. e) (λ (e : (m ≡ 1) × (q.count ≡ 1)). absurd (omega (arith, e.0))) t.stands

    more : 2 ≤ t.next
    more = omega (arith, same)

    pub turning_search : Search older newer b r boxes m
    turning_search =
        let s = t.block in
        let power = (along_more more t.going.stands.along).1.0 in
        record {
          ready = s.ready;
          region = s.region;
          boxed = s.boxed;
          room = s.room;
          exponent = suc power.0;
          power = same ∙ power.1;
          inside = omega (arith, same, coarser older newer b s.ready t.going more);
        }

    pub turning_facing : Facing older newer b m keys q
    turning_facing = rw same (going_facing older newer b t.block.ready t.going more)

    pub turning_slot : slot < last_count
    turning_slot = omega (arith, t.going.slots.ahead, ap length (halvings_more t.next more))

    pub turning_more : {keys' numbers' : List ℕ} {q' : Remaining} (m' : ℕ) → Leveled older newer b m q.bound keys' q'
        → (m' ≡ m / 2) ⊎ ((m' ≡ 1) × (q'.count ≡ 1)) → few < length keys' → length numbers' ≡ 2088
        → Turning older newer b r boxes keys' numbers' (set counts slot q.count) (slot + 1) q' m'
    turning_more {keys'} {numbers'} {q'} m' l stands room long = record {
      block = t.block;
      next = t.next / 2;
      going = going_more older newer b t.block.ready t.going more keys' q' (rw same at l);
      stands = rw same at stands;
      room = room;
      numbers_long = long;
    }

  pub turning_closing : Closing older newer b keys q
  turning_closing = record {
    ts = _;
    m = t.going.k;
    held = t.going.held;
    some = open_some t.going.stands;
    among = going_among older newer b t.block.ready t.going;
    best = going_chosen older newer b t.block.ready t.going;
  }

  pub turning_last : m < 2 → (all : List ℕ) (dropped : ℕ) → all ≡ take slot counts ++ replicate (count_number - slot) q.count
      → dropped ≡ length (places_of b) - q.count →
      let v = choice_of b (distortion_to older newer b) in
      search_result v (distortion_to older newer b v) all dropped ≡ pruned_search (pair_of older newer b.setting) b.w b.y b.x
  turning_last low all dropped counted gone =
      ended_is older newer b t.block.ready t.going
      (⊎_elim (λ (e : m ≡ t.next). inl (omega arith)) (λ (e : (m ≡ 1) × (q.count ≡ 1)). inr e.1) t.stands)
      _ _ all dropped refl refl counted gone
