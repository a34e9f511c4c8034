-- Search 2 from one resolution to the next, by spots: what is in memory is where the search of pruned_rule stands.
--   safe_on         no test drops the best; nests_on: what is within the limit at a resolution is so at the coarser ones
--   bound_same      at N E stays; bound_lowered: at a finer m it is lowered
--   Slots           the counts so far stand in their places, and there are as many more as resolutions
--   Going           the search stands between two resolutions
--   first_facing    before the test at N; going_first: after it
--   going_facing    before the test at the next resolution; going_more: after it
--   going_chosen    the best of those that remain is the best of all
--   going_ends      after the last test, or where one candidate remains: what is known of the search's end
--   ended_is        the answer made of what is in memory is search 2's
use Prim.Native.Nat.{ℕ, suc, ◌+◌, ◌-◌, ◌*◌, ◌/◌, ◌≤◌, ◌<◌, ◌∣◌, min}
use mathlib.Core.Path.{◌≡◌, refl, sym, ap, ◌∙◌, subst}
use mathlib.Core.Logic.{◌⊎◌, ⊎_elim}
use mathlib.Core.Bool.{Bool, true, false, cond, ◌||◌, ◌&&◌}
use mathlib.Core.List.{List, [], ◌∷◌, ◌++◌, append-nil, append_assoc}
use native.Mathlib.Nat.{le_refl, le_trans, mul-le-mul_left, min-le_left, one-le-pow, dvd_refl, le_of_dvd}
use native.Mathlib.Numerals.{add-one}
use native.Mathlib.Omega.{arith}
use borrow.Author.Tests.{lt-ltb, le-ltb}
use lib.Dec.{T, eqb, leb, ltb, leb→le, le→leb}
use lib.ListN.{length, take, set, length-set, length-append, replicate, length-replicate, replicate-append-replicate}
use lib.Seq.{take-suc-set}
use Rattle.base.specs.Least.{◌∈◌, least_of}
use Rattle.measures.specs.Measures.{measure_of}
use Rattle.order.specs.declared.Vector.{Vector}
use Rattle.order.specs.Preference.{preferred}
use Rattle.frame.specs.Pictures.{Pair, pair_of, count_number, last_count}
use Rattle.frame.specs.declared.Setting.{Setting}
use Rattle.frame.specs.declared.SearchBlock.{SearchBlock}
use Rattle.distortion.specs.Blocks.{distortion, newer_block, older_block}
use Rattle.search.specs.SearchResult.{search_result}
use Rattle.search.specs.Target.{Ready}
use Rattle.reach.specs.Reach.{Standing, reach}
use Rattle.reach.proofs.Candidates.{ready_standing}
use Rattle.pruned_rule.specs.Prune.{Pruning, prune, pruned_best, halvings, resolutions}
use Rattle.pruned_rule.specs.Spots.{spots, vector_on, Chosen, places_of, choice_of}
use Rattle.pruned_rule.proofs.Blocks.{measure_lawful}
use Rattle.pruned_rule.proofs.Parts.{parted, parted_kept}
use Rattle.pruned_rule.proofs.Search.{PowerOfTwo, halvings_more, halvings_none}
use Rattle.pruned_rule.proofs.Finer.{nesting}
use Rattle.pruned_rule.proofs.Nested.{along_more}
use Rattle.pruned_rule.proofs.Open.{open_some, open_more, open_last}
use Rattle.pruned_rule.proofs.Spots.{kept_spots, choice_listed}
use Rattle.pruned_rule.proofs.Grid.{SafeOn, NestsOn, OpenOn, ClosedOn, blocks_safe, blocks_nest, kept_nested, open_on_first, open_best, nearest_listed, one_last}
use Rattle.pruned_list.specs.Listed.{distortion_to}
use Rattle.pruned.specs.declared.Remaining.{Remaining}
use Rattle.pruned.specs.Answer.{still_distortion, pruning, pruned_place, pruned_search}
use Rattle.pruned.specs.Flow.{dist_of, limit_of, left_at, bound_by, fits, few, by_all, Held, Facing, Leveled}
use Rattle.pruned.proofs.Blocks.{block_size_power}
use Rattle.pruned.proofs.Laws.{still_given}

-- ---- bounds

module _ (older newer : List ℕ) (b : SearchBlock) (m : ℕ) (v : Vector) (e : ℕ) where
  pub bound_same : b.setting.n ≤ m → bound_by older newer b m v e ≡ e
  unfolding bound_by
  bound_same h = rw (le-ltb m b.setting.n h)

  pub bound_lowered : m < b.setting.n → bound_by older newer b m v e ≡ min e (distortion_to older newer b v)
  unfolding bound_by
  bound_lowered h = rw (lt-ltb m b.setting.n h)

  pub bound_less : bound_by older newer b m v e ≤ e
  unfolding bound_by
  bound_less = go (ltb m b.setting.n)
    where
      go : (t : Bool) → cond t (min e (distortion_to older newer b v)) e ≤ e
      go true = min-le_left _ _
      go false = le_refl e

-- distances that have 32 bits at a resolution have so at the finer ones
pub fits_finer : (s : Setting) (k m : ℕ) → m ≤ k → T (fits s k) → T (fits s m)
unfolding fits
fits_finer s k m h = go (eqb s.measure 1)
  where
    go : (t : Bool) → T (t || leb (s.n * k) 256) → T (t || leb (s.n * m) 256)
    go true u = u
    go false u = le→leb (s.n * m) 256 (le_trans (mul-le-mul_left s.n h) (leb→le (s.n * k) 256 u))

pub all_finer : (s : Setting) (k m count : ℕ) → m ≤ k → T (by_all s k count) → T (by_all s m count)
all_finer s k m count h = go (ltb few count)
  where
    go : (t : Bool) → T (t && fits s k) → T (t && fits s m)
    go true u = fits_finer s k m h u
    go false u = u

-- so what is not tested by the distances of all at a resolution is not at the coarser ones
none_coarser : (s : Setting) (k m count : ℕ) → m ≤ k → by_all s m count ≡ false → by_all s k count ≡ false
none_coarser s k m count h none = go (by_all s k count) refl
  where
    go : (t : Bool) → by_all s k count ≡ t → by_all s k count ≡ false
    go true e = absurd (subst T none (all_finer s k m count h (subst T (sym e) tt)))
    go false e = e

-- ---- the counts

pub record Slots (next : ℕ) (tested counts : List ℕ) (slot : ℕ) : Type 0 where
  pub unused : ℕ
  pub is : slot ≡ unused + length tested
  pub long : length counts ≡ count_number
  pub front : take slot counts ≡ replicate unused 0 ++ tested
  pub ahead : slot + length (halvings next) ≡ last_count

pub slots_more : {next slot : ℕ} {tested counts : List ℕ} → 2 ≤ next → Slots next tested counts slot → (count : ℕ)
    → Slots (next / 2) (tested ++ (count ∷ [])) (set counts slot count) (slot + 1)
slots_more {next} {slot} {tested} {counts} two s count =
    let ahead : slot + 1 + length (halvings (next / 2)) ≡ last_count = omega (arith, s.ahead, ap length (halvings_more next two)) in
    record {
      unused = s.unused;
      is = omega (arith, s.is, length-append tested (count ∷ []));
      long = length-set counts slot count ∙ s.long;
      front = rw (add-one slot, take-suc-set counts slot count (omega (arith, s.long)), s.front) (append_assoc (replicate s.unused 0) tested (count ∷ []));
      ahead = ahead;
    }

-- all counts, where the rest of them are those of the last
pub slots_ended : {next slot : ℕ} {tested counts : List ℕ} → Slots next tested counts slot → (count : ℕ) →
    let t = tested ++ replicate (length (halvings next)) count in
    take slot counts ++ replicate (count_number - slot) count ≡ replicate (count_number - length (t ++ (count ∷ []))) 0 ++ (t ++ (count ∷ []))
slots_ended {next} {slot} {tested} {counts} s count =
    let h = length (halvings next) in
    let unused : count_number - length ((tested ++ replicate h count) ++ (count ∷ [])) ≡ s.unused =
    omega (arith, s.is, s.ahead, length-append (tested ++ replicate h count) (count ∷ []), length-append tested (replicate h count), length-replicate h count) in
    let rest : count_number - slot ≡ h + 1 = omega (arith, s.ahead) in
    rw (s.front, rest, unused, ← replicate-append-replicate h 1 count) (append_assoc (replicate s.unused 0) tested (replicate h count ++ replicate 1 count) ∙ ap (◌++◌ (replicate s.unused 0)) (sym (append_assoc tested (replicate h count) (count ∷ []))))

-- ---- the search

module _ (older newer : List ℕ) (b : SearchBlock) where
  abbrev p : Pair
  p = pair_of older newer b.setting

  abbrev n : ℕ
  n = b.setting.n

  abbrev D : Vector → ℕ
  D = distortion_to older newer b

  abbrev dist : ℕ → Vector → ℕ
  dist = dist_of older newer b

  abbrev first : ℕ
  first = still_distortion p b.y b.x

  abbrev end : Pruning
  end = prune first (λ c. D (preferred c)) (λ i c. dist i (preferred c)) (limit_of b) n (resolutions n) (places_of b)

  pub record Going (next : ℕ) (keys : List ℕ) (q : Remaining) (counts : List ℕ) (slot : ℕ) : Type 0 where
    pub k : ℕ
    pub tested : List ℕ
    pub stands : OpenOn b D dist (limit_of b) first n k next q.bound q.count tested
    pub held : Held b k (left_at older newer b k q.bound) keys q
    pub slots : Slots next tested counts slot

  pub safe_on : (i : ℕ) → i ∣ n → SafeOn D dist (limit_of b) i
  unfolding distortion
  safe_on i h =
      blocks_safe (measure_of b.setting.measure) n (newer_block p b.y b.x) (older_block p b.y b.x) (measure_lawful b.setting.measure) i h

  pub nests_on : (i j : ℕ) → i ∣ j → j ∣ n → NestsOn dist (limit_of b) i j
  nests_on i j d h =
      blocks_nest (measure_of b.setting.measure) n (newer_block p b.y b.x) (older_block p b.y b.x) (nesting b.setting.measure) i j d h

  -- before the test at N all candidates are there
  pub first_facing : (keys : List ℕ) (q : Remaining) → 0 < q.count → Held b n (spots (reach b)) keys q → Facing older newer b n keys q
  first_facing keys q some held = record {
    ts = spots (reach b);
    held = held;
    some = some;
    among = λ t i. i;
    nearest = λ h. absurd (omega arith);
    same = λ f h. refl;
  }

  module _ (ready : Ready older newer b) where
    standing : Standing b
    standing = ready_standing older newer b ready

    power : PowerOfTwo n
    power = block_size_power n ready.placed.paired.allowed

    pub going_first : (keys : List ℕ) (q : Remaining) (counts : List ℕ) (slot : ℕ) → Leveled older newer b n first keys q
        → Slots (n / 2) (length (places_of b) ∷ []) counts slot → Going (n / 2) keys q counts slot
    going_first keys q counts slot l s =
        let same = l.bound ∙ bound_same older newer b n _ first (le_refl n) in
        record {
          k = n;
          tested = length (places_of b) ∷ [];
          stands = subst (λ (e : ℕ). OpenOn b D dist (limit_of b) first n n (n / 2) e q.count (length (places_of b) ∷ [])) (sym same)
              (open_on_first b standing D dist (limit_of b) first n power (still_given p b.w b.y b.x power ready.window ready.placed.down ready.placed.across) (safe_on n (dvd_refl n)) q.count
              (sym l.held.many ∙ ap (λ (e : ℕ). length (left_at older newer b n e)) same));
          held = l.held;
          slots = s;
        }

    module _ {next : ℕ} {keys : List ℕ} {q : Remaining} {counts : List ℕ} {slot : ℕ} (g : Going next keys q counts slot) where
      -- the best of those that remain is the best of all
      pub going_chosen : (t : ℕ) → Chosen D (left_at older newer b g.k q.bound) t → vector_on t ≡ choice_of b D
      going_chosen = choice_listed b standing D (dist g.k) (limit_of b g.k q.bound) (open_best b standing D dist (limit_of b) first n g.stands)

      pub going_among : (t : ℕ) → t ∈ left_at older newer b g.k q.bound → t ∈ spots (reach b)
      going_among t m = (parted_kept (parted _ _ (spots (reach b))) m).0

      module _ (two : 2 ≤ next) where
        finer : next ∣ g.k
        finer = (along_more two g.stands.along).0

        pub coarser : (next ≤ g.k) × (next < n)
        coarser =
            let half = g.stands.along.1 in
            let whole = le_of_dvd (omega (arith, power.1, one-le-pow (suc power.0) 2 (omega arith))) g.stands.divides in
            (omega (arith, half), omega (arith, half, whole))

        pub going_facing : Facing older newer b next keys q
        going_facing = record {
          ts = left_at older newer b g.k q.bound;
          held = record {
            many = g.held.many;
            listed = λ u. g.held.listed (none_coarser b.setting g.k next q.count coarser.0 u);
          };
          some = open_some g.stands;
          among = going_among;
          nearest = λ h t c. nearest_listed b standing D dist (limit_of b) first n safe_on nests_on g.stands two t c;
          same = λ f h. kept_nested dist (limit_of b) next g.k (nests_on next g.k finer g.stands.divides) q.bound f h (spots (reach b));
        }

        pub going_more : (keys' : List ℕ) (q' : Remaining) → Leveled older newer b next q.bound keys' q'
            → Going (next / 2) keys' q' (set counts slot q.count) (slot + 1)
        going_more keys' q' l = record {
          k = next;
          tested = g.tested ++ (q.count ∷ []);
          stands = open_more g.stands (λ i d c. safe_on i d (preferred c)) (λ i j d h c. nests_on i j d h (preferred c)) two q'.bound
              (l.bound ∙ bound_lowered older newer b next _ q.bound coarser.1) q'.count
              (sym l.held.many ∙ kept_spots b standing (dist next) (limit_of b next q'.bound));
          held = l.held;
          slots = slots_more two g.slots q.count;
        }

      -- after the last test, or where one candidate remains
      pub going_ends : (next < 2) ⊎ (q.count ≡ 1)
          → (f : ℕ) × ClosedOn b D dist (limit_of b) f q.count (g.tested ++ replicate (length (halvings next)) q.count) end
      going_ends =
          ⊎_elim
          (λ low. (q.bound, rw (halvings_none next low, append-nil) (open_last g.stands low)))
          (λ one.
          subst (λ (c : ℕ). (f : ℕ) × ClosedOn b D dist (limit_of b) f c (g.tested ++ replicate (length (halvings next)) c) end) (sym one)
          (one_last b standing D dist (limit_of b) first n safe_on nests_on
          (subst (λ (c : ℕ). OpenOn b D dist (limit_of b) first n g.k next q.bound c g.tested) one g.stands)))

      -- the answer
      pub ended_is : (next < 2) ⊎ (q.count ≡ 1) → (v : Vector) (d : ℕ) (all : List ℕ) (dropped : ℕ) → v ≡ choice_of b D → d ≡ D v
          → all ≡ take slot counts ++ replicate (count_number - slot) q.count → dropped ≡ length (places_of b) - q.count
          → search_result v d all dropped ≡ pruned_search p b.w b.y b.x
      unfolding pruned_search pruning pruned_place pruned_best
      ended_is last v d all dropped ev ed ea ec =
          let (f, c) = going_ends last in
          let vector : v ≡ preferred (least_of (λ c. D (preferred c)) end.left) = ev ∙ ap preferred (sym c.best) in
          let cost : d ≡ D (preferred (least_of (λ c. D (preferred c)) end.left)) = ed ∙ ap D vector in
          let counted = ea ∙ slots_ended g.slots q.count ∙ sym c.all_counts in
          rw (counted, ec ∙ sym c.dropped, cost, vector) refl
