-- Search 2 without its list, between two resolutions: a loop keeps E, how many remain and how many were tested so far, and looks at all candidates at
-- each m. Over any candidates, distortions and distances.
--   Open         after the test at k, with m next: E is e, `count` remain, and t are the counts of the tests so far
--   open_first   after the test at N
--   open_more    one turn: E is lowered to the distortion of the nearest of all at m, and those of all within its limit are counted
--   open_last    after the turn at 2: what is known of the search's end, Closed
--   all_last     where E is 0 and all are within the limit at each resolution: all remain to the end
--   open_left    those that remain: so they can be listed after any turn; open_some, open_few: at least one, at most all
use Prim.Native.Nat.{ℕ, zero, suc, ◌-◌, ◌/◌, ◌^◌, ◌≤◌, ◌<◌, ◌∣◌, min}
use mathlib.Core.Path.{◌≡◌, refl, sym, ap, ◌∙◌}
use mathlib.Core.List.{List, [], ◌∷◌, ◌++◌, append-nil}
use native.Mathlib.Nat.{dvd_refl, dvd_trans, pow-suc, one-le-pow}
use native.Mathlib.Omega.{arith}
use lib.ListN.{length, replicate}
use lib.Seq.{append_snoc}
use Rattle.base.specs.Least.{least_of, least_of_unique}
use Rattle.frame.specs.Pictures.{count_number}
use Rattle.pruned_rule.specs.Sift.{kept}
use Rattle.pruned_rule.specs.Prune.{Pruning, all_remaining, lower, sift, rounds, prune, counts, halvings, resolutions}
use Rattle.pruned_rule.proofs.Counts.{Counted, counted_length, all_remaining_counted, lower_counted, sift_counted}
use Rattle.pruned_rule.proofs.Pruned.{Attained, Holds, Safe, holds_some, all_remaining_holds, lower_holds, sift_holds}
use Rattle.pruned_rule.proofs.Search.{PowerOfTwo, half_pow, halvings_more, halvings_none, rounds_more, rounds_none}
use Rattle.pruned_rule.proofs.Nested.{Nests, Within, Along, start_within, round_within, lower_of_all, along_first, along_more, along_last}

-- E began as `first`
pub record Open (first : ℕ) (D : ℕ → ℕ) (d limit : ℕ → ℕ → ℕ) (N : ℕ) (ks : List ℕ) (k m e count : ℕ) (t : List ℕ) : Type 0 where
  pub state : Pruning
  pub bound : state.bound ≡ e
  pub many : length state.left ≡ count
  pub tested : state.tested ≡ t
  pub holds : Holds D ks state
  pub tests_counted : Counted ks state
  pub within : Within d limit ks k state
  -- the rounds from m on lead to the end
  pub ahead : prune first D d limit N (resolutions N) ks ≡ rounds D d limit (halvings m) state
  pub along : Along k m
  pub divides : k ∣ N

-- s is the search's end: `count` are finally measured, and E is e
pub record Closed (D : ℕ → ℕ) (d limit : ℕ → ℕ → ℕ) (ks : List ℕ) (e count : ℕ) (t : List ℕ) (s : Pruning) : Type 0 where
  pub left : s.left ≡ kept (d 2) (limit 2 e) ks
  pub many : length s.left ≡ count
  pub dropped : length s.dropped ≡ length ks - count
  pub all_counts : counts s ≡ replicate (count_number - length (t ++ (count ∷ []))) 0 ++ (t ++ (count ∷ []))
  -- the best of all candidates is the best of them
  pub best : least_of D s.left ≡ least_of D ks

module _ (first : ℕ) (D : ℕ → ℕ) (d limit : ℕ → ℕ → ℕ) (N : ℕ) (ks : List ℕ) where
  pub open_first : PowerOfTwo N → Attained D ks first → Safe D d limit N → (count : ℕ) → count ≡ length (kept (d N) (limit N first) ks)
      → Open first D d limit N ks N (N / 2) first count (length ks ∷ [])
  unfolding prune sift all_remaining
  open_first power given safe count is =
      record {
        state = sift d limit N (all_remaining first ks);
        bound = refl;
        many = sym is;
        tested = refl;
        holds = sift_holds D d ks limit N _ safe (all_remaining_holds first D ks given);
        tests_counted = sift_counted D d limit ks N _ (all_remaining_counted first ks);
        within = start_within d limit ks first N;
        ahead = refl;
        along = along_first N power;
        divides = dvd_refl N;
      }

module _ {first : ℕ} {D : ℕ → ℕ} {d limit : ℕ → ℕ → ℕ} {N : ℕ} {ks : List ℕ} {k m e count : ℕ} {t : List ℕ}
    (o : Open first D d limit N ks k m e count t) where
  pub open_some : 0 < count
  open_some = rw (← o.many) (holds_some o.holds)

  pub open_few : count ≤ length ks
  open_few = omega (arith, o.many, counted_length o.tests_counted)

  pub open_left : o.state.left ≡ kept (d k) (limit k e) ks
  open_left = o.within ∙ ap (λ (x : ℕ). kept (d k) (limit k x) ks) o.bound

  -- f is the new E and c how many then remain
  pub open_more : ((i : ℕ) → i ∣ N → Safe D d limit i) → ((i j : ℕ) → i ∣ j → j ∣ N → Nests d limit i j) → 2 ≤ m
      → (f : ℕ) → f ≡ min e (D (least_of (d m) ks)) → (c : ℕ) → c ≡ length (kept (d m) (limit m f) ks)
      → Open first D d limit N ks m (m / 2) f c (t ++ (count ∷ []))
  unfolding lower sift
  open_more safe nests h f lowered c counted =
      let (fine, along) = along_more h o.along in
      let divides = dvd_trans m fine o.divides in
      let sure = safe m divides in
      let nest = nests m k fine o.divides in
      let within = round_within D d limit ks m k o.state nest o.within in
      let bound =
      lower_of_all D d limit ks m k o.state sure nest o.holds o.within
      ∙ ap (λ (x : ℕ). min x (D (least_of (d m) ks))) o.bound
      ∙ sym lowered in
      record {
        state = sift d limit m (lower D d m o.state);
        bound = bound;
        many = ap length within ∙ ap (λ (x : ℕ). length (kept (d m) (limit m x) ks)) bound ∙ sym counted;
        tested = rw (o.tested, o.many);
        holds = sift_holds D d ks limit m _ sure (lower_holds D d ks m _ o.holds);
        tests_counted = sift_counted D d limit ks m _ (lower_counted D d limit ks m _ o.tests_counted);
        within = within;
        ahead = o.ahead ∙ rounds_more D d limit m o.state h;
        along = along;
        divides = divides;
      }

  pub open_last : m < 2 → Closed D d limit ks e count t (prune first D d limit N (resolutions N) ks)
  unfolding counts
  open_last h =
      rw (o.ahead ∙ rounds_none D d limit m o.state h)
      (record {
        left = open_left ∙ ap (λ (i : ℕ). kept (d i) (limit i e) ks) (along_last h o.along);
        many = o.many;
        dropped = omega (arith, o.many, counted_length o.tests_counted);
        all_counts = rw (o.tested, o.many);
        best = least_of_unique o.holds.best;
      })

-- where E is 0 and all candidates are within the limit at each resolution, none is dropped
module _ {D : ℕ → ℕ} {d limit : ℕ → ℕ → ℕ} {N : ℕ} {ks : List ℕ} where
  all_on : (j : ℕ) {k m count : ℕ} {t : List ℕ} → k ≡ 2 ^ suc j → Open 0 D d limit N ks k m 0 count t
      → ((i : ℕ) → i ∣ N → Safe D d limit i) → ((i j : ℕ) → i ∣ j → j ∣ N → Nests d limit i j)
      → ((i : ℕ) → i ∣ N → length (kept (d i) (limit i 0) ks) ≡ count)
      → Closed D d limit ks 0 count (t ++ replicate (length (halvings m)) count) (prune 0 D d limit N (resolutions N) ks)
  all_on zero {k} {m} q o safe nests all =
      let last : m < 2 = omega (arith, o.along.1) in
      rw (halvings_none m last, append-nil) (open_last o last)
  all_on (suc j) {k} {m} {count} {t} q o safe nests all =
      let half : m ≡ 2 ^ suc j = o.along.1 ∙ ap (λ (x : ℕ). x / 2) q ∙ half_pow (suc j) in
      let two : 2 ≤ m = omega (arith, pow-suc 2 j, one-le-pow j 2 (omega arith)) in
      let divides = dvd_trans m (along_more two o.along).0 o.divides in
      rw (halvings_more m two, ← append_snoc t count (replicate (length (halvings (m / 2))) count))
      (all_on j half (open_more o safe nests two 0 (omega arith) count (sym (all m divides))) safe nests all)

  pub all_last : {k m count : ℕ} {t : List ℕ} → Open 0 D d limit N ks k m 0 count t
      → ((i : ℕ) → i ∣ N → Safe D d limit i) → ((i j : ℕ) → i ∣ j → j ∣ N → Nests d limit i j)
      → ((i : ℕ) → i ∣ N → length (kept (d i) (limit i 0) ks) ≡ count)
      → Closed D d limit ks 0 count (t ++ replicate (length (halvings m)) count) (prune 0 D d limit N (resolutions N) ks)
  all_last o = all_on o.along.0.0 o.along.0.1 o
