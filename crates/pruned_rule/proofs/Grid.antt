-- Search 2 by rows and columns: the laws of proofs/Open.antt where a loop keeps E, how many remain, and the spots of those that remain instead of their
-- places in the preference table. D and dist are costs of vectors.
--   SafeOn           what no test may drop; NestsOn: what is within the limit at m is within it at k; on blocks: blocks_safe, blocks_nest
--   OpenOn           Open of the costs at the places in the table; ClosedOn: Closed
--   kept_nested      those kept at m among those kept at k are those kept at m among all
--   open_spots       `count` is how many are on the list of spots; open_best: the best of all is among them
--   nearest_listed   the least key of those listed is that of the nearest of all
--   open_on_first    after the test at N
--   one_left         where one remains, one remains after the next turn; one_last: so the rest of the counts are 1
use Prim.Native.Nat.{ℕ, zero, suc, ◌/◌, ◌^◌, ◌≤◌, ◌<◌, ◌∣◌, min}
use mathlib.Core.Path.{◌≡◌, refl, sym, ap, ◌∙◌, subst}
use mathlib.Core.List.{List, [], ◌∷◌, ◌++◌, append-nil}
use native.Mathlib.Nat.{le_trans, dvd_trans, pow-suc, one-le-pow}
use native.Mathlib.Omega.{arith}
use lib.ListN.{length, replicate}
use lib.Seq.{append_snoc}
use Rattle.base.specs.Least.{◌∈◌, first_mem, least_of_mem}
use Rattle.measures.specs.Measures.{Measure}
use Rattle.order.specs.declared.Vector.{Vector}
use Rattle.order.specs.Preference.{preferred}
use Rattle.frame.specs.declared.SearchBlock.{SearchBlock}
use Rattle.distortion.specs.Blocks.{Block, distortion_by}
use Rattle.reach.specs.Reach.{Standing, reach}
use Rattle.pruned_rule.specs.Distance.{distance_by}
use Rattle.pruned_rule.specs.Sift.{kept}
use Rattle.pruned_rule.specs.Prune.{Pruning, prune, halvings, resolutions}
use Rattle.pruned_rule.specs.Spots.{places_of, choice_of, spots, vector_on, kept_on, Chosen}
use Rattle.pruned_rule.proofs.Blocks.{Lawful}
use Rattle.pruned_rule.proofs.Parts.{parted, parted_kept}
use Rattle.pruned_rule.proofs.Pruned.{Attained, holds_some}
use Rattle.pruned_rule.proofs.Search.{PowerOfTwo, half_pow, halvings_more, halvings_none}
use Rattle.pruned_rule.proofs.Finer.{Nesting, finer}
use Rattle.pruned_rule.proofs.Nested.{kept_parted, least_of_all, along_more}
use Rattle.pruned_rule.proofs.Open.{Open, Closed, open_some, open_left, open_first, open_more, open_last}
use Rattle.pruned_rule.proofs.Spots.{parted_few, kept_spots, choice_listed}

abbrev pub SafeOn : (D : Vector → ℕ) (dist : ℕ → Vector → ℕ) (limit : ℕ → ℕ → ℕ) → ℕ → Type 0
SafeOn D dist limit m = (v : Vector) (e : ℕ) → D v ≤ e → dist m v ≤ limit m e

abbrev pub NestsOn : (dist : ℕ → Vector → ℕ) (limit : ℕ → ℕ → ℕ) → ℕ → ℕ → Type 0
NestsOn dist limit m k = (v : Vector) (e f : ℕ) → e ≤ f → dist m v ≤ limit m e → dist k v ≤ limit k f

abbrev pub OpenOn : SearchBlock → (D : Vector → ℕ) (dist : ℕ → Vector → ℕ) (limit : ℕ → ℕ → ℕ) (first N k m e count : ℕ) → List ℕ → Type 0
OpenOn b D dist limit first N k m e count t =
    Open first (λ c. D (preferred c)) (λ i c. dist i (preferred c)) limit N (places_of b) k m e count t

abbrev pub ClosedOn : SearchBlock → (D : Vector → ℕ) (dist : ℕ → Vector → ℕ) (limit : ℕ → ℕ → ℕ) (e count : ℕ) → List ℕ → Pruning → Type 0
ClosedOn b D dist limit e count t p =
    Closed (λ c. D (preferred c)) (λ i c. dist i (preferred c)) limit (places_of b) e count t p

-- on blocks: the newer block a against the older block of each vector
module _ (μ : Measure) (N : ℕ) (a : Block) (older : Vector → Block) where
  pub blocks_safe : Lawful μ → (m : ℕ) → m ∣ N → SafeOn (λ v. distortion_by μ N a (older v)) (λ i v. distance_by μ N i a (older v)) μ.limit m
  blocks_safe lawful m h v e l = lawful N m h a (older v) e l

  pub blocks_nest : Nesting μ → (m k : ℕ) → m ∣ k → k ∣ N → NestsOn (λ i v. distance_by μ N i a (older v)) μ.limit m k
  blocks_nest nesting m k d h v e f g l = le_trans (finer μ nesting N a (older v) m k e d h l) (nesting.rises k g)

pub kept_nested : (dist : ℕ → Vector → ℕ) (limit : ℕ → ℕ → ℕ) (m k : ℕ) → NestsOn dist limit m k → (e f : ℕ) → f ≤ e → (ts : List ℕ)
    → kept_on dist limit m f (kept_on dist limit k e ts) ≡ kept_on dist limit m f ts
kept_nested dist limit m k nest e f h ts = kept_parted _ (limit m f) (λ t. nest (vector_on t) f e h) (parted _ (limit k e) ts)

module _ (b : SearchBlock) (s : Standing b) (D : Vector → ℕ) (dist : ℕ → Vector → ℕ) (limit : ℕ → ℕ → ℕ) where
  -- what is among those that remain is within the limit
  within_limit : (m e : ℕ) {c : ℕ} {left : List ℕ} → left ≡ kept (λ c. dist m (preferred c)) (limit m e) (places_of b) → c ∈ left
      → dist m (preferred c) ≤ limit m e
  within_limit m e {c} q i = (parted_kept (parted _ (limit m e) (places_of b)) (subst (λ (x : List ℕ). c ∈ x) q i)).1

  module _ (first N : ℕ) where
    pub open_on_first : PowerOfTwo N → Attained (λ c. D (preferred c)) (places_of b) first → SafeOn D dist limit N
        → (count : ℕ) → count ≡ length (kept_on dist limit N first (spots (reach b)))
        → OpenOn b D dist limit first N N (N / 2) first count (length (places_of b) ∷ [])
    open_on_first power given safe count is =
        open_first first _ _ limit N (places_of b) power given (λ c. safe (preferred c)) count (is ∙ kept_spots b s (dist N) (limit N first))

    module _ {k m e count : ℕ} {tested : List ℕ} (o : OpenOn b D dist limit first N k m e count tested) where
      pub open_spots : length (kept_on dist limit k e (spots (reach b))) ≡ count
      open_spots = kept_spots b s (dist k) (limit k e) ∙ ap length (sym (open_left o)) ∙ o.many

      pub open_best : dist k (choice_of b D) ≤ limit k e
      open_best = within_limit k e (open_left o) (first_mem o.holds.best)

    module _ (safe : (i : ℕ) → i ∣ N → SafeOn D dist limit i) (nests : (i j : ℕ) → i ∣ j → j ∣ N → NestsOn dist limit i j) where
      module _ {k m e count : ℕ} {tested : List ℕ} (o : OpenOn b D dist limit first N k m e count tested) (h : 2 ≤ m) where
        -- the resolution before
        nest : NestsOn dist limit m k
        nest = nests m k (along_more h o.along).0 o.divides

        pub nearest_listed : (t : ℕ) → Chosen (dist m) (kept_on dist limit k e (spots (reach b))) t → vector_on t ≡ choice_of b (dist m)
        nearest_listed t c =
            let same =
            least_of_all (λ c. D (preferred c)) (λ i c. dist i (preferred c)) limit (places_of b) m k o.state
            (λ c. safe m (dvd_trans m (along_more h o.along).0 o.divides) (preferred c)) (λ c. nest (preferred c)) o.holds o.within in
            choice_listed b s (dist m) (dist k) (limit k e)
            (within_limit k e (open_left o)
            (subst (λ (x : ℕ). x ∈ o.state.left) same (least_of_mem (λ c. dist m (preferred c)) o.state.left (holds_some o.holds))))
            t c

        -- E becomes f, and c of those listed are kept
        kept_more : (f : ℕ) → f ≡ min e (D (choice_of b (dist m))) → (c : ℕ) → c ≡ length (kept_on dist limit m f (kept_on dist limit k e (spots (reach b))))
            → OpenOn b D dist limit first N m (m / 2) f c (tested ++ (count ∷ []))
        kept_more f lowered c counted =
            let less : f ≤ e = omega arith in
            open_more o (λ i d c. safe i d (preferred c)) (λ i j d g c. nests i j d g (preferred c)) h f lowered c
            (counted ∙ ap length (kept_nested dist limit m k nest e f less (spots (reach b))) ∙ kept_spots b s (dist m) (limit m f))

      module _ {k m e : ℕ} {tested : List ℕ} (o : OpenOn b D dist limit first N k m e 1 tested) (h : 2 ≤ m)
          (f : ℕ) (lowered : f ≡ min e (D (choice_of b (dist m)))) where
        pub one_left : OpenOn b D dist limit first N m (m / 2) f 1 (tested ++ (1 ∷ []))
        one_left =
            let listed = kept_on dist limit k e (spots (reach b)) in
            let c = length (kept_on dist limit m f listed) in
            let next = kept_more o h f lowered c refl in
            let few : c ≤ length listed = parted_few (parted (λ t. dist m (vector_on t)) (limit m f) listed) in
            let one : c ≡ 1 = omega (arith, open_some next, open_spots o) in
            subst (λ (x : ℕ). OpenOn b D dist limit first N m (m / 2) f x (tested ++ (1 ∷ []))) one next

      one_on : (j : ℕ) {k m e : ℕ} {tested : List ℕ} → k ≡ 2 ^ suc j → OpenOn b D dist limit first N k m e 1 tested
          → (f : ℕ) × ClosedOn b D dist limit f 1 (tested ++ replicate (length (halvings m)) 1)
          (prune first (λ c. D (preferred c)) (λ i c. dist i (preferred c)) limit N (resolutions N) (places_of b))
      one_on zero {k} {m} {e} {tested} q o =
          let last : m < 2 = omega (arith, o.along.1) in
          (e, rw (halvings_none m last, append-nil) (open_last o last))
      one_on (suc j) {k} {m} {e} {tested} q o =
          let half : m ≡ 2 ^ suc j = o.along.1 ∙ ap (λ (x : ℕ). x / 2) q ∙ half_pow (suc j) in
          let two : 2 ≤ m = omega (arith, pow-suc 2 j, one-le-pow j 2 (omega arith)) in
          rw (halvings_more m two, ← append_snoc tested 1 (replicate (length (halvings (m / 2))) 1))
          (one_on j half (one_left o two (min e (D (choice_of b (dist m)))) refl))

      pub one_last : {k m e : ℕ} {tested : List ℕ} → OpenOn b D dist limit first N k m e 1 tested
          → (f : ℕ) × ClosedOn b D dist limit f 1 (tested ++ replicate (length (halvings m)) 1)
          (prune first (λ c. D (preferred c)) (λ i c. dist i (preferred c)) limit N (resolutions N) (places_of b))
      one_last o = one_on o.along.0.0 o.along.0.1 o
