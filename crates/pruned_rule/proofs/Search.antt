-- Search 2 on blocks, for every N and all resolutions that divide it, by every lawful measure: the distance never exceeds what the distortion
-- allows, so no test drops the winner.
use Prim.Native.Nat.{ℕ, zero, suc, ◌/◌, ◌^◌, ◌≤◌, ◌<◌, ◌∣◌}
use mathlib.Core.Path.{◌≡◌, refl, sym, ap, ◌∙◌, subst, subst⁻¹}
use mathlib.Core.Logic.{◌⊎◌, ⊎_elim}
use mathlib.Core.Bool.{Bool, true, false, cond}
use mathlib.Core.List.Memᴰ
use mathlib.Core.List.{List, [], ◌∷◌}
use native.Mathlib.Nat.{dvd_refl, dvd_trans, dvd-mul_right, pow-suc, one-le-pow, mul-div_cancel, zero-lt-suc}
use native.Mathlib.Omega.{arith}
use borrow.Author.Tests.{lt-ltb, le-ltb, ltb-false}
use lib.Dec.{ltb}
use lib.ListN.{length}
use Rattle.base.specs.Least.{◌∈◌, least_of, mem_length}
use Rattle.base.specs.Picks.{pick, BestBelow, least_of_pick}
use Rattle.measures.specs.Measures.{Measure}
use Rattle.distortion.specs.Blocks.{Block}
use Rattle.pruned_rule.specs.Distance.{distortions, distances}
use Rattle.pruned_rule.specs.Prune.{Pruning, lower, sift, rounds, prune, pruned_best, halves, halvings, resolutions}
use Rattle.pruned_rule.proofs.Blocks.{Lawful}
use Rattle.pruned_rule.proofs.Pruned.{Attained, Safe, still_attained, pruned_is_full, dropped_worse}

-- ---- the resolutions

in_cond : (t : Bool) {m x : ℕ} {rest : List ℕ} → m ∈ cond t [] (x ∷ rest) → (m ≡ x) ⊎ (m ∈ rest)
in_cond true i = absurd (Memᴰ.not-nil i)
in_cond false i = Memᴰ.cases_cons i

pub half_pow : (j : ℕ) → 2 ^ suc j / 2 ≡ 2 ^ j
half_pow j = ap (λ x. x / 2) (pow-suc 2 j) ∙ mul-div_cancel (2 ^ j) (zero-lt-suc 1)

pub pow_dvd : (j : ℕ) → 2 ^ j ∣ 2 ^ suc j
pow_dvd j = rw pow-suc (dvd-mul_right (2 ^ j) 2)

halves_divide : (n j : ℕ) {m : ℕ} → m ∈ halves n (2 ^ j) → m ∣ 2 ^ j
unfolding halves
halves_divide zero j i = absurd (Memᴰ.not-nil i)
halves_divide (suc n) zero i = absurd (Memᴰ.not-nil i)
halves_divide (suc n) (suc j) {m} i =
    ⊎_elim (λ q. subst (λ (x : ℕ). x ∣ 2 ^ suc j) (sym q) (dvd_refl (2 ^ suc j)))
    (λ r. dvd_trans m (halves_divide n j (subst (λ (x : ℕ). m ∈ halves n x) (half_pow j) r)) (pow_dvd j))
    (in_cond (ltb (2 ^ suc j) 2) i)

-- a power of two from 2 on, as each allowed N is
abbrev pub PowerOfTwo : ℕ → Type 0
PowerOfTwo N = (j : ℕ) × (N ≡ 2 ^ suc j)

-- the block size and the resolutions of the rounds divide the block size
pub resolutions_divide : (N : ℕ) → PowerOfTwo N → (m : ℕ) → m ∈ N ∷ resolutions N → m ∣ N
resolutions_divide N (j, e) m i =
    ⊎_elim (λ q. subst (λ (x : ℕ). x ∣ N) (sym q) (dvd_refl N))
    (λ r. rw e (dvd_trans m (halves_divide (2 ^ j) j (rw (e, half_pow j) at r)) (pow_dvd j)))
    (Memᴰ.cases_cons i)

-- a bound that is enough is as good as any other
halves_enough : (f g m : ℕ) → m ≤ f → m ≤ g → halves f m ≡ halves g m
unfolding halves
halves_enough zero zero m p q = refl
halves_enough zero (suc g) m p q = ap (λ (t : Bool). cond t [] (m ∷ halves g (m / 2))) (sym (lt-ltb m 2 (omega arith)))
halves_enough (suc f) zero m p q = ap (λ (t : Bool). cond t [] (m ∷ halves f (m / 2))) (lt-ltb m 2 (omega arith))
halves_enough (suc f) (suc g) m p q = step (ltb m 2) refl (λ h. halves_enough f g (m / 2) (omega arith) (omega arith))
  where
    step : (t : Bool) → ltb m 2 ≡ t → (2 ≤ m → halves f (m / 2) ≡ halves g (m / 2)) → cond t [] (m ∷ halves f (m / 2)) ≡ cond t [] (m ∷ halves g (m / 2))
    step true e r = refl
    step false e r = ap (λ (xs : List ℕ). m ∷ xs) (r (ltb-false m 2 e))

-- a turn of a loop that halves m: what it still has before it
pub halvings_more : (m : ℕ) → 2 ≤ m → halvings m ≡ m ∷ halvings (m / 2)
unfolding halves
halvings_more zero h = absurd (omega arith)
halvings_more (suc n) h =
    ap (λ (t : Bool). cond t [] (suc n ∷ halves n (suc n / 2))) (le-ltb (suc n) 2 h)
    ∙ ap (λ (xs : List ℕ). suc n ∷ xs) (halves_enough n (suc n / 2) (suc n / 2) (omega arith) (omega arith))

pub halvings_none : (m : ℕ) → m < 2 → halvings m ≡ []
unfolding halves
halvings_none zero h = refl
halvings_none (suc n) h = ap (λ (t : Bool). cond t [] (suc n ∷ halves n (suc n / 2))) (lt-ltb (suc n) 2 h)

-- after N = 2 ^ (j + 1) there are j resolutions: of the counts, two more are N's own and that at m = 1
pub resolutions_many : (j : ℕ) → length (resolutions (2 ^ suc j)) ≡ j
resolutions_many zero = rw (half_pow 0, halvings_none 1 (omega arith))
resolutions_many (suc j) =
    let two : 2 ≤ 2 ^ suc j = omega (arith, pow-suc 2 j, one-le-pow j 2 (omega arith)) in
    rw (half_pow (suc j), halvings_more (2 ^ suc j) two) (ap suc (resolutions_many j))

-- so the rounds that a loop at m still has before it
pub rounds_more : (D : ℕ → ℕ) (dist limit : ℕ → ℕ → ℕ) (m : ℕ) (s : Pruning) → 2 ≤ m
    → rounds D dist limit (halvings m) s ≡ rounds D dist limit (halvings (m / 2)) (sift dist limit m (lower D dist m s))
unfolding rounds
rounds_more D dist limit m s h = ap (λ (ms : List ℕ). rounds D dist limit ms s) (halvings_more m h)

pub rounds_none : (D : ℕ → ℕ) (dist limit : ℕ → ℕ → ℕ) (m : ℕ) (s : Pruning) → m < 2 → rounds D dist limit (halvings m) s ≡ s
unfolding rounds
rounds_none D dist limit m s h = ap (λ (ms : List ℕ). rounds D dist limit ms s) (halvings_none m h)

-- ---- the search

-- a resolution that divides the block size is safe
pub safe : (μ : Measure) → Lawful μ → (N : ℕ) (a : Block) (b : ℕ → Block) (m : ℕ) → m ∣ N
    → Safe (distortions μ N a b) (distances μ N a b) μ.limit m
safe μ lawful N a b m h k e l = lawful N m h a (b k) e l

-- over candidates ks by a lawful measure and at resolutions ms that divide N, E beginning as the distortion e of one of them
module _ (μ : Measure) (lawful : Lawful μ) (N : ℕ) (a : Block) (b : ℕ → Block) (ms ks : List ℕ) (e : ℕ)
    (given : Attained (distortions μ N a b) ks e) (divide : (m : ℕ) → m ∈ N ∷ ms → m ∣ N)
  where
    all_safe : (m : ℕ) → m ∈ N ∷ ms → Safe (distortions μ N a b) (distances μ N a b) μ.limit m
    all_safe m i = safe μ lawful N a b m (divide m i)

    -- its answer is the full search's
    pub search_is_full : pruned_best e (distortions μ N a b) (distances μ N a b) μ.limit N ms ks ≡ least_of (distortions μ N a b) ks
    search_is_full = pruned_is_full e _ _ _ N ms ks given all_safe

    -- what it drops is strictly worse than its answer
    pub search_drops : {k : ℕ} → k ∈ (prune e (distortions μ N a b) (distances μ N a b) μ.limit N ms ks).dropped
        → distortions μ N a b (pruned_best e (distortions μ N a b) (distances μ N a b) μ.limit N ms ks) < distortions μ N a b k
    search_drops i = dropped_worse e _ _ _ N ms ks given all_safe i

-- the same where the candidates are the numbers below n that pass the test p, and 0, the place of (0,0), is one, of distortion e:
-- the answer is a candidate, none has a lower distortion, and none before it has the same
pub search_best : (μ : Measure) → Lawful μ → (N : ℕ) (a : Block) (b : ℕ → Block) (ms : List ℕ) (e : ℕ) → ((m : ℕ) → m ∈ N ∷ ms → m ∣ N)
    → (p : ℕ → Bool) (n : ℕ) → p 0 ≡ true → distortions μ N a b 0 ≡ e
    → BestBelow (distortions μ N a b) p (suc n) (pruned_best e (distortions μ N a b) (distances μ N a b) μ.limit N ms (pick p (suc n)))
search_best μ lawful N a b ms e divide p n zero-passes is =
    let given = still_attained (distortions μ N a b) p n e zero-passes is in
    subst⁻¹ (BestBelow (distortions μ N a b) p (suc n)) (search_is_full μ lawful N a b ms (pick p (suc n)) e given divide)
    (least_of_pick (distortions μ N a b) p (suc n) (mem_length given.1))
