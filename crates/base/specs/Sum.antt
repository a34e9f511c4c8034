-- Finite sums, and their laws.
--   sum_to f n      f 0 + f 1 + .. + f (n - 1)
--   sum_over n m h  the sum of h over n rows and m columns
--   sum_each f l    the sum of f, a signed number, over a list's elements
use Rattle.std.specs.Prelude.{ℕ, zero, suc, ◌+◌, ◌*◌, ◌≤◌, ◌<◌, ◌≡◌, refl, List, [], ◌∷◌, ◌++◌, ℤ, pos, ◌+ℤ◌}
use Rattle.std.proofs.Common.{sym, ap, ap₂, ◌∙◌, ⊎_elim, add-zero, add-suc, add_assoc, zero-mul, mul-zero, suc-mul, mul-add, le_refl, add-le-add, lt-suc_self, le_trans, le-add_left, le-add_right, eq-or-lt_of_le, le_of_suc-le-suc, add-one, arith}
use Rattle.std.proofs.Math.Nat.{le_step}
use Rattle.std.proofs.Math.IntN.{+ℤ_assoc, +ℤ_idl, +ℤ_idr}

unfoldable pub sum_to : (ℕ → ℕ) → ℕ → ℕ
sum_to f zero = 0
sum_to f (suc n) = sum_to f n + f n

pub sum_to_none : (f : ℕ → ℕ) → sum_to f 0 ≡ 0
unfolding sum_to
sum_to_none f = refl

pub sum_to_more : (f : ℕ → ℕ) (n : ℕ) → sum_to f (n + 1) ≡ sum_to f n + f n
unfolding sum_to
sum_to_more f n = rw add-one

-- terms that agree below n
pub sum_to_ext : (f g : ℕ → ℕ) (n : ℕ) → ((i : ℕ) → i < n → f i ≡ g i) → sum_to f n ≡ sum_to g n
unfolding sum_to
sum_to_ext f g zero h = refl
sum_to_ext f g (suc n) h = ap₂ ◌+◌ (sum_to_ext f g n (λ i l. h i (le_step l))) (h n (lt-suc_self n))

pub sum_to_mono : (f g : ℕ → ℕ) (n : ℕ) → ((i : ℕ) → i < n → f i ≤ g i) → sum_to f n ≤ sum_to g n
unfolding sum_to
sum_to_mono f g zero h = le_refl 0
sum_to_mono f g (suc n) h = add-le-add (sum_to_mono f g n (λ i l. h i (le_step l))) (h n (lt-suc_self n))

pub sum_to_add : (f g : ℕ → ℕ) (n : ℕ) → sum_to (λ i. f i + g i) n ≡ sum_to f n + sum_to g n
unfolding sum_to
sum_to_add f g zero = refl
sum_to_add f g (suc n) = let ih = sum_to_add f g n in omega arith

pub sum_to_const : (c n : ℕ) → sum_to (λ i. c) n ≡ n * c
unfolding sum_to
sum_to_const c zero = sym (zero-mul c)
sum_to_const c (suc n) = let ih = sum_to_const c n in omega (arith, suc-mul n c)

pub sum_to_scale : (c : ℕ) (f : ℕ → ℕ) (n : ℕ) → sum_to (λ i. c * f i) n ≡ c * sum_to f n
unfolding sum_to
sum_to_scale c f zero = sym (mul-zero c)
sum_to_scale c f (suc n) = let ih = sum_to_scale c f n in omega (arith, mul-add c (sum_to f n) (f n))

-- n terms of at most c each
pub sum_to_bound : (c : ℕ) (f : ℕ → ℕ) (n : ℕ) → ((i : ℕ) → i < n → f i ≤ c) → sum_to f n ≤ n * c
sum_to_bound c f n h = omega (arith, sum_to_mono f (λ i. c) n h, sum_to_const c n)

-- terms that are all 0
pub sum_to_zero : (f : ℕ → ℕ) (n : ℕ) → ((i : ℕ) → i < n → f i ≡ 0) → sum_to f n ≡ 0
sum_to_zero f n h = sum_to_ext f (λ i. 0) n h ∙ sum_to_const 0 n ∙ mul-zero n

-- terms that are all 0 but for one
pub sum_to_one : (f : ℕ → ℕ) (n i : ℕ) → i < n → ((k : ℕ) → k < n → (k ≡ i → ⊥) → f k ≡ 0) → sum_to f n ≡ f i
unfolding sum_to
sum_to_one f zero i h z = absurd (omega arith)
sum_to_one f (suc n) i h z =
    ⊎_elim (λ (e : i ≡ n). omega (arith, ap f e, sum_to_zero f n (λ k l. z k (le_step l) (λ q. omega arith))))
    (λ (l : i < n). omega (arith, sum_to_one f n i l (λ k m. z k (le_step m)), z n (lt-suc_self n) (λ q. omega arith)))
    (eq-or-lt_of_le (le_of_suc-le-suc h))

-- a sum is at least each of its terms
pub sum_to_term : (f : ℕ → ℕ) (n i : ℕ) → i < n → f i ≤ sum_to f n
unfolding sum_to
sum_to_term f zero i h = omega arith
sum_to_term f (suc n) i h =
    ⊎_elim (λ (e : i ≡ n). rw e (le-add_left (f n) (sum_to f n)))
    (λ (l : i < n). le_trans (sum_to_term f n i l) (le-add_right (sum_to f n) (f n)))
    (eq-or-lt_of_le (le_of_suc-le-suc h))

-- the first n terms, then m more
pub sum_to_cut : (f : ℕ → ℕ) (n m : ℕ) → sum_to f (n + m) ≡ sum_to f n + sum_to (λ i. f (n + i)) m
unfolding sum_to
sum_to_cut f n zero = rw (add-zero n, add-zero (sum_to f n))
sum_to_cut f n (suc m) = rw (add-suc n m, sum_to_cut f n m, add_assoc)

-- rows first or columns first
pub sum_to_swap : (f : ℕ → ℕ → ℕ) (n m : ℕ) → sum_to (λ i. sum_to (λ j. f i j) m) n ≡ sum_to (λ j. sum_to (λ i. f i j) n) m
unfolding sum_to
sum_to_swap f zero m = sym (sum_to_const 0 m ∙ mul-zero m)
sum_to_swap f (suc n) m =
    ap (λ s. s + sum_to (f n) m) (sum_to_swap f n m) ∙ sym (sum_to_add (λ j. sum_to (λ i. f i j) n) (f n) m)

-- k groups of m terms each
pub sum_to_group : (f : ℕ → ℕ) (k m : ℕ) → sum_to f (k * m) ≡ sum_to (λ q. sum_to (λ i. f (q * m + i)) m) k
unfolding sum_to
sum_to_group f zero m = rw zero-mul
sum_to_group f (suc k) m =
    rw suc-mul (sum_to_cut f (k * m) m ∙ ap (λ s. s + sum_to (λ i. f (k * m + i)) m) (sum_to_group f k m))

abbrev pub sum_over : ℕ → ℕ → (ℕ → ℕ → ℕ) → ℕ
sum_over n m h = sum_to (λ i. sum_to (λ j. h i j) m) n

pub sum_over_ext : (n m : ℕ) (f g : ℕ → ℕ → ℕ) → ((i j : ℕ) → i < n → j < m → f i j ≡ g i j) → sum_over n m f ≡ sum_over n m g
sum_over_ext n m f g h = sum_to_ext _ _ n (λ i hi. sum_to_ext _ _ m (λ j hj. h i j hi hj))

pub sum_over_mono : (n m : ℕ) (f g : ℕ → ℕ → ℕ) → ((i j : ℕ) → i < n → j < m → f i j ≤ g i j) → sum_over n m f ≤ sum_over n m g
sum_over_mono n m f g h = sum_to_mono _ _ n (λ i hi. sum_to_mono _ _ m (λ j hj. h i j hi hj))

pub sum_over_scale : (c n m : ℕ) (f : ℕ → ℕ → ℕ) → sum_over n m (λ i j. c * f i j) ≡ c * sum_over n m f
sum_over_scale c n m f = sum_to_ext _ _ n (λ i hi. sum_to_scale c (f i) m) ∙ sum_to_scale c (λ i. sum_to (f i) m) n

pub sum_over_bound : (c n m : ℕ) (f : ℕ → ℕ → ℕ) → ((i j : ℕ) → i < n → j < m → f i j ≤ c) → sum_over n m f ≤ n * (m * c)
sum_over_bound c n m f h = sum_to_bound (m * c) _ n (λ i hi. sum_to_bound c (f i) m (λ j hj. h i j hi hj))

-- k m rows and columns, by their k × k squares of m × m
pub sum_over_group : (k m : ℕ) (h : ℕ → ℕ → ℕ)
    → sum_over (k * m) (k * m) h ≡ sum_over k k (λ p q. sum_over m m (λ i j. h (p * m + i) (q * m + j)))
sum_over_group k m h =
    sum_to_group (λ i. sum_to (h i) (k * m)) k m
    ∙ sum_to_ext _ _ k (λ p hp.
    sum_to_ext _ _ m (λ i hi. sum_to_group (h (p * m + i)) k m)
    ∙ sum_to_swap (λ i q. sum_to (λ j. h (p * m + i) (q * m + j)) m) m k)

unfoldable pub sum_each : {A : Type 0} → (A → ℤ) → List A → ℤ
sum_each f [] = pos 0
sum_each f (x ∷ xs) = f x +ℤ sum_each f xs

pub sum_each_none : {A : Type 0} (f : A → ℤ) → sum_each f [] ≡ pos 0
unfolding sum_each
sum_each_none f = refl

pub sum_each_more : {A : Type 0} (f : A → ℤ) (xs : List A) (x : A) → sum_each f (xs ++ (x ∷ [])) ≡ sum_each f xs +ℤ f x
unfolding sum_each
sum_each_more f [] x = +ℤ_idr (f x) ∙ sym (+ℤ_idl (f x))
sum_each_more f (y ∷ ys) x = ap (λ (z : ℤ). f y +ℤ z) (sum_each_more f ys x) ∙ sym (+ℤ_assoc (f y) (sum_each f ys) (f x))
