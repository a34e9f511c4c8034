-- What probing does to the best, and how patterns move: each law holds of one point, and so of a list of points.
use Prim.Native.Nat.{ℕ, suc, ◌+◌, ◌≤◌}
use mathlib.Core.Path.{◌≡◌, refl, sym, ap, ap₂, subst, ◌∙◌}
use mathlib.Core.Bool.{Bool, true, false, cond, ◌&&◌}
use mathlib.Core.List.{List, [], ◌∷◌}
use native.Mathlib.Omega.{arith}
use borrow.Author.Tests.{eq-eqb}
use lib.Dec.{T, ltb, eqb, eqb→eq}
use lib.IntN.{ℤ, nat_abs, ◌+ℤ◌, +ℤ_assoc, +ℤ_idr}
use lib.ListN.{length}
use Rattle.base.specs.Tests.{and_left, and_right, le_both, true_T, iff_test}
use Rattle.signed.specs.Int.{eq_z, eq_z_is, up, dn, sum, added}
use Rattle.order.specs.declared.Vector.{Vector}
use Rattle.order.specs.Vectors.{vec, Within, same?, in_window}
use Rattle.frame.specs.Pictures.{Pair}
use Rattle.frame.specs.Candidates.{candidate_yes, candidate_wider}
use Rattle.distortion.specs.Blocks.{distortion}
use Rattle.search.specs.Target.{Target, target}
use Rattle.search.specs.Exhaustive.{Best}
use Rattle.probe.specs.Probe.{origin, plus, Seen, seen, count_point, probe_point, probe, at_origin, around, is_in, fresh, OwnDistortion, Alike}
use Rattle.base.specs.Lists.{Each, none, more}

-- ---- the best is a candidate with its own distortion

probe_point_own_distortion : (t : Target) (s : Seen) (v : Vector) → OwnDistortion t s → OwnDistortion t (probe_point t s v)
unfolding probe_point count_point
probe_point_own_distortion t s v h = go (t.candidate v) refl (ltb (t.cost v) s.least)
  where
    go : (c : Bool) → t.candidate v ≡ c → (l : Bool)
        → OwnDistortion t (cond c (cond l (seen v (t.cost v) (s.count + 1)) (seen s.best s.least (s.count + 1))) s)
    go true e true = record { chosen = subst T (sym e) tt; reported = refl }
    go true e false = record { chosen = h.chosen; reported = h.reported }
    go false e l = h

pub probe_own_distortion : (t : Target) (s : Seen) (vs : List Vector) → OwnDistortion t s → OwnDistortion t (probe t s vs)
unfolding probe
probe_own_distortion t s [] h = h
probe_own_distortion t s (v ∷ vs) h = probe_own_distortion t (probe_point t s v) vs (probe_point_own_distortion t s v h)

pub at_origin_own_distortion : (t : Target) → T (t.candidate origin) → OwnDistortion t (at_origin t)
unfolding at_origin
at_origin_own_distortion t c = record { chosen = c; reported = refl }

-- no search that reports the distortion of its own vector reports less than the exhaustive best of the same block, in a window that is no smaller
pub never_lower : (p : Pair) (u w y x : ℕ) (v : Vector) (s : Seen) → u ≤ w → Best p w y x v → OwnDistortion (target p u y x) s → distortion p y x v ≤ s.least
never_lower p u w y x v s l b h =
    rw h.reported
    (b.least s.best (candidate_yes p.setting w y x s.best (candidate_wider p.setting u y x s.best w l h.chosen)))

-- ---- no more is measured than there are points, and all where all are candidates

probe_point_count : (t : Target) (s : Seen) (v : Vector) → (probe_point t s v).count ≤ s.count + 1
unfolding probe_point count_point
probe_point_count t s v = go (t.candidate v) (ltb (t.cost v) s.least)
  where
    go : (c l : Bool)
        → (cond c (cond l (seen v (t.cost v) (s.count + 1)) (seen s.best s.least (s.count + 1))) s).count ≤ s.count + 1
    go true true = omega arith
    go true false = omega arith
    go false l = omega arith

pub probe_count : (t : Target) (s : Seen) (vs : List Vector) → (probe t s vs).count ≤ s.count + length vs
unfolding probe
probe_count t s [] = omega arith
probe_count t s (v ∷ vs) = omega (arith, probe_count t (probe_point t s v) vs, probe_point_count t s v)

probe_point_all : (t : Target) (s : Seen) (v : Vector) → T (t.candidate v) → (probe_point t s v).count ≡ s.count + 1
unfolding probe_point count_point
probe_point_all t s v = go (t.candidate v) (ltb (t.cost v) s.least)
  where
    go : (c l : Bool) → T c
        → (cond c (cond l (seen v (t.cost v) (s.count + 1)) (seen s.best s.least (s.count + 1))) s).count ≡ s.count + 1
    go true true u = refl
    go true false u = refl
    go false l u = absurd u

pub probe_all : (t : Target) (s : Seen) (vs : List Vector) → Each (λ v. T (t.candidate v)) vs → (probe t s vs).count ≡ s.count + length vs
unfolding probe
probe_all t s [] none = omega arith
probe_all t s (v ∷ vs) (more h e) = omega (arith, probe_all t (probe_point t s v) vs e, probe_point_all t s v h)

-- ---- what holds of the best before and of each point holds of the best after

probe_point_best : (P : Vector → Type 0) (t : Target) (s : Seen) (v : Vector) → P s.best → P v → P (probe_point t s v).best
unfolding probe_point count_point
probe_point_best P t s v p q = go (t.candidate v) (ltb (t.cost v) s.least)
  where
    go : (c l : Bool) → P (cond c (cond l (seen v (t.cost v) (s.count + 1)) (seen s.best s.least (s.count + 1))) s).best
    go true true = q
    go true false = p
    go false l = p

pub probe_best : (P : Vector → Type 0) (t : Target) (s : Seen) (vs : List Vector) → P s.best → Each P vs → P (probe t s vs).best
unfolding probe
probe_best P t s [] p none = p
probe_best P t s (v ∷ vs) p (more q e) = probe_best P t (probe_point t s v) vs (probe_point_best P t s v p q) e

-- ---- of each of a list

pub each_map : (P Q : Vector → Type 0) (vs : List Vector) → ((v : Vector) → P v → Q v) → Each P vs → Each Q vs
each_map P Q [] f none = none
each_map P Q (v ∷ vs) f (more h e) = more (f v h) (each_map P Q vs f e)

pub each_fresh : (P : Vector → Type 0) (before vs : List Vector) → Each P vs → Each P (fresh before vs)
unfolding fresh
each_fresh P before [] none = none
each_fresh P before (v ∷ vs) (more q e) = go (is_in v before) (each_fresh P before vs e)
  where
    go : (t : Bool) → Each P (fresh before vs) → Each P (cond t (fresh before vs) (v ∷ fresh before vs))
    go true f = f
    go false f = more q f

pub each_around : (P Q : Vector → Type 0) (c : Vector) (os : List Vector) → ((o : Vector) → Q o → P (plus c o)) → Each Q os → Each P (around c os)
unfolding around
each_around P Q c [] f none = none
each_around P Q c (o ∷ os) f (more q e) = more (f o q) (each_around P Q c os f e)

-- by a test over the list, computed once
unfoldable pub all? : (Vector → Bool) → List Vector → Bool
all? f [] = true
all? f (v ∷ vs) = f v && all? f vs

pub all_each : (f : Vector → Bool) (P : Vector → Type 0) → ((v : Vector) → T (f v) → P v) → (vs : List Vector) → T (all? f vs) → Each P vs
unfolding all?
all_each f P g [] t = none
all_each f P g (v ∷ vs) t = more (g v (and_left (f v) (all? f vs) t)) (all_each f P g vs (and_right (f v) (all? f vs) t))

pub all-within : (w : ℕ) (vs : List Vector) → T (all? (in_window w) vs) → Each (Within w) vs
all-within w =
    all_each (in_window w) (Within w)
    (λ v t. let b = le_both (nat_abs v.dy) w (nat_abs v.dx) w t in record { down = b.0; across = b.1 })

-- ---- a pattern and a pattern before it, moved together

pub eqb_same : (a b c d : ℕ) → (a ≡ b → c ≡ d) → (c ≡ d → a ≡ b) → eqb a b ≡ eqb c d
eqb_same a b c d f g = iff_test (eqb a b) (eqb c d) (λ t. true_T _ (eq-eqb c d (f (eqb→eq a b t)))) (λ t. true_T _ (eq-eqb a b (g (eqb→eq c d t))))

eq_z_moved : (c a b : ℤ) → eq_z (c +ℤ a) (c +ℤ b) ≡ eq_z a b
eq_z_moved c a b =
    eq_z_is (c +ℤ a) (c +ℤ b)
    ∙ eqb_same (up (c +ℤ a) + dn (c +ℤ b)) (up (c +ℤ b) + dn (c +ℤ a)) (up a + dn b) (up b + dn a)
    (λ e. omega (arith, sum c a, sum c b)) (λ e. omega (arith, sum c a, sum c b))
    ∙ sym (eq_z_is a b)

pub same_moved : (c v u : Vector) → same? (plus c v) (plus c u) ≡ same? v u
same_moved c v u = rw (eq_z_moved c.dy v.dy u.dy, eq_z_moved c.dx v.dx u.dx)

is_in_moved : (c v : Vector) (us : List Vector) → is_in (plus c v) (around c us) ≡ is_in v us
unfolding is_in around
is_in_moved c v [] = refl
is_in_moved c v (u ∷ us) = rw (same_moved c v u, is_in_moved c v us)

around_cond : (c : Vector) (t : Bool) (v : Vector) (us vs : List Vector) → us ≡ around c vs → cond t us (plus c v ∷ us) ≡ around c (cond t vs (v ∷ vs))
unfolding around
around_cond c true v us vs e = e
around_cond c false v us vs e = ap (◌∷◌ (plus c v)) e

pub fresh_moved : (c : Vector) (before vs : List Vector) → fresh (around c before) (around c vs) ≡ around c (fresh before vs)
unfolding fresh around
fresh_moved c before [] = refl
fresh_moved c before (v ∷ vs) = rw (is_in_moved c v before) (around_cond c (is_in v before) v _ _ (fresh_moved c before vs))

pub fresh_none : (vs : List Vector) → fresh [] vs ≡ vs
unfolding fresh is_in
fresh_none [] = refl
fresh_none (v ∷ vs) = ap (◌∷◌ v) (fresh_none vs)

pub length_around : (c : Vector) (vs : List Vector) → length (around c vs) ≡ length vs
unfolding around
length_around c [] = refl
length_around c (v ∷ vs) = ap suc (length_around c vs)

plus_assoc : (c o q : Vector) → plus (plus c o) q ≡ plus c (plus o q)
plus_assoc c o q = ap₂ vec (+ℤ_assoc c.dy o.dy q.dy) (+ℤ_assoc c.dx o.dx q.dx)

pub around_plus : (c o : Vector) (vs : List Vector) → around (plus c o) vs ≡ around c (around o vs)
unfolding around
around_plus c o [] = refl
around_plus c o (v ∷ vs) = ap₂ ◌∷◌ (plus_assoc c o v) (around_plus c o vs)

pub plus_origin : (c : Vector) → plus c origin ≡ c
plus_origin c = ap₂ vec (+ℤ_idr c.dy) (+ℤ_idr c.dx)

-- ---- windows: what lies outside is not tried

pub within_more : {m n : ℕ} {v : Vector} → m ≤ n → Within m v → Within n v
within_more l h = record { down = omega arith; across = omega arith }

pub each_more : (m n : ℕ) (vs : List Vector) → m ≤ n → Each (Within m) vs → Each (Within n) vs
each_more m n vs l = each_map (Within m) (Within n) vs (λ v h. within_more l h)

pub around_within : (r p : ℕ) (c : Vector) (os : List Vector) → Within r c → Each (Within p) os → Each (Within (r + p)) (around c os)
around_within r p c os h =
    each_around (Within (r + p)) (Within p) c os
    (λ o k. record { down = omega (arith, added c.dy o.dy); across = omega (arith, added c.dx o.dx) })

probe_point_alike : (n : ℕ) (t u : Target) (s : Seen) (v : Vector) → Alike n t u → Within n v → probe_point t s v ≡ probe_point u s v
unfolding probe_point
probe_point_alike n t u s v a h = rw (a.candidate v h, a.cost v h)

pub probe_alike : (n : ℕ) (t u : Target) (s : Seen) (vs : List Vector) → Alike n t u → Each (Within n) vs → probe t s vs ≡ probe u s vs
unfolding probe
probe_alike n t u s [] a none = refl
probe_alike n t u s (v ∷ vs) a (more h e) = rw (probe_point_alike n t u s v a h) (probe_alike n t u (probe_point u s v) vs a e)

pub at_origin_within : (t : Target) → Within 0 (at_origin t).best
unfolding at_origin
at_origin_within t = record { down = omega arith; across = omega arith }

pub at_origin_alike : (n : ℕ) (t u : Target) → Alike n t u → at_origin t ≡ at_origin u
unfolding at_origin
at_origin_alike n t u a = rw (a.cost origin (record { down = omega arith; across = omega arith }))
