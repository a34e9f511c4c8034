-- Search 2's dropped and finally measured candidates as sets of vectors: left and dropped have each candidate once, so a count over both is a count over
-- the candidates.
use Prim.Native.Nat.{ℕ, zero, suc, ◌+◌, ◌≤◌, ◌<◌}
use mathlib.Core.Path.{◌≡◌, refl, sym, ap, ap₂, subst, ◌∙◌}
use mathlib.Core.Logic.{⊎_elim}
use mathlib.Core.Bool.{Bool, true, false, cond, not, ◌&&◌, ◌||◌}
use mathlib.Core.List.Memᴰ
use mathlib.Core.List.{List, [], ◌∷◌}
use native.Mathlib.Nat.{add-zero}
use native.Mathlib.Omega.{arith}
use lib.Dec.{T}
use lib.ListN.{length}
use Rattle.base.specs.Tests.{one, or_true, T_true, true_T, and_right, or_cases}
use Rattle.base.specs.Sum.{sum_to, sum_to_ext}
use Rattle.base.specs.Least.{◌∈◌}
use Rattle.base.specs.Picks.{pick, picked, pick_length}
use Rattle.order.specs.declared.Vector.{Vector}
use Rattle.order.specs.Vectors.{same?, same_yes, same_self, vector_count}
use Rattle.order.specs.Preference.{preferred}
use Rattle.order.proofs.Order.{once}
use Rattle.frame.specs.Pictures.{Pair}
use Rattle.frame.specs.Candidates.{candidate}
use Rattle.refusals.specs.Refusals.{block_size_ok}
use Rattle.distortion.specs.Blocks.{distortion}
use Rattle.search.specs.SearchResult.{probes}
use Rattle.probe.specs.Probe.{is_in}
use Rattle.pruned_rule.specs.Sift.{total}
use Rattle.pruned_rule.proofs.Parts.{total_append}
use Rattle.pruned.specs.Answer.{pruning, pruned_search}
use Rattle.pruned.proofs.Blocks.{block_size_power}
use Rattle.pruned.proofs.Laws.{pruned_counted, pruned_probes, pruned_holds, pruned_drops}
use Rattle.promise.specs.Demand.{how_many, vectors_at, is_dropped, is_measured}

-- ---- vectors, and the vectors at places of the table

mem_in : {k : ℕ} (ks : List ℕ) → k ∈ ks → is_in (preferred k) (vectors_at ks) ≡ true
unfolding is_in vectors_at
mem_in [] m = absurd (Memᴰ.not-nil m)
mem_in {k} (j ∷ js) m =
    ⊎_elim
    (λ (e : k ≡ j).
    let s = ap (λ (i : ℕ). same? (preferred k) (preferred i)) (sym e) ∙ same_self (preferred k) in
    ap (λ (b : Bool). b || is_in (preferred k) (vectors_at js)) s)
    (λ i.
    ap (λ (b : Bool). same? (preferred k) (preferred j) || b) (mem_in {k = k} js i) ∙ or_true (same? (preferred k) (preferred j)))
    (Memᴰ.cases_cons m)

in_mem : (v : Vector) (ks : List ℕ) → T (is_in v (vectors_at ks)) → (k : ℕ) × (k ∈ ks) × (preferred k ≡ v)
unfolding is_in vectors_at
in_mem v [] t = absurd t
in_mem v (j ∷ js) t =
    ⊎_elim
    (λ s. (j, Memᴰ.head refl, sym (same_yes v (preferred j) (T_true _ s))))
    (λ s. let r = in_mem v js s in (r.0, Memᴰ.tail r.1, r.2))
    (or_cases (same? v (preferred j)) (is_in v (vectors_at js)) t)

-- ---- sums over places of the table

last_pick : (g : ℕ → ℕ) (n : ℕ) (b : Bool) → total g (cond b (n ∷ []) []) ≡ cond b (g n) 0
unfolding total
last_pick g n true = add-zero (g n)
last_pick g n false = refl

total_pick : (g : ℕ → ℕ) (q : ℕ → Bool) (n : ℕ) → total g (pick q n) ≡ sum_to (λ k. cond (q k) (g k) 0) n
unfolding pick sum_to total
total_pick g q zero = refl
total_pick g q (suc n) = total_append g (pick q n) (cond (q n) (n ∷ []) []) ∙ ap₂ ◌+◌ (total_pick g q n) (last_pick g n (q n))

both_one : (a b : Bool) → cond a (one b) 0 ≡ one (a && b)
both_one true b = refl
both_one false b = refl

-- a count over those picked
total_many : (q b : ℕ → Bool) (n : ℕ) → total (λ k. one (b k)) (pick q n) ≡ length (pick (λ k. q k && b k) n)
total_many q b n =
    total_pick (λ k. one (b k)) q n ∙ sum_to_ext _ _ n (λ k h. both_one (q k) (b k)) ∙ sym (pick_length (λ k. q k && b k) n)

total_all : (b : ℕ → Bool) (ks : List ℕ) → ((k : ℕ) → k ∈ ks → b k ≡ true) → total (λ k. one (b k)) ks ≡ length ks
unfolding total
total_all b [] h = refl
total_all b (k ∷ ks) h = rw (h k (Memᴰ.head refl), total_all b ks (λ j m. h j (Memᴰ.tail m))) (omega arith)

total_no : (b : ℕ → Bool) (ks : List ℕ) → ((k : ℕ) → k ∈ ks → b k ≡ false) → total (λ k. one (b k)) ks ≡ 0
unfolding total
total_no b [] h = refl
total_no b (k ∷ ks) h = ap₂ ◌+◌ (ap one (h k (Memᴰ.head refl))) (total_no b ks (λ j m. h j (Memᴰ.tail m)))

-- ---- a block that stands wholly inside

module _ (p : Pair) (w y x : ℕ) (allowed : T (block_size_ok p.setting.n)) (small : w ≤ 16)
    (down : y + p.setting.n ≤ p.setting.height) (across : x + p.setting.n ≤ p.setting.width)
  where
    abbrev passes : ℕ → Bool
    passes k = candidate p.setting w y x (preferred k)

    abbrev gone : List ℕ
    gone = (pruning p w y x).dropped

    abbrev is_gone : ℕ → Bool
    is_gone k = is_in (preferred k) (vectors_at gone)

    -- none that is left stands among the dropped: no vector stands at two places
    left_stays : (k : ℕ) → k ∈ (pruning p w y x).left → is_gone k ≡ false
    left_stays k m = go (is_gone k) refl
      where
        go : (b : Bool) → is_gone k ≡ b → b ≡ false
        go false e = refl
        go true e =
            let h = pruned_holds p w y x (block_size_power p.setting.n allowed) small down across in
            let r = in_mem (preferred k) gone (true_T (is_gone k) e) in
            let same_place : r.0 ≡ k = once r.0 k (picked passes vector_count (h.dropped_from r.1)).0 (picked passes vector_count (h.left_from m)).0
            r.2 in
            absurd (h.apart m (subst (λ (j : ℕ). j ∈ gone) same_place r.1))

    counted : (b : ℕ → Bool) → total (λ k. one (b k)) (pruning p w y x).left + total (λ k. one (b k)) gone ≡ length (pick (λ k. passes k && b k) vector_count)
    counted b = (pruned_counted p w y x).parts (λ k. one (b k)) ∙ total_many passes b vector_count

    pub dropped_many : (pruned_search p w y x).dropped ≡ how_many (is_dropped p w y x)
    unfolding pruned_search
    dropped_many =
        omega (
          arith,
          counted is_gone,
          total_no is_gone (pruning p w y x).left left_stays,
          total_all is_gone gone (λ k m. mem_in gone m),
        )

    pub measured_many : probes (pruned_search p w y x) ≡ how_many (is_measured p w y x)
    measured_many =
        omega (
          arith,
          pruned_probes p w y x allowed,
          counted (λ k. not (is_gone k)),
          total_all (λ k. not (is_gone k)) (pruning p w y x).left (λ k m. ap not (left_stays k m)),
          total_no (λ k. not (is_gone k)) gone (λ k m. ap not (mem_in gone m)),
        )

    -- every dropped one has strictly more
    pub dropped_worse : (v : Vector) → T (is_dropped p w y x v) → (pruned_search p w y x).distortion < distortion p y x v
    dropped_worse v t =
        let r = in_mem v gone (and_right (candidate p.setting w y x v) (is_in v (vectors_at gone)) t) in
        subst (λ (u : Vector). (pruned_search p w y x).distortion < distortion p y x u) r.2
        (pruned_drops p w y x (block_size_power p.setting.n allowed) small down across r.1)
