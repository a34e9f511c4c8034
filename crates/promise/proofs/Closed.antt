-- The reckoning in one line: the last accepted homing place plus the travels accepted since, with their number as its steps, and the last 64 of them. By
-- induction over the calls from any standing: an accepted homing begins anew, an accepted step adds its travel, and a track that is not homed accepts no step.
use Prim.Native.Nat.{ℕ}
use mathlib.Core.Path.{◌≡◌, refl, sym, ◌∙◌, ap}
use mathlib.Core.Bool.{true, false}
use mathlib.Core.List.{List, [], ◌∷◌, ◌++◌, append_assoc, append-nil, foldl-append}
use native.Mathlib.Omega.{arith}
use lib.IntN.{ℤ, +ℤ_assoc, +ℤ_idr}
use lib.ListN.{length-append}
use Rattle.base.specs.Sum.{sum_each_none, sum_each_more}
use Rattle.base.specs.Calls.{reckon_call, reckoned_is}
use Rattle.order.specs.declared.Vector.{Vector}
use Rattle.frame.specs.Pictures.{Pair}
use Rattle.refusals.specs.Refusals.{first_refusal_zero}
use Rattle.recent.specs.declared.Recent.{Recent}
use Rattle.recent.specs.Recent.{last_held, travels_in, sum_down, sum_across, holding}
use Rattle.recent.proofs.Travels.{holding_none, holding_more, travels_held}
use Rattle.track_rules.specs.Rules.{in_range}
use Rattle.track.specs.declared.Track.{Track}
use Rattle.track.specs.Track.{track_new, homed_at, moved_to}
use Rattle.promise.specs.Demand.{Call, travel, refusal_of, accept, reckon, reckoned, accepted_calls}
use Rattle.promise.specs.Demand.{Standing, stand_on, standing_on, travels_since, track_at, NoHoming}
use Rattle.promise.specs.Demand.Call.{home, step}
use Rattle.promise.specs.Demand.Standing.{nowhere, from}

-- a travel more
travel_more : (y x : ℤ) (vs : List Vector) (v : Vector) → moved_to (track_at (from y x vs)) v ≡ track_at (from y x (vs ++ (v ∷ [])))
unfolding track_at
travel_more y x vs v =
    rw (
      holding_more vs v,
      sum_each_more (λ v. v.dy) vs v,
      sum_each_more (λ v. v.dx) vs v,
      length-append vs (v ∷ []),
      +ℤ_assoc y (sum_down vs) v.dy,
      +ℤ_assoc x (sum_across vs) v.dx,
    )

home_place : (y x : ℤ) → homed_at y x ≡ track_at (from y x [])
unfolding track_at
home_place y x = rw (holding_none, sum_each_none (λ (v : Vector). v.dy), sum_each_none (λ (v : Vector). v.dx), +ℤ_idr y, +ℤ_idr x)

-- a track that is not homed accepts no step
never : (t : Track) (p : Pair) (w threshold : ℕ) (list : List ℤ) (table : List ℕ) → t.homed ≡ false → refusal_of t (step p w threshold list table) ≡ 0 → ⊥
unfolding refusal_of
never t p w threshold list table h e =
    let g = (first_refusal_zero _ _ e).1 in
    omega (arith, rw h at g)

-- an accepted call leads from one standing to the next
leads : (s : Standing) (c : Call) → refusal_of (track_at s) c ≡ 0 → accept (track_at s) c ≡ track_at (stand_on s c)
unfolding accept stand_on track_at
leads s (home y x) e = home_place y x
leads nowhere (step p w threshold list table) e = absurd (never track_new p w threshold list table refl e)
leads (from y x vs) (step p w threshold list table) e = travel_more y x vs (travel p w)

-- from a standing s: the track is that of the standing after the accepted calls
pub closed : (cs : List Call) (s : Standing) → reckoned (track_at s) cs ≡ track_at (standing_on s (accepted_calls (track_at s) cs))
closed = reckoned_is refusal_of accept track_at stand_on leads

-- these travels are held, and the sums are theirs
abbrev pub Held : Recent → List Vector → Type 0
Held r vs = (travels_in r ≡ vs) × (r.down ≡ sum_down vs) × (r.across ≡ sum_across vs)

holding_held : (vs : List Vector) → Held (holding vs) vs
unfolding holding
holding_held vs = (travels_held vs, refl, refl)

pub standing_held : (s : Standing) → Held (track_at s).recent (last_held (travels_since s))
unfolding track_at
standing_held nowhere = rw holding_none (holding_held [])
standing_held (from y x vs) = holding_held (last_held vs)

-- no homing: nowhere stays nowhere
pub stays_nowhere : (cs : List Call) → NoHoming cs → standing_on nowhere cs ≡ nowhere
unfolding NoHoming stand_on
stays_nowhere [] h = refl
stays_nowhere (home y x ∷ cs) h = absurd h
stays_nowhere (step p w threshold list table ∷ cs) h = stays_nowhere cs h

-- the travels of the steps among calls, in order
unfoldable pub travels_of : List Call → List Vector
travels_of [] = []
travels_of (home y x ∷ cs) = travels_of cs
travels_of (step p w threshold list table ∷ cs) = travel p w ∷ travels_of cs

-- no homing: the travels pile up
piles : (cs : List Call) (y x : ℤ) (vs : List Vector) → NoHoming cs → standing_on (from y x vs) cs ≡ from y x (vs ++ travels_of cs)
unfolding NoHoming stand_on travels_of
piles [] y x vs h = rw append-nil
piles (home a b ∷ cs) y x vs h = absurd h
piles (step p w threshold list table ∷ cs) y x vs h =
    piles cs y x (vs ++ (travel p w ∷ [])) h ∙ ap (from y x) (append_assoc vs (travel p w ∷ []) (travels_of cs))

home_takes : (t : Track) (y x : ℤ) → in_range y ≡ true → in_range x ≡ true → reckon t (home y x) ≡ homed_at y x
unfolding reckon_call refusal_of accept
home_takes t y x a b = rw (a, b)

-- In the customer's words: after the last accepted homing at (y0, x0) with accepted travels t1 .. tn since, the track is homed, at
-- (y0 + the sum of dy, x0 + the sum of dx), with steps n.
pub reckoned_since : (t : Track) (before after : List Call) (y0 x0 : ℤ) → in_range y0 ≡ true → in_range x0 ≡ true
    → NoHoming (accepted_calls (homed_at y0 x0) after)
    → let ts = travels_of (accepted_calls (homed_at y0 x0) after) in
    reckoned t (before ++ (home y0 x0 ∷ after)) ≡ track_at (from y0 x0 ts)
reckoned_since t before after y0 x0 a b h =
    foldl-append reckon t before (home y0 x0 ∷ after)
    ∙ ap (λ (u : Track). reckoned u after) (home_takes (reckoned t before) y0 x0 a b ∙ home_place y0 x0)
    ∙ closed after (from y0 x0 [])
    ∙ ap (λ (u : Track). track_at (standing_on (from y0 x0 []) (accepted_calls u after))) (sym (home_place y0 x0))
    ∙ ap track_at (piles (accepted_calls (homed_at y0 x0) after) y0 x0 [] h)
