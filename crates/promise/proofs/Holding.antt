-- No call of a list leads to a track that 32 refuses for the travels it holds: a travel lies in window 16, homing empties them, and a refused call changes
-- nothing.
use mathlib.Core.Path.{◌≡◌, refl}
use mathlib.Core.List.{List, [], ◌∷◌}
use native.Mathlib.Decide.{ℕ_discrete}
use lib.Dec.{T}
use lib.ListN.{length}
use Rattle.base.specs.Calls.{reckon_yes, reckon_no}
use Rattle.recent.specs.Recent.{most_held, no_travels, recent_ok, recent_more}
use Rattle.recent.proofs.Held.{whole_yes}
use Rattle.recent.proofs.Travels.{none_ok, more_ok, more_long}
use Rattle.track.specs.declared.Track.{Track}
use Rattle.track.specs.Track.{track_new}
use Rattle.promise.specs.Demand.{Call, travel, refusal_of, accept, reckon, reckoned}
use Rattle.promise.specs.Demand.Call.{home, step}
use Rattle.promise.proofs.One.{travel_within}

-- 64 places for each part, and none of the three faults
pub record Holds (t : Track) : Type 0 where
  pub down : length t.recent.dy ≡ most_held
  pub across : length t.recent.dx ≡ most_held
  pub ok : T (recent_ok t.recent)

pub new_holds : Holds track_new
unfolding no_travels
new_holds = record { down = refl; across = refl; ok = none_ok }

accept_holds : (t : Track) (c : Call) → Holds t → Holds (accept t c)
unfolding accept no_travels recent_more
accept_holds t (home y x) h = record { down = refl; across = refl; ok = none_ok }
accept_holds t (step p w threshold list table) h =
    let few = (whole_yes t.recent h.ok).few in
    record {
      down = more_long _ _ _ h.down few;
      across = more_long _ _ _ h.across few;
      ok = more_ok t.recent (travel p w) h.down h.across h.ok (travel_within p w);
    }

reckon_holds : (t : Track) (c : Call) → Holds t → Holds (reckon t c)
reckon_holds t c h = go (ℕ_discrete (refusal_of t c) 0)
  where
    go : Dec (refusal_of t c ≡ 0) → Holds (reckon t c)
    go (yes e) = rw (reckon_yes refusal_of accept t c e) (accept_holds t c h)
    go (no n) = rw (reckon_no refusal_of accept t c n) h

pub reckoned_holds : (cs : List Call) (t : Track) → Holds t → Holds (reckoned t cs)
reckoned_holds [] t h = h
reckoned_holds (c ∷ cs) t h = reckoned_holds cs (reckon t c) (reckon_holds t c h)
