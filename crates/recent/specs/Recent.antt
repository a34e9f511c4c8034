-- 02, request 7: "The track holds the last 64 travels, oldest first, and the sum of each part as stored numbers, kept true by step and homing alike. Homing
-- empties them, all places and sums 0. The sixty-fifth pushes out the oldest." "Step also refuses by 32 a track that holds more than 64, a held part outside
-- -16..16 or a false sum."
--   most_held     64; last_held: the last 64 of a list
--   no_travels    nothing held: all places and sums 0
--   recent_ok     no more than 64 held, no held part outside -16..16, no false sum; parts_ok: of one part, dy or dx
--   recent_more   with one travel more; places_more: the places of one part; sum_held: its sum
--   travels_in    the travels held, oldest first
--   holding      a list of at most 64 travels, as a track holds it; sum_down, sum_across: the sums of its parts
use Rattle.std.specs.Prelude.{ℕ, ◌+◌, ◌-◌, min, Bool, ◌&&◌, List, [], ◌∷◌, ◌++◌, map, leb, ℤ, pos, nat_abs, length, get_or, take, drop, replicate}
use Rattle.base.specs.Tests.{all_below}
use Rattle.base.specs.Sum.{sum_each}
use Rattle.base.specs.Lists.{list_to}
use Rattle.signed.specs.Int.{eq_z}
use Rattle.order.specs.declared.Vector.{Vector}
use Rattle.order.specs.Vectors.{vec}
use Rattle.recent.specs.declared.Recent.{Recent}

abbrev pub most_held : ℕ
most_held = 64

-- "the last 64"
abbrev pub last_held : {A : Type 0} → List A → List A
last_held l = drop (length l - most_held) l

-- "Homing empties them, all places and sums 0."
unfoldable pub no_travels : Recent
no_travels = record { held = 0; dy = replicate most_held (pos 0); dx = replicate most_held (pos 0); down = pos 0; across = pos 0 }

-- ---- one part, dy or dx: 64 places, of which the first `held` are held, oldest first

unfoldable pub sum_held : List ℤ → ℕ → ℤ
sum_held places held = sum_each (λ z. z) (take held places)

-- no "held part outside -16..16", and no "false sum"
unfoldable pub parts_ok : List ℤ → ℕ → ℤ → Bool
parts_ok places held sum = all_below (λ k. leb (nat_abs (get_or places k (pos 0))) 16) held && eq_z sum (sum_held places held)

-- one more: the last 64 of the held ones and this one; the places behind are kept. "The sixty-fifth pushes out the oldest."
unfoldable pub places_more : List ℤ → ℕ → ℤ → List ℤ
places_more places held z = last_held (take held places ++ (z ∷ [])) ++ drop (held + 1) places

-- ---- the travels

-- none of the three faults: "a track that holds more than 64, a held part outside -16..16 or a false sum"
unfoldable pub recent_ok : Recent → Bool
recent_ok r = leb r.held most_held && (parts_ok r.dy r.held r.down && parts_ok r.dx r.held r.across)

abbrev pub held_more : ℕ → ℕ
held_more held = min (held + 1) most_held

-- one more: "the last 64 travels, oldest first, and the sum of each part"
unfoldable pub recent_more : Recent → Vector → Recent
recent_more r v =
    let held = held_more r.held in
    let dy = places_more r.dy r.held v.dy in
    let dx = places_more r.dx r.held v.dx in
    record { held = held; dy = dy; dx = dx; down = sum_held dy held; across = sum_held dx held }

-- travel k is (dy k, dx k), for each k below the number held
abbrev pub travels_in : Recent → List Vector
travels_in r = list_to (λ k. vec (get_or r.dy k (pos 0)) (get_or r.dx k (pos 0))) r.held

-- ---- a list of at most 64 travels, as a track holds it that was empty before: zeros in the other places

abbrev pub sum_down : List Vector → ℤ
sum_down = sum_each (λ v. v.dy)

abbrev pub sum_across : List Vector → ℤ
sum_across = sum_each (λ v. v.dx)

unfoldable pub places_of : (Vector → ℤ) → List Vector → List ℤ
places_of part vs = map part vs ++ replicate (most_held - length vs) (pos 0)

unfoldable pub holding : List Vector → Recent
holding vs = record { held = length vs; dy = places_of (λ v. v.dy) vs; dx = places_of (λ v. v.dx) vs; down = sum_down vs; across = sum_across vs }
