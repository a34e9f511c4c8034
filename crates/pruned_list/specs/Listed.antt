-- 01, "The four searches", search 2: "find the remaining vector of least distance (equals: preference order)", and "drop each whose distance exceeds
-- E", in an array of keys: the distance, then the preference order, then the spot.
--   keys_of       the keys of some spots, in their order
--   distance_of   the distance that a key holds; spot_of: the spot
--   renewed      the key with another distance
--   nearest_key   the least of the first count of an array of keys
--   swept        the array after n turns: each of the first n was stored behind those before it that stay
--   KeptWithin   those of the first count that are within the limit stand in front in their order, so many there are, and the array is the swept one
-- "Measure the rest and choose as full does":
--   SpotIn          the spot is that of a candidate; SpotsIn: each of the first count of an array of keys has such a spot
--   distortion_to    the distortion of a block's vector, of two lent frames
--   measured_key     the key with a cost for its distance; least_measured: the least of those of the first count of an array of keys
use Rattle.std.specs.Prelude.{ℕ, zero, suc, ◌+◌, ◌*◌, ◌/◌, ◌%◌, ◌<◌, ◌≡◌, List, map, length, get_or, take, drop, set}
use Rattle.base.specs.Least.{least_of}
use Rattle.base.specs.Lists.{list_to}
use Rattle.order.specs.declared.Vector.{Vector}
use Rattle.frame.specs.declared.SearchBlock.{SearchBlock}
use Rattle.frame.specs.Pictures.{pair_of}
use Rattle.distortion.specs.Blocks.{distortion}
use Rattle.reach.specs.Reach.{reach, InReach}
use Rattle.pruned_rule.specs.Sift.{kept}
use Rattle.pruned_rule.specs.Spots.{key_on, vector_on}

abbrev pub keys_of : (Vector → ℕ) → List ℕ → List ℕ
keys_of cost ts = map (key_on cost) ts

abbrev pub distance_of : ℕ → ℕ
distance_of key = key / 262144

abbrev pub spot_of : ℕ → ℕ
spot_of key = key % 4096

abbrev pub renewed : ℕ → ℕ → ℕ
renewed key distance = distance * 262144 + key % 262144

unfoldable pub nearest_key : List ℕ → ℕ → ℕ
nearest_key keys count = least_of (λ key. key) (take count keys)

unfoldable pub swept : ℕ → List ℕ → ℕ → List ℕ
swept limit keys zero = keys
swept limit keys (suc n) = set (swept limit keys n) (length (kept distance_of limit (take n keys))) (get_or keys n 0)

pub record KeptWithin (limit : ℕ) (before : List ℕ) (count : ℕ) (after : List ℕ) (r : ℕ) : Type 0 where
  pub many : r ≡ length (kept distance_of limit (take count before))
  pub front : take r after ≡ kept distance_of limit (take count before)
  pub list : after ≡ swept limit before count
  pub behind : drop (r + 1) after ≡ drop (r + 1) before

abbrev pub SpotIn : SearchBlock → ℕ → Type 0
SpotIn b t = InReach (reach b) (t / 64) (t % 64)

abbrev pub SpotsIn : SearchBlock → List ℕ → ℕ → Type 0
SpotsIn b keys count = (i : ℕ) → i < count → SpotIn b (spot_of (get_or keys i 0))

abbrev pub distortion_to : List ℕ → List ℕ → SearchBlock → Vector → ℕ
distortion_to older newer b v = distortion (pair_of older newer b.setting) b.y b.x v

abbrev pub measured_key : (Vector → ℕ) → ℕ → ℕ
measured_key cost key = renewed key (cost (vector_on (spot_of key)))

abbrev pub least_measured : (Vector → ℕ) → List ℕ → ℕ → ℕ
least_measured cost keys count = least_of (λ k. k) (list_to (λ i. measured_key cost (get_or keys i 0)) count)
