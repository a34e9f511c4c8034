-- A block that is ready to be searched: N is a power of two, and at a resolution that divides N no test drops the winner.
use Prim.Native.Nat.{ℕ, ◌∣◌, ◌<◌}
use mathlib.Core.Path.{ap}
use native.Mathlib.Omega.{arith}
use lib.Dec.{T}
use lib.ListN.{length}
use Rattle.order.specs.Preference.{preferred}
use Rattle.frame.specs.Pictures.{Pair, last_count}
use Rattle.refusals.specs.Refusals.{block_size_ok, block_size}
use Rattle.distortion.specs.Blocks.{measure_in, distortion, newer_block, older_block}
use Rattle.pruned_rule.specs.Prune.{resolutions}
use Rattle.pruned_rule.proofs.Blocks.{measure_lawful}
use Rattle.pruned_rule.proofs.Pruned.{Safe}
use Rattle.pruned_rule.proofs.Search.{PowerOfTwo, resolutions_many, safe}
use Rattle.pruned.specs.Answer.{place_distortion, place_distance}

-- the N that are allowed are powers of two
pub block_size_power : (n : ℕ) → T (block_size_ok n) → PowerOfTwo n
block_size_power n t = let s = block_size n t in (s.doublings, s.power)

-- with so few resolutions after N that each has its count
pub few_rounds : (n : ℕ) → T (block_size_ok n) → length (resolutions n) < last_count
few_rounds n t =
    let s = block_size n t in
    omega (arith, ap (λ k. length (resolutions k)) s.power, resolutions_many s.doublings, s.few)

pub safe_at : (p : Pair) (y x m : ℕ) → m ∣ p.setting.n → Safe (place_distortion p y x) (place_distance p y x) (measure_in p).limit m
unfolding distortion
safe_at p y x m h = safe (measure_in p) (measure_lawful p.setting.measure) p.setting.n (newer_block p y x) (λ k. older_block p y x (preferred k)) m h
