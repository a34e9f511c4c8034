-- How the code tries the neighbours. Offset (src) has an offset's parts with 1 added, Winner (src) the winner's place and its distortion; a half-pel place is
-- kept with 1 added too.
--   offset_of    the offset that such parts are
--   Trying      what a try asks: an older frame and a block in the first rows of an array, of an allowed setting
--   try_at       one neighbour is tried: where it counts it is measured, and only strictly smaller replaces
--   Refining    what refining a search's result asks: the block lies in the newer frame, and the result is a candidate of window 16 with its own distortion
use Rattle.std.specs.Prelude.{ℕ, ◌-◌, ◌*◌, ◌≡◌, cond, ◌&&◌, List, T, ltb, length}
use Rattle.signed.specs.Values.{unbias}
use Rattle.measures.specs.Measures.{measure_of}
use Rattle.order.specs.declared.Vector.{Vector}
use Rattle.order.specs.Vectors.{vec}
use Rattle.frame.specs.declared.Setting.{Setting}
use Rattle.frame.specs.Pictures.{pair_of, Fitting}
use Rattle.refusals.specs.Refusals.{block_size_ok, Placed}
use Rattle.distortion.specs.Blocks.{block_at, distortion_by}
use Rattle.half_pel.specs.HalfPel.{half_inside, half_block}
use Rattle.search.specs.declared.SearchResult.{SearchResult}
use Rattle.block.specs.Block.{OwnResult}
use Rattle.half_search.specs.declared.Offset.{Offset}
use Rattle.half_search.specs.declared.Winner.{Winner}

abbrev pub offset_of : Offset → Vector
offset_of o = vec (unbias 1 o.down) (unbias 1 o.across)

pub record Trying (older block : List ℕ) (s : Setting) : Type 0 where
  pub whole : length older ≡ s.height * s.width
  pub fitting : Fitting s
  pub allowed : T (block_size_ok s.n)
  pub stored : length block ≡ 1024

-- the distortion of a block in the first rows of an array against the older block at half-pel row p, column q, each with 1 added
abbrev pub cost_at : List ℕ → List ℕ → Setting → ℕ → ℕ → ℕ
cost_at older block s p q =
    distortion_by (measure_of s.measure) s.n (block_at block 32 0 0) (half_block older s.width (p - 1) (q - 1))

unfoldable pub try_at : List ℕ → List ℕ → Setting → ℕ → ℕ → ℕ → Winner → Winner
try_at older block s p q k b =
    let d = cost_at older block s p q in
    cond (half_inside (unbias 1 p) s.n s.height && half_inside (unbias 1 q) s.n s.width)
    (cond (ltb d b.least) (record { place = k; least = d }) b) b

pub record Refining (older newer : List ℕ) (s : Setting) (y x : ℕ) (f : SearchResult) : Type 0 where
  pub placed : Placed (length older) (length newer) s y x
  pub own : OwnResult (pair_of older newer s) 16 y x f
