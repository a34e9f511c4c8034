-- The refusals 1 to 7 and 51: each rule as a test, and each call's tests as one chain. 01, "What the input can be turned away for": "Checked in this order,
-- as far as a call has the input." Each rule's own words stand at its test.
--   side_ok 1 · frame_ok 2 · block_ok 3 · search_ok 4 · window_ok 5 · threshold_ok 6 · place_ok 7   what each number asks for; measure_ok 51: measures/specs/Measures.antt
--   pair_refusal     1 2 3: what every call with a pair tests first
--   request_refusal  1 2 3 4 51 5 6: a pair and a search. 02, request 1: 51 is "tested after 4", and where a call has no search number after 3
-- A chain is 0 where the call is accepted; `paired` and `requested` say all that follows. The frames come in by their lengths.
use Rattle.std.specs.Prelude.{ℕ, zero, suc, ◌+◌, ◌*◌, ◌^◌, ◌≤◌, ◌<◌, ◌≡◌, refl, Bool, true, false, cond, ◌&&◌, ◌||◌, T, leb, eqb}
use Rattle.std.proofs.Common.{⊎_elim, le_trans, arith, leb→le, eqb→eq, lit≤}
use Rattle.std.specs.Int.Count.{count_trailing_zeros}
use Rattle.base.specs.Tests.{and_left, and_right, or_cases, le_both, true_T, eqb_subst}
use Rattle.measures.specs.Measures.{measure_ok}
use Rattle.frame.specs.declared.Setting.{Setting}
use Rattle.refusals.specs.declared.Request.{Request}
use Rattle.frame.specs.Pictures.{setting, largest_n, largest_distortion, last_count, Fitting}
use Rattle.refusals.specs.Cross.{cross_window, log2, cross}

-- the number where the test fails, else the rest of the chain
abbrev pub unless : Bool → ℕ → ℕ → ℕ
unless true n rest = rest
unless false n rest = n

-- a chain, and where it is 0 the rest of the chain
unfoldable pub first_refusal : ℕ → ℕ → ℕ
first_refusal zero rest = rest
first_refusal (suc n) rest = suc n

-- ---- the rules

-- 1 width or height outside its range: "Width and height are 4 to 1,024"
abbrev pub side_ok : ℕ → Bool
side_ok a = leb 4 a && leb a 1024

-- 2 a frame of another length: "the lent slice has exactly width × height bytes"
abbrev pub frame_ok : Setting → ℕ → Bool
frame_ok s pels = eqb pels (s.height * s.width)

-- 3 N not allowed or too big: "Block size N is 4, 8 or 16, at most width and height"; 02, request 4: "N may be 32"
unfoldable pub block_size_ok : ℕ → Bool
block_size_ok n = eqb n 4 || (eqb n 8 || (eqb n 16 || eqb n 32))

abbrev pub block_ok : Setting → Bool
block_ok s = block_size_ok s.n && (leb s.n s.width && leb s.n s.height)

-- 4 search not 1 to 4
abbrev pub search_ok : ℕ → Bool
search_ok search = leb 1 search && leb search 4

-- 5 w not allowed for the search: full and pruned 0 to 16, four-step exactly 7, cross 2, 4, 8 or 16
unfoldable pub window_ok : ℕ → ℕ → Bool
window_ok search w = cond (leb search 2) (leb w 16) (cond (eqb search 3) (eqb w 7) (cross_window w))

-- 6 T over 261,120, by squares over 66,585,600 (02, request 4), or not 0 with search 1, 2 or 3
unfoldable pub threshold_ok : ℕ → ℕ → ℕ → Bool
threshold_ok search measure t = cond (eqb search 4) (leb t (largest_distortion measure)) (eqb t 0)

-- 7 single block: not wholly inside the newer frame
abbrev pub place_ok : Setting → ℕ → ℕ → Bool
place_ok s y x = leb (y + s.n) s.height && leb (x + s.n) s.width

-- ---- the chains

unfoldable pub pair_refusal : ℕ → ℕ → Setting → ℕ
pair_refusal older newer s =
    unless (side_ok s.width && side_ok s.height) 1
    (unless (frame_ok s older && frame_ok s newer) 2
    (unless (block_ok s) 3 0))

abbrev pub setting_of : Request → Setting
setting_of q = setting q.width q.height q.n q.measure

-- and a request at this setting
abbrev pub request_of : Setting → (search w t : ℕ) → Request
request_of s search w t = record { width = s.width; height = s.height; n = s.n; search = search; w = w; t = t; measure = s.measure }

unfoldable pub request_refusal : ℕ → ℕ → Request → ℕ
request_refusal older newer q =
    first_refusal (pair_refusal older newer (setting_of q))
    (unless (search_ok q.search) 4
    (unless (measure_ok q.measure) 51
    (unless (window_ok q.search q.w) 5
    (unless (threshold_ok q.search q.measure q.t) 6 0))))

-- ---- what an accepted call may go by

pub unless_zero : (b : Bool) (k rest : ℕ) → unless b (suc k) rest ≡ 0 → T b × (rest ≡ 0)
unless_zero true k rest e = (tt, e)
unless_zero false k rest e = absurd (omega arith)

pub first_refusal_some : (n rest : ℕ) → (n ≡ 0 → ⊥) → first_refusal n rest ≡ n
unfolding first_refusal
first_refusal_some zero rest h = absurd (h refl)
first_refusal_some (suc n) rest h = refl

pub first_refusal_none : (n rest : ℕ) → n ≡ 0 → first_refusal n rest ≡ rest
unfolding first_refusal
first_refusal_none zero rest e = refl
first_refusal_none (suc n) rest e = absurd (omega arith)

pub first_refusal_zero : (n rest : ℕ) → first_refusal n rest ≡ 0 → (n ≡ 0) × (rest ≡ 0)
unfolding first_refusal
first_refusal_zero zero rest e = (refl, e)
first_refusal_zero (suc n) rest e = absurd (omega arith)

pub side_high : (a : ℕ) → T (side_ok a) → a ≤ 1024
side_high a t = (le_both 4 a a 1024 t).1

-- what holds of 4, 8, 16 and 32 holds of each allowed N
pub block_size_elim : (P : ℕ → Type 0) → P 4 → P 8 → P 16 → P 32 → (n : ℕ) → T (block_size_ok n) → P n
unfolding block_size_ok
block_size_elim P p4 p8 p16 p32 n t =
    ⊎_elim (eqb_subst P n 4 p4)
    (λ u.
    ⊎_elim (eqb_subst P n 8 p8)
    (λ v. ⊎_elim (eqb_subst P n 16 p16) (eqb_subst P n 32 p32) (or_cases (eqb n 16) (eqb n 32) v))
    (or_cases (eqb n 8) (eqb n 16 || eqb n 32) u))
    (or_cases (eqb n 4) (eqb n 8 || (eqb n 16 || eqb n 32)) t)

-- an allowed N, whichever: from 4 to the largest, and 2 doubled so many times that search 2 has no more resolutions than counts
pub record BlockSize (n : ℕ) : Type 0 where
  pub least : 4 ≤ n
  pub most : n ≤ largest_n
  pub doublings : ℕ
  pub power : n ≡ 2 ^ suc doublings
  pub log : log2 n ≡ suc doublings
  pub few : doublings < last_count

pub block_size : (n : ℕ) → T (block_size_ok n) → BlockSize n
unfolding count_trailing_zeros
block_size =
    block_size_elim BlockSize
    (record { least = lit≤ tt; most = lit≤ tt; doublings = 1; power = refl; log = refl; few = lit≤ tt })
    (record { least = lit≤ tt; most = lit≤ tt; doublings = 2; power = refl; log = refl; few = lit≤ tt })
    (record { least = lit≤ tt; most = lit≤ tt; doublings = 3; power = refl; log = refl; few = lit≤ tt })
    (record { least = lit≤ tt; most = lit≤ tt; doublings = 4; power = refl; log = refl; few = lit≤ tt })

-- 1 2 3: a setting at which a block fits, N as block_size_ok, both frames whole
pub record Paired (older newer : ℕ) (s : Setting) : Type 0 where
  pub fitting : Fitting s
  pub allowed : T (block_size_ok s.n)
  pub older_whole : older ≡ s.height * s.width
  pub newer_whole : newer ≡ s.height * s.width

-- 1 2 3 7: also, the block lies in the newer frame
pub record Placed (older newer : ℕ) (s : Setting) (y x : ℕ) : Type 0 where
  pub paired : Paired older newer s
  pub down : y + s.n ≤ s.height
  pub across : x + s.n ≤ s.width

-- 1 2 3 4 51 5 6: also, a search with a measure, a window and a threshold that it takes
pub record Requested (older newer : ℕ) (q : Request) : Type 0 where
  pub paired : Paired older newer (setting_of q)
  pub least : 1 ≤ q.search
  pub most : q.search ≤ 4
  pub measure : T (measure_ok q.measure)
  pub window : T (window_ok q.search q.w)
  pub threshold : T (threshold_ok q.search q.measure q.t)

pub fitting : (s : Setting) → T (side_ok s.width && side_ok s.height) → T (block_ok s) → Fitting s
fitting s t u =
    let w = and_left (side_ok s.width) (side_ok s.height) t in
    let h = and_right (side_ok s.width) (side_ok s.height) t in
    let l = and_left (block_size_ok s.n) (leb s.n s.width && leb s.n s.height) u in
    let b = le_both _ _ _ _ (and_right (block_size_ok s.n) (leb s.n s.width && leb s.n s.height) u) in
    record {
      some = le_trans (lit≤ tt) (block_size s.n l).least;
      across = b.0;
      down = b.1;
      wide = side_high s.width w;
      high = side_high s.height h;
    }

pub paired : (older newer : ℕ) (s : Setting) → pair_refusal older newer s ≡ 0 → Paired older newer s
unfolding pair_refusal
paired older newer s e =
    let a = unless_zero (side_ok s.width && side_ok s.height) 0 _ e in
    let b = unless_zero (frame_ok s older && frame_ok s newer) 1 _ a.1 in
    let c = unless_zero (block_ok s) 2 0 b.1 in
    record {
      fitting = fitting s a.0 c.0;
      allowed = and_left (block_size_ok s.n) (leb s.n s.width && leb s.n s.height) c.0;
      older_whole = eqb→eq older (s.height * s.width) (and_left (frame_ok s older) (frame_ok s newer) b.0);
      newer_whole = eqb→eq newer (s.height * s.width) (and_right (frame_ok s older) (frame_ok s newer) b.0);
    }

pub placed : (older newer : ℕ) (s : Setting) (y x : ℕ) → pair_refusal older newer s ≡ 0 → place_ok s y x ≡ true → Placed older newer s y x
placed older newer s y x e t =
    let b = le_both (y + s.n) s.height (x + s.n) s.width (true_T (place_ok s y x) t) in
    record { paired = paired older newer s e; down = b.0; across = b.1 }

pub requested : (older newer : ℕ) (q : Request) → request_refusal older newer q ≡ 0 → Requested older newer q
unfolding request_refusal
requested older newer q e =
    let a = first_refusal_zero (pair_refusal older newer (setting_of q)) _ e in
    let b = unless_zero (search_ok q.search) 3 _ a.1 in
    let m = unless_zero (measure_ok q.measure) 50 _ b.1 in
    let c = unless_zero (window_ok q.search q.w) 4 _ m.1 in
    let d = unless_zero (threshold_ok q.search q.measure q.t) 5 0 c.1 in
    let r = le_both 1 q.search q.search 4 b.0 in
    record { paired = paired older newer (setting_of q) a.0; least = r.0; most = r.1; measure = m.0; window = c.0; threshold = d.0 }

-- no search takes a window over 16
pub window_small : (search w : ℕ) → T (window_ok search w) → w ≤ 16
unfolding window_ok
window_small search w t = go (leb search 2) (eqb search 3) t
  where
    go : (a b : Bool) → T (cond a (leb w 16) (cond b (eqb w 7) (cross_window w))) → w ≤ 16
    go true b t = leb→le w 16 t
    go false true t = omega (arith, eqb→eq w 7 t)
    go false false t = (cross w t).high
