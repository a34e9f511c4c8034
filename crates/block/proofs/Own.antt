-- Whichever search a request asks for: the vector it answers with is a candidate, and the distortion is that vector's own.
use Prim.Native.Nat.{ℕ, zero, suc, ◌+◌, ◌≤◌}
use mathlib.Core.Path.{◌≡◌, refl}
use mathlib.Core.List.{List}
use native.Mathlib.Omega.{arith}
use lib.Dec.{eqb→eq}
use lib.ListN.{length}
use Rattle.frame.specs.Pictures.{Pair, pair_of}
use Rattle.frame.specs.Candidates.{candidate_yes}
use Rattle.refusals.specs.declared.Request.{Request}
use Rattle.refusals.specs.Refusals.{setting_of, Requested, window_ok, window_small}
use Rattle.search.specs.Target.{target}
use Rattle.search.proofs.Exhaustive.{best_is}
use Rattle.probe.specs.Probe.{Seen, OwnDistortion}
use Rattle.probe.specs.BestSoFar.{result_of}
use Rattle.four_step.proofs.FourStep.{four_step_own_distortion_at}
use Rattle.cross.proofs.Cross.{cross_own_distortion_at}
use Rattle.full.specs.Full.{full_search}
use Rattle.pruned.proofs.Blocks.{block_size_power}
use Rattle.pruned.proofs.Laws.{pruned_distortion, pruned-best}
use Rattle.block.specs.Block.{OwnResult, search_by, searched_full, searched_pruned, searched_four_step, searched_cross}

module _ (older newer : List ℕ) (q : Request) (request : Requested (length older) (length newer) q) (y x : ℕ)
    (down : y + q.n ≤ q.height) (across : x + q.n ≤ q.width) where
  abbrev p : Pair
  p = pair_of older newer (setting_of q)

  small : q.w ≤ 16
  small = window_small q.search q.w request.window

  full_own : OwnResult p q.w y x (full_search p q.w y x)
  unfolding full_search
  full_own = record { chosen = (best_is p q.w y x small down across).candidate; reported = refl }

  -- searches 3 and 4
  probed_own : (s : Seen) → OwnDistortion (target p q.w y x) s → OwnResult p q.w y x (result_of s)
  unfolding result_of
  probed_own s h = record { chosen = candidate_yes (setting_of q) q.w y x s.best h.chosen; reported = h.reported }

  four_step_own : q.search ≡ 3 → OwnResult p q.w y x (search_by p q y x)
  unfolding window_ok
  four_step_own e =
      let seven : q.w ≡ 7 = eqb→eq q.w 7 (rw e at request.window) in
      rw (searched_four_step p q y x e) (probed_own _ (rw (← seven) at (four_step_own_distortion_at p y x down across)))

  pub searched_own : OwnResult p q.w y x (search_by p q y x)
  searched_own = go q.search refl request.least request.most
    where
      go : (n : ℕ) → q.search ≡ n → 1 ≤ n → n ≤ 4 → OwnResult p q.w y x (search_by p q y x)
      go zero e a b = absurd (omega arith)
      go (suc zero) e a b = rw (searched_full p q y x e) full_own
      go (suc (suc zero)) e a b =
          rw (searched_pruned p q y x e)
          (record {
            chosen = (pruned-best p q.w y x (block_size_power q.n request.paired.allowed) small down across).candidate;
            reported = pruned_distortion p q.w y x;
          })
      go (suc (suc (suc zero))) e a b = four_step_own e
      go (suc (suc (suc (suc zero)))) e a b = rw (searched_cross p q y x e) (probed_own _ (cross_own_distortion_at p q.t q.w y x down across))
      go (suc (suc (suc (suc (suc n))))) e a b = absurd (omega arith)
