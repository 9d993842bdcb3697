-- The fu of a reading do not depend on the sources of its melds. Assumes nothing.
use mathlib.Core.Path.{◌≡◌, refl, ap, ◌∙◌}
use mathlib.Core.Bool.{Bool, ◌||◌, cond}
use mathlib.Core.List.{List, map}
use Prim.Native.Nat.{ℕ, ◌+◌}
use lib.Dec.{eqb}
use Rattle.lists.specs.Fold.{sum}
use Rattle.meld.specs.declared.Meld.{Meld}
use Rattle.meld.specs.Meld.{but_source}
use Rattle.meld.proofs.Sources.{any_but, sum_but}
use Rattle.context.specs.declared.GameContext.{GameContext}
use Rattle.context.specs.Context.{is_tsumo}
use Rattle.hand.specs.Reading.{Reading, pairs, orphans, standard}
use Rattle.wait.specs.Wait.{closed_run, edge, middle}
use Rattle.wait.specs.Concealed.{spared}
use Rattle.fu.specs.Fu.{meld_fu, pair_fu, wait_fu, base_fu, round_up_to10, at_least30, pinfu_fu, standard_fu, fu}
use Rattle.sources.specs.Sources.{but_sources}
use Rattle.sources.proofs.Waits.{spared_but, pinfu_but}

module _ (w : GameContext) (ms : List Meld) where
  -- those of the melds
  melds_fu_holds : sum (meld_fu w (spared w (map but_source ms))) (map but_source ms) ≡ sum (meld_fu w (spared w ms)) ms
  melds_fu_holds =
      ap (λ (kept : Bool). sum (meld_fu w kept) (map but_source ms)) (spared_but w ms) ∙ sum_but (meld_fu w (spared w ms)) (λ m. refl) ms

  -- those of the wait
  wait_fu_holds : (p : ℕ) → wait_fu w p (map but_source ms) ≡ wait_fu w p ms
  wait_fu_holds p =
      let t = w.winning_tile in
      let penchan = any_but (closed_run edge t) (λ m. refl) ms in
      let kanchan = any_but (closed_run middle t) (λ m. refl) ms in
      λ i. cond (eqb t p || (penchan i || kanchan i)) 2 0

-- of a reading
pub fu_but : (w : GameContext) (opened : Bool) (r : Reading) → fu w opened (but_sources r) ≡ fu w opened r
unfolding fu standard_fu
fu_but w opened (pairs ps) = refl
fu_but w opened (orphans p) = refl
fu_but w opened (standard p ms) =
    let pinfu = pinfu_but w opened (standard p ms) in
    let melds = melds_fu_holds w ms in
    let wait = wait_fu_holds w ms p in
    λ i. cond (pinfu i) (pinfu_fu (is_tsumo w)) (at_least30 opened (round_up_to10 (base_fu w opened + melds i + pair_fu w p + wait i)))
