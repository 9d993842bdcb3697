-- A reading and its renamed one have the same fu. Assumes nothing.
use mathlib.Core.Path.{◌≡◌, refl, ap, ap₂, ◌∙◌}
use mathlib.Core.Bool.{Bool, true, false, ◌&&◌, ◌||◌, cond}
use mathlib.Core.List.{List, map}
use Prim.Native.Nat.{ℕ, ◌+◌, ◌*◌, ◌<◌}
use lib.Dec.{T, ltb, ltb→lt}
use Rattle.lists.specs.Fold.{all, sum}
use Rattle.lists.proofs.Finite.{and_left, and_right}
use Rattle.tile.specs.Tile.{is_terminal_or_honor}
use Rattle.tile.specs.declared.Renaming.{Renaming}
use Rattle.tile.specs.Renaming.{ren}
use Rattle.tile.proofs.Renamings.{ren_eqb, ren_is_terminal_or_honor_holds}
use Rattle.meld.specs.declared.Meld.{Meld}
use Rattle.meld.specs.Meld.{is_kan, is_meld, is_sequence, sorted}
use Rattle.meld.specs.Renamed.{ren_meld}
use Rattle.meld.proofs.Melds.{meld_tile}
use Rattle.meld.proofs.Renamed.{Moved, any_moved, sum_moved, set_tile}
use Rattle.context.specs.declared.GameContext.{GameContext}
use Rattle.context.specs.Context.{in_range, is_tsumo, ren_win}
use Rattle.context.proofs.Renamed.{round_renamed, seat_renamed}
use Rattle.hand.specs.Reading.{Reading, pairs, orphans, standard}
use Rattle.renamed.specs.Renamed.{ren_reading}
use Rattle.renamed.proofs.Records.{is_reading}
use Rattle.wait.specs.Concealed.{spared}
use Rattle.fu.specs.Fu.{meld_fu, double_wind_fu, pair_fu, wait_fu, base_fu, round_up_to10, at_least30, standard_fu, fu}
use Rattle.renamed_scores.proofs.Moved.{sorted_moved}
use Rattle.wait.proofs.Renamed.{ren_edge, ren_middle}
use Rattle.renamed_scores.proofs.Waits.{ren_weight, ren_spared, ren_concealed, pinfu_renamed}

module _ (ρ : Renaming) (w : GameContext) (h : w.winning_tile < 34) where
  -- ---- one meld: a triplet or kan is of terminals or honors where the renamed one is
  set_outer : (m : Meld) → T (is_meld m) → is_sequence m ≡ false → is_terminal_or_honor (ren_meld ρ m).tile ≡ is_terminal_or_honor m.tile
  set_outer m v e = ap is_terminal_or_honor (set_tile ρ m e) ∙ ren_is_terminal_or_honor_holds ρ m.tile (meld_tile m v)

  set_fu_holds : (kept : Bool) (m : Meld) → T (is_meld m) → is_sequence m ≡ false → meld_fu (ren_win ρ w) kept (ren_meld ρ m) ≡ meld_fu w kept m
  set_fu_holds kept m v e =
      λ i. cond (is_sequence m) 0 (cond (set_outer m v e i) 4 2 * (cond (is_kan m) 4 1 * cond (ren_concealed ρ w h kept m v i) 2 1))

  ren_meld_fu_holds : (kept : Bool) (m : Meld) → T (is_meld m) → meld_fu (ren_win ρ w) kept (ren_meld ρ m) ≡ meld_fu w kept m
  ren_meld_fu_holds kept m v = go (is_sequence m) refl
    where
      go : (b : Bool) → is_sequence m ≡ b → meld_fu (ren_win ρ w) kept (ren_meld ρ m) ≡ meld_fu w kept m
      go true e = rw e
      go false e = set_fu_holds kept m v e

  module _ (ms ns : List Meld) (mv : Moved ρ ms ns) where
    melds_fu_holds : sum (meld_fu (ren_win ρ w) (spared (ren_win ρ w) ns)) ns ≡ sum (meld_fu w (spared w ms)) ms
    melds_fu_holds =
        ap (λ (kept : Bool). sum (meld_fu (ren_win ρ w) kept) ns) (ren_spared ρ w h mv)
        ∙ sum_moved mv (meld_fu w (spared w ms)) (meld_fu (ren_win ρ w) (spared w ms)) (ren_meld_fu_holds (spared w ms))

    wait_fu_holds : (p : ℕ) → p < 34 → wait_fu (ren_win ρ w) (ren ρ p) ns ≡ wait_fu w p ms
    wait_fu_holds p k =
        ap (λ (b : Bool). cond b 2 0)
        (ap₂ ◌||◌ (ren_eqb ρ w.winning_tile p h k)
        (ap₂ ◌||◌ (any_moved mv _ _ (ren_edge ρ w.winning_tile h)) (any_moved mv _ _ (ren_middle ρ w.winning_tile h))))

-- ---- the pair, in rooms of equal setting
pair_fu_holds : (ρ : Renaming) (w : GameContext) → T (in_range w) → (p : ℕ) → p < 34 → pair_fu (ren_win ρ w) (ren ρ p) ≡ pair_fu w p
pair_fu_holds ρ w winds p k =
    λ i. cond (round_renamed ρ w winds p k i && seat_renamed ρ w winds p k i) (double_wind_fu w) (2 * ren_weight ρ w winds p k i)

-- ---- a reading
pub fu_renamed :
    (ρ : Renaming) (w : GameContext) → T (in_range w) → w.winning_tile < 34 → (opened : Bool) (r : Reading) → T (is_reading r)
    → fu (ren_win ρ w) opened (ren_reading ρ r) ≡ fu w opened r
unfolding fu standard_fu
fu_renamed ρ w winds h opened (pairs ps) v = refl
fu_renamed ρ w winds h opened (orphans p) v = refl
fu_renamed ρ w winds h opened (standard p ms) v =
    let ns = sorted (map (ren_meld ρ) ms) in
    let mv = sorted_moved ρ ms (and_right (ltb p 34) (all is_meld ms) v) in
    let k : p < 34 = ltb→lt p 34 (and_left (ltb p 34) (all is_meld ms) v) in
    let melds = melds_fu_holds ρ w h ms ns mv in
    let wait = wait_fu_holds ρ w h ms ns mv p k in
    let pair = pair_fu_holds ρ w winds p k in
    λ i. cond (pinfu_renamed ρ w winds h opened (standard p ms) v i) (cond (is_tsumo w) 20 30)
    (at_least30 opened (round_up_to10 (base_fu w opened + melds i + pair i + wait i)))
