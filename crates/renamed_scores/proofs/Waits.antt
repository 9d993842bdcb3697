-- What the winning tile completed stays when it and the reading are renamed: waits, the pair's weight, Pinfu, and what is concealed.
-- Assumes nothing.
use mathlib.Core.Path.{◌≡◌, refl, ap, ap₂}
use mathlib.Core.Bool.{Bool, ◌&&◌, ◌||◌, not}
use mathlib.Core.List.{List, [], ◌∷◌}
use Prim.Native.Nat.{ℕ, ◌+◌, ◌<◌}
use lib.Dec.{T, eqb, ltb, ltb→lt}
use Rattle.lists.specs.Fold.{all, one}
use Rattle.lists.proofs.Finite.{and_left, and_right, and_cong}
use Rattle.tile.specs.declared.Renaming.{Renaming}
use Rattle.tile.specs.Renaming.{ren}
use Rattle.tile.proofs.Renamings.{ren_eqb, ren_is_dragon_holds}
use Rattle.meld.specs.declared.Meld.{Meld}
use Rattle.meld.specs.Meld.{is_meld, is_sequence}
use Rattle.meld.specs.Renamed.{ren_meld}
use Rattle.meld.proofs.Renamed.{set_eqb, Moved, all_moved, any_moved, count_moved}
use Rattle.context.specs.declared.GameContext.{GameContext}
use Rattle.context.specs.Context.{in_range, is_tsumo, ren_win}
use Rattle.context.proofs.Renamed.{round_renamed, seat_renamed}
use Rattle.hand.specs.Reading.{Reading, pairs, orphans, standard}
use Rattle.renamed.specs.Renamed.{ren_reading}
use Rattle.renamed.proofs.Records.{is_reading}
use Rattle.wait.specs.Wait.{two_sided, edge, middle, closed_run, closed_triplet, waits, weight, pinfu}
use Rattle.wait.specs.Concealed.{spared, concealed}
use Rattle.wait.proofs.Renamed.{closed_set_holds, ren_within, ren_two_sided_holds, ren_edge, ren_middle, ren_triplet}
use Rattle.renamed_scores.proofs.Moved.{sorted_moved, pairs_any}

-- ---- how often an honor counts: as often as the renamed one in the renamed win
pub ren_weight : (ρ : Renaming) (w : GameContext) → T (in_range w) → (t : ℕ) → t < 34 → weight (ren_win ρ w) (ren ρ t) ≡ weight w t
ren_weight ρ w winds t h = λ i. one (ren_is_dragon_holds ρ t h i) + (one (round_renamed ρ w winds t h i) + one (seat_renamed ρ w winds t h i))

-- ---- what is concealed
module _ (ρ : Renaming) (w : GameContext) (h : w.winning_tile < 34) where
  pub ren_spared : {ms ns : List Meld} → Moved ρ ms ns → spared (ren_win ρ w) ns ≡ spared w ms
  ren_spared mv = any_moved mv _ _ (ren_within ρ w.winning_tile h)

  pub ren_concealed : (kept : Bool) (m : Meld) → T (is_meld m) → concealed (ren_win ρ w) kept (ren_meld ρ m) ≡ concealed w kept m
  ren_concealed kept m v =
      ap (λ (b : Bool). eqb m.kind 4 || b)
      (and_cong (eqb m.kind 2)
      (λ i. ap (λ (b : Bool). is_tsumo w || (not b || kept)) (set_eqb ρ w.winning_tile h m v (closed_set_holds m i))))

-- ---- Pinfu
pub pinfu_renamed :
    (ρ : Renaming) (w : GameContext) → T (in_range w) → w.winning_tile < 34 → (opened : Bool) (r : Reading) → T (is_reading r)
    → pinfu (ren_win ρ w) opened (ren_reading ρ r) ≡ pinfu w opened r
unfolding pinfu
pinfu_renamed ρ w winds h opened (pairs ps) v = refl
pinfu_renamed ρ w winds h opened (orphans p) v = refl
pinfu_renamed ρ w winds h opened (standard p ms) v =
    let mv = sorted_moved ρ ms (and_right (ltb p 34) (all is_meld ms) v) in
    let k : p < 34 = ltb→lt p 34 (and_left (ltb p 34) (all is_meld ms) v) in
    ap (λ (b : Bool). not opened && b)
    (ap₂ ◌&&◌ (all_moved mv is_sequence is_sequence (λ m v. refl))
    (ap₂ ◌&&◌ (ap (λ (n : ℕ). eqb n 0) (ren_weight ρ w winds p k)) (any_moved mv _ _ (ren_two_sided_holds ρ w.winning_tile h))))

-- ---- the tallies of waits
pub waits_renamed : (ρ : Renaming) (t : ℕ) → t < 34 → (r : Reading) → T (is_reading r) → waits (ren ρ t) (ren_reading ρ r) ≡ waits t r
unfolding waits
waits_renamed ρ t h (pairs ps) v =
    ap (λ (b : Bool). 0 ∷ 0 ∷ 0 ∷ 0 ∷ one b ∷ 0 ∷ [])
    (pairs_any ρ ps v (eqb t) (eqb (ren ρ t)) (λ u k. ren_eqb ρ t u h k))
waits_renamed ρ t h (orphans p) v =
    ap (λ (b : Bool). 0 ∷ 0 ∷ 0 ∷ 0 ∷ one (not b) ∷ one b ∷ []) (ren_eqb ρ t p h (ltb→lt p 34 v))
waits_renamed ρ t h (standard p ms) v =
    let mv = sorted_moved ρ ms (and_right (ltb p 34) (all is_meld ms) v) in
    let k : p < 34 = ltb→lt p 34 (and_left (ltb p 34) (all is_meld ms) v) in
    let ryanmen = count_moved mv (closed_run two_sided t) (closed_run two_sided (ren ρ t)) (ren_two_sided_holds ρ t h) in
    let kanchan = count_moved mv (closed_run middle t) (closed_run middle (ren ρ t)) (ren_middle ρ t h) in
    let penchan = count_moved mv (closed_run edge t) (closed_run edge (ren ρ t)) (ren_edge ρ t h) in
    let shanpon = count_moved mv (closed_triplet t) (closed_triplet (ren ρ t)) (ren_triplet ρ t h) in
    λ i. ryanmen i ∷ kanchan i ∷ penchan i ∷ shanpon i ∷ one (ren_eqb ρ t p h k i) ∷ 0 ∷ []
