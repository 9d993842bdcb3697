-- Yakuhai of a renamed win: the tallies of the honors change places with them, so their sum stays. Assumes nothing.
use mathlib.Core.Path.{◌≡◌, refl, ap₂}
use mathlib.Core.List.{List, [], ◌∷◌, map}
use Prim.Native.Nat.{ℕ, ◌*◌, ◌<◌}
use lib.Dec.{T, eqb, ltb, ltb→lt}
use Rattle.lists.specs.Fold.{all, sum}
use Rattle.lists.proofs.Finite.{and_right}
use Rattle.lists.proofs.Permuted.{is_perm, is_perm_perm_holds, Shuffled, sum_over}
use Rattle.tile.specs.declared.Renaming.{Renaming}
use Rattle.tile.specs.Renaming.{ren}
use Rattle.tile.proofs.Renamings.{honors_test}
use Rattle.meld.specs.declared.Meld.{Meld}
use Rattle.meld.specs.Meld.{is_meld, sorted}
use Rattle.meld.specs.Renamed.{ren_meld}
use Rattle.meld.proofs.Renamed.{Moved, count_moved}
use Rattle.context.specs.declared.GameContext.{GameContext}
use Rattle.context.specs.Context.{in_range, ren_win}
use Rattle.hand.specs.Reading.{Reading, pairs, orphans, standard}
use Rattle.renamed.specs.Renamed.{ren_reading}
use Rattle.renamed.proofs.Records.{is_reading}
use Rattle.meld_yaku.specs.Melds.{set_of}
use Rattle.honor_yaku.specs.Honors.{yakuhai, yakuhai_of}
use Rattle.renamed_scores.proofs.Moved.{sorted_moved}
use Rattle.renamed_scores.proofs.Waits.{ren_weight}
use Rattle.meld_yaku.proofs.Renamed.{ren_set_of_holds}

-- the seven honors, and them in another order
abbrev pub honors : List ℕ
honors = 27 ∷ 28 ∷ 29 ∷ 30 ∷ 31 ∷ 32 ∷ 33 ∷ []

honors_over : (ρ : Renaming) → Shuffled (ren ρ) (λ t. ltb t 34) honors
honors_over ρ = record { each = tt; same = is_perm_perm_holds _ _ (honors_test (λ ρ. is_perm (map (ren ρ) honors) honors) ρ tt) }

module _ (ρ : Renaming) (w : GameContext) (winds : T (in_range w)) where
  pub ren_yakuhai :
      (ms ns : List Meld) → Moved ρ ms ns → (t : ℕ) → t < 34 → yakuhai (ren_win ρ w) ns (ren ρ t) ≡ yakuhai w ms t
  unfolding yakuhai
  ren_yakuhai ms ns mv t h =
      ap₂ ◌*◌ (count_moved mv (set_of (eqb t)) (set_of (eqb (ren ρ t))) (ren_set_of_holds ρ t h)) (ren_weight ρ w winds t h)

  pub yakuhai_renamed :
      (r : Reading) → T (is_reading r) → sum (yakuhai_of (ren_win ρ w) (ren_reading ρ r)) honors ≡ sum (yakuhai_of w r) honors
  yakuhai_renamed (pairs ps) v = refl
  yakuhai_renamed (orphans p) v = refl
  yakuhai_renamed (standard p ms) v =
      let ns = sorted (map (ren_meld ρ) ms) in
      let mv = sorted_moved ρ ms (and_right (ltb p 34) (all is_meld ms) v) in
      sum_over (honors_over ρ) (yakuhai w ms) (yakuhai (ren_win ρ w) ns) (λ t h. ren_yakuhai ms ns mv t (ltb→lt t 34 h))
