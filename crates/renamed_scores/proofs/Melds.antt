-- The yaku of the pair and the melds stay when the reading and the winning tile are renamed. Assumes nothing.
use mathlib.Core.Path.{◌≡◌, refl, ap, ap₂, ◌∙◌}
use mathlib.Core.Bool.{Bool, false, ◌&&◌, not}
use mathlib.Core.List.{List}
use Prim.Native.Nat.{ℕ, ◌<◌}
use lib.Dec.{T, eqb, ltb, ltb→lt}
use Rattle.lists.specs.Fold.{any, count}
use Rattle.lists.proofs.Permuted.{sum_over, lines_over}
use Rattle.tile.specs.Tile.{is_dragon, is_start, is_wind}
use Rattle.tile.specs.declared.Renaming.{Renaming}
use Rattle.tile.specs.Renaming.{ren}
use Rattle.tile.proofs.Renamings.{ren_is_dragon_holds, ren_is_terminal_holds, ren_is_terminal_or_honor_holds, ren_is_wind_holds}
use Rattle.meld.specs.declared.Meld.{Meld}
use Rattle.meld.specs.Meld.{is_kan, is_sequence, is_triplet_or_kan}
use Rattle.meld.proofs.Renamed.{Moved, all_moved, any_moved, count_moved}
use Rattle.context.specs.declared.GameContext.{GameContext}
use Rattle.context.specs.Context.{ren_win}
use Rattle.wait.specs.Concealed.{concealed, spared}
use Rattle.meld_yaku.specs.Melds.{run_from, set_of}
use Rattle.meld_yaku.proofs.Renamed.{ren_set_of_holds}
use Rattle.set_yaku.specs.Sets.{toitoi, kans, san_ankou, set_lines, sanshoku_doukou, suuankou, suu_kantsu}
use Rattle.set_yaku.proofs.Renamed.{set_lines_same_holds}
use Rattle.honor_yaku.specs.Honors.{dragons, winds, shousangen, daisangen, shousuushii, daisuushii}
use Rattle.honor_yaku.proofs.Renamed.{dragon_set, wind_set}
use Rattle.sequence_yaku.specs.Sequences.{straights, ittsu, run_lines, sanshoku_doujun, pairs_among, peikou}
use Rattle.sequence_yaku.proofs.Renamed.{ren_start, ren_run_from_holds, starts_over, straights_same, run_lines_same_holds}
use Rattle.end_yaku.specs.Ends.{chanta, junchan}
use Rattle.end_yaku.proofs.Renamed.{outer_meld, terminal_meld}
use Rattle.renamed_scores.proofs.Waits.{ren_spared, ren_concealed}

-- ---- the melds ns are the melds ms, renamed, in any order
module _ (ρ : Renaming) (ms ns : List Meld) (mv : Moved ρ ms ns) where
  pub ren_toitoi : toitoi ns ≡ toitoi ms
  unfolding toitoi
  ren_toitoi = all_moved mv is_triplet_or_kan is_triplet_or_kan (λ m v. refl)

  pub ren_kans : kans ns ≡ kans ms
  unfolding kans
  ren_kans = count_moved mv is_kan is_kan (λ m v. refl)

  pub ren_suu_kantsu_holds : suu_kantsu ns ≡ suu_kantsu ms
  unfolding suu_kantsu
  ren_suu_kantsu_holds = ap (λ (n : ℕ). eqb n 4) ren_kans

  ren_dragons : dragons ns ≡ dragons ms
  unfolding dragons
  ren_dragons = count_moved mv (set_of is_dragon) (set_of is_dragon) (dragon_set ρ)

  ren_winds : winds ns ≡ winds ms
  unfolding winds
  ren_winds = count_moved mv (set_of is_wind) (set_of is_wind) (wind_set ρ)

  pub ren_daisangen : daisangen ns ≡ daisangen ms
  unfolding daisangen
  ren_daisangen = ap (λ (n : ℕ). eqb n 3) ren_dragons

  pub ren_daisuushii : daisuushii ns ≡ daisuushii ms
  unfolding daisuushii
  ren_daisuushii = ap (λ (n : ℕ). eqb n 4) ren_winds

  -- ---- sequences
  run_moved : (t : ℕ) → T (is_start t) → any (run_from (ren_start ρ t)) ns ≡ any (run_from t) ms
  run_moved t s = any_moved mv _ _ (ren_run_from_holds ρ t s)

  pub ren_ittsu : ittsu ns ≡ ittsu ms
  unfolding ittsu
  ren_ittsu =
      lines_over (ren_start ρ) is_start (λ t. any (run_from t) ms) (λ t. any (run_from t) ns) run_moved straights tt (straights_same ρ)

  pub ren_sanshoku_doujun_holds : sanshoku_doujun ns ≡ sanshoku_doujun ms
  unfolding sanshoku_doujun
  ren_sanshoku_doujun_holds =
      lines_over (ren_start ρ) is_start (λ t. any (run_from t) ms) (λ t. any (run_from t) ns) run_moved run_lines tt (run_lines_same_holds ρ)

  pub ren_sanshoku_doukou_holds : sanshoku_doukou ns ≡ sanshoku_doukou ms
  unfolding sanshoku_doukou
  ren_sanshoku_doukou_holds =
      lines_over (ren ρ) (λ t. ltb t 34) (λ t. any (set_of (eqb t)) ms) (λ t. any (set_of (eqb t)) ns)
      (λ t h. any_moved mv _ _ (ren_set_of_holds ρ t (ltb→lt t 34 h))) set_lines tt (set_lines_same_holds ρ)

  pub ren_peikou : peikou ns ≡ peikou ms
  unfolding peikou
  ren_peikou =
      sum_over (starts_over ρ) (λ t. pairs_among (count (run_from t) ms)) (λ t. pairs_among (count (run_from t) ns))
      (λ t s. ap pairs_among (count_moved mv (run_from t) (run_from (ren_start ρ t)) (ren_run_from_holds ρ t s)))

  -- ---- concealed triplets and kans
  module _ (w : GameContext) (h : w.winning_tile < 34) where
    pub ren_san_ankou_holds : san_ankou (ren_win ρ w) ns ≡ san_ankou w ms
    unfolding san_ankou
    ren_san_ankou_holds =
        ap (λ (n : ℕ). eqb n 3)
        (ap (λ (kept : Bool). count (concealed (ren_win ρ w) kept) ns) (ren_spared ρ w h mv)
        ∙ count_moved mv (concealed w (spared w ms)) (concealed (ren_win ρ w) (spared w ms)) (ren_concealed ρ w h (spared w ms)))

    pub ren_suuankou : suuankou (ren_win ρ w) ns ≡ suuankou w ms
    unfolding suuankou
    ren_suuankou =
        ap (λ (n : ℕ). eqb n 4) (count_moved mv (concealed w false) (concealed (ren_win ρ w) false) (ren_concealed ρ w h false))

  -- ---- with the pair
  module _ (p : ℕ) (h : p < 34) where
    pub ren_chanta : chanta (ren ρ p) ns ≡ chanta p ms
    unfolding chanta
    ren_chanta =
        ap₂ ◌&&◌ (ren_is_terminal_or_honor_holds ρ p h)
        (ap₂ ◌&&◌ (any_moved mv is_sequence is_sequence (λ m v. refl)) (all_moved mv _ _ (outer_meld ρ)))

    pub ren_junchan : junchan (ren ρ p) ns ≡ junchan p ms
    unfolding junchan
    ren_junchan =
        ap₂ ◌&&◌ (ren_is_terminal_holds ρ p h)
        (ap₂ ◌&&◌ (any_moved mv is_sequence is_sequence (λ m v. refl)) (all_moved mv _ _ (terminal_meld ρ)))

    pub ren_shousangen : shousangen (ren ρ p) ns ≡ shousangen p ms
    unfolding shousangen
    ren_shousangen = ap₂ (λ (b : Bool) (n : ℕ). b && eqb n 2) (ren_is_dragon_holds ρ p h) ren_dragons

    pub ren_shousuushii : shousuushii (ren ρ p) ns ≡ shousuushii p ms
    unfolding shousuushii
    ren_shousuushii =
        ap₂ (λ (n : ℕ) (b : Bool). eqb n 3 && b) ren_winds
        (ap₂ (λ (a b : Bool). a && not b) (ren_is_wind_holds ρ p) (any_moved mv _ _ (ren_set_of_holds ρ p h)))
