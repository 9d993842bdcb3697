-- A reading and its renamed one have the same yakuman and the same han: all tallies are equal but those of the honors, of which
-- each counts one han and the sum stays. Assumes nothing.
use mathlib.Core.Path.{◌≡◌, refl, ap, ap₂, ◌∙◌}
use mathlib.Core.Bool.{Bool, true, false, ◌&&◌, not, cond}
use mathlib.Core.List.{List, [], ◌∷◌, ◌++◌, map}
use Prim.Native.Nat.{ℕ, ◌<◌}
use native.Mathlib.Omega.{arith}
use lib.Dec.{T, eqb, leb}
use lib.ListN.{replicate}
use Rattle.lists.specs.Fold.{any, one, sum}
use Rattle.tile.specs.declared.Renaming.{Renaming}
use Rattle.tile.proofs.Renamings.{ren_eqb}
use Rattle.meld.specs.declared.Meld.{Meld}
use Rattle.context.specs.declared.GameContext.{GameContext}
use Rattle.context.specs.Context.{in_range, is_tsumo, ren_win}
use Rattle.context.proofs.Renamed.{dealer_renamed}
use Rattle.hand.specs.Reading.{Reading}
use Rattle.renamed.specs.Renamed.{ren_reading}
use Rattle.renamed.proofs.Records.{is_reading}
use Rattle.tile_yaku.specs.declared.TileYaku.{TileYaku}
use Rattle.meld_yaku.specs.Standard.{of_standard}
use Rattle.set_yaku.specs.Sets.{toitoi, kans, san_ankou, sanshoku_doukou, suuankou, suu_kantsu}
use Rattle.honor_yaku.specs.Honors.{shousangen, yakuhai_of, daisangen, shousuushii, daisuushii}
use Rattle.sequence_yaku.specs.Sequences.{ittsu, sanshoku_doujun, peikou}
use Rattle.end_yaku.specs.Ends.{chanta, junchan}
use Rattle.yaku.specs.Tally.{riichi, rinshan, one_han, more_han, yakuman, is_yakuman, ordinary, tallies}
use Rattle.yaku.specs.Names.{names}
use Rattle.yaku.specs.Han.{han_of, dot, han}
use Rattle.renamed_scores.proofs.Asked.{Asked, ren_of_standard_holds, ren_is_chiitoitsu_holds, ren_unless_orphans_holds, ren_orphans_won_holds}
use Rattle.renamed_scores.proofs.Waits.{pinfu_renamed}
use Rattle.renamed_scores.proofs.Melds.{ren_toitoi, ren_kans, ren_suu_kantsu_holds, ren_daisangen, ren_daisuushii, ren_ittsu, ren_sanshoku_doujun_holds, ren_sanshoku_doukou_holds, ren_peikou, ren_san_ankou_holds, ren_suuankou, ren_chanta, ren_junchan, ren_shousangen, ren_shousuushii}
use Rattle.renamed_scores.proofs.Yakuhai.{honors, yakuhai_renamed}

-- ---- the tallies of the honors stand after six others, and of them the sum alone matters to F
abbrev pub HonorsApart : (List ℕ → ℕ) → Type 0
HonorsApart F =
    (a b c d e h : ℕ) (f g : ℕ → ℕ) (l : List ℕ) → sum f honors ≡ sum g honors
    → F (a ∷ b ∷ c ∷ d ∷ e ∷ h ∷ (map f honors ++ l)) ≡ F (a ∷ b ∷ c ∷ d ∷ e ∷ h ∷ (map g honors ++ l))

-- each honor counts one han
honors_apart : (opened : Bool) → HonorsApart (dot (han_of opened))
unfolding han_of names
honors_apart true a b c d e h f g l s = omega arith
honors_apart false a b c d e h f g l s = omega arith

-- the tallies between those of the honors and DoubleRiichi: a replacement tile, a robbed kan, the last tile
abbrev luck : GameContext → List ℕ → List ℕ
luck w l =
    one (rinshan w)
    ∷ one (w.is_chankan && not (is_tsumo w))
    ∷ one (w.is_last_tile && (is_tsumo w && not w.is_rinshan))
    ∷ one (w.is_last_tile && not (is_tsumo w))
    ∷ l

module _
    (ρ : Renaming) (w : GameContext) (winds : T (in_range w)) (h : w.winning_tile < 34)
    (opened : Bool) (s : TileYaku) (r : Reading) (v : T (is_reading r))
  where
    -- a question that is the same of the renamed win
    stays : (q : ℕ → List Meld → Bool) → Asked ρ q q → of_standard q (ren_reading ρ r) ≡ of_standard q r
    stays q law = ren_of_standard_holds ρ q q law r v

    -- four concealed triplets or kans, and an answer about the pair
    four_concealed :
        (f : Bool → Bool)
        → of_standard (λ p ms. suuankou (ren_win ρ w) ms && f (eqb (ren_win ρ w).winning_tile p)) (ren_reading ρ r)
        ≡ of_standard (λ p ms. suuankou w ms && f (eqb w.winning_tile p)) r
    four_concealed f =
        ren_of_standard_holds ρ (λ p ms. suuankou w ms && f (eqb w.winning_tile p))
        (λ p ms. suuankou (ren_win ρ w) ms && f (eqb (ren_win ρ w).winning_tile p))
        (λ p k ms ns mv. ap₂ (λ (a b : Bool). a && f b) (ren_suuankou ρ ms ns mv w h) (ren_eqb ρ w.winning_tile p h k))
        r v

    yakuman_stays : yakuman (ren_win ρ w) opened s (ren_reading ρ r) ≡ yakuman w opened s r
    yakuman_stays =
        let dealer = dealer_renamed ρ w in
        let tanki = four_concealed (λ b. b) in
        let suu = four_concealed not in
        let sangen = stays (λ p ms. daisangen ms) (λ p k ms ns mv. ren_daisangen ρ ms ns mv) in
        let small = stays (λ p ms. shousuushii p ms) (λ p k ms ns mv. ren_shousuushii ρ ms ns mv p k) in
        let great = stays (λ p ms. daisuushii ms) (λ p k ms ns mv. ren_daisuushii ρ ms ns mv) in
        let kantsu = stays (λ p ms. suu_kantsu ms) (λ p k ms ns mv. ren_suu_kantsu_holds ρ ms ns mv) in
        let green = stays (λ p ms. s.ryuuiisou) (λ p k ms ns mv. refl) in
        let gates = stays (λ p ms. not opened && (s.nine_gates && not s.pure_wait)) (λ p k ms ns mv. refl) in
        let pure = stays (λ p ms. not opened && (s.nine_gates && s.pure_wait)) (λ p k ms ns mv. refl) in
        λ i.
        (w.is_tenhou && (is_tsumo w && (not opened && dealer i)))
        ∷ (w.is_chiihou && (is_tsumo w && (not opened && not (dealer i))))
        ∷ ren_orphans_won_holds ρ w h false r v i
        ∷ suu i
        ∷ sangen i
        ∷ small i
        ∷ great i
        ∷ ren_unless_orphans_holds ρ s.tsuuiisou r i
        ∷ ren_unless_orphans_holds ρ s.chinroutou r i
        ∷ green i
        ∷ gates i
        ∷ kantsu i
        ∷ ren_orphans_won_holds ρ w h true r v i
        ∷ tanki i
        ∷ pure i
        ∷ []

    pub is_yakuman_renamed_holds : is_yakuman (ren_win ρ w) opened s (ren_reading ρ r) ≡ is_yakuman w opened s r
    unfolding is_yakuman
    is_yakuman_renamed_holds = ap (any (λ b. b)) yakuman_stays

    only_chanta :
        of_standard (λ p ms. chanta p ms && not (junchan p ms)) (ren_reading ρ r) ≡ of_standard (λ p ms. chanta p ms && not (junchan p ms)) r
    only_chanta =
        stays (λ p ms. chanta p ms && not (junchan p ms))
        (λ p k ms ns mv. ap₂ (λ (a b : Bool). a && not b) (ren_chanta ρ ms ns mv p k) (ren_junchan ρ ms ns mv p k))

    three_concealed : of_standard (λ p ms. san_ankou (ren_win ρ w) ms) (ren_reading ρ r) ≡ of_standard (λ p ms. san_ankou w ms) r
    three_concealed =
        ren_of_standard_holds ρ (λ p ms. san_ankou w ms) (λ p ms. san_ankou (ren_win ρ w) ms) (λ p k ms ns mv. ren_san_ankou_holds ρ ms ns mv w h) r v

    -- a closed hand, and an answer about its pairs of identical sequences
    runs_alike :
        (f : ℕ → Bool)
        → of_standard (λ p ms. not opened && f (peikou ms)) (ren_reading ρ r) ≡ of_standard (λ p ms. not opened && f (peikou ms)) r
    runs_alike f =
        stays (λ p ms. not opened && f (peikou ms)) (λ p k ms ns mv. ap (λ (n : ℕ). not opened && f n) (ren_peikou ρ ms ns mv))

    more_han_stays_holds : more_han (ren_win ρ w) opened s (ren_reading ρ r) ≡ more_han w opened s r
    unfolding more_han
    more_han_stays_holds =
        let sets = stays (λ p ms. toitoi ms) (λ p k ms ns mv. ren_toitoi ρ ms ns mv) in
        let doujun = stays (λ p ms. sanshoku_doujun ms) (λ p k ms ns mv. ren_sanshoku_doujun_holds ρ ms ns mv) in
        let doukou = stays (λ p ms. sanshoku_doukou ms) (λ p k ms ns mv. ren_sanshoku_doukou_holds ρ ms ns mv) in
        let straight = stays (λ p ms. ittsu ms) (λ p k ms ns mv. ren_ittsu ρ ms ns mv) in
        let kantsu = stays (λ p ms. eqb (kans ms) 3) (λ p k ms ns mv. ap (λ (n : ℕ). eqb n 3) (ren_kans ρ ms ns mv)) in
        let sangen = stays (λ p ms. shousangen p ms) (λ p k ms ns mv. ren_shousangen ρ ms ns mv p k) in
        let terminal = stays (λ p ms. junchan p ms) (λ p k ms ns mv. ren_junchan ρ ms ns mv p k) in
        λ i.
        one (riichi w opened && w.is_double_riichi)
        ∷ one (sets i)
        ∷ one (doujun i)
        ∷ one (doukou i)
        ∷ one (straight i)
        ∷ one (ren_is_chiitoitsu_holds ρ r i)
        ∷ one (only_chanta i)
        ∷ one (three_concealed i)
        ∷ one (kantsu i)
        ∷ one (ren_unless_orphans_holds ρ s.honroutou r i)
        ∷ one (sangen i)
        ∷ one (ren_unless_orphans_holds ρ s.honitsu r i)
        ∷ one (terminal i)
        ∷ one (runs_alike (leb 2) i)
        ∷ one (ren_unless_orphans_holds ρ s.chinitsu r i)
        ∷ []

    -- a number F of the tallies to which the honors' tallies give their sum alone is the same; the tallies l come after the ordinary ones
    module _ (F : List ℕ → ℕ) (apart : HonorsApart F) where
      ordinary_stays : (l : List ℕ) → F (ordinary (ren_win ρ w) opened s (ren_reading ρ r) ++ l) ≡ F (ordinary w opened s r ++ l)
      unfolding ordinary one_han
      ordinary_stays l =
          let f = yakuhai_of (ren_win ρ w) (ren_reading ρ r) in
          (λ i.
          F
          (one (riichi w opened && not w.is_double_riichi)
          ∷ one (riichi w opened && (w.is_ippatsu && not (rinshan w)))
          ∷ one (is_tsumo w && not opened)
          ∷ one (ren_unless_orphans_holds ρ s.tanyao r i)
          ∷ one (pinfu_renamed ρ w winds h opened r v i)
          ∷ one (runs_alike (λ n. eqb n 1) i)
          ∷ (map f honors ++ luck w (more_han_stays_holds i ++ l))))
          ∙ apart _ _ _ _ _ _ f (yakuhai_of w r) (luck w (more_han w opened s r ++ l)) (yakuhai_renamed ρ w winds r v)

      cond_stays :
          (y : Bool) (l : List ℕ)
          → F (cond y (replicate 32 0) (ordinary (ren_win ρ w) opened s (ren_reading ρ r)) ++ l)
          ≡ F (cond y (replicate 32 0) (ordinary w opened s r) ++ l)
      cond_stays true l = refl
      cond_stays false l = ordinary_stays l

      pub tallies_stay : F (tallies (ren_win ρ w) opened s (ren_reading ρ r)) ≡ F (tallies w opened s r)
      unfolding tallies
      tallies_stay =
          ap₂
          (λ (y : Bool) (bs : List Bool).
          F (cond y (replicate 32 0) (ordinary (ren_win ρ w) opened s (ren_reading ρ r)) ++ map one bs))
          is_yakuman_renamed_holds yakuman_stays
          ∙ cond_stays (is_yakuman w opened s r) (map one (yakuman w opened s r))

    pub han_renamed : han (ren_win ρ w) opened s (ren_reading ρ r) ≡ han w opened s r
    unfolding han
    han_renamed = tallies_stay (dot (han_of opened)) (honors_apart opened)
