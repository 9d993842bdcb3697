-- The tallies of a reading: how often each yaku counts, 0 or 1, for the Yakuhai of a wind that is round and seat wind 2. One for each entry of
-- Yaku in its order, Yakuhai apart for each honor, the local ones left out, 47 in all. w is the win, `opened` whether something was called
-- from another player, s the answers to the yaku that depend on the tiles alone (tile_yaku), r the reading.
-- These are definitions.
use Rattle.std.specs.Prelude.{Bool, true, false, ◌&&◌, ◌||◌, not, cond, List, [], ◌∷◌, ◌++◌, map, ℕ, suc, eqb, leb, replicate}
use Rattle.lists.specs.Fold.{any, one}
use Rattle.meld.specs.declared.Meld.{Meld}
use Rattle.context.specs.declared.GameContext.{GameContext}
use Rattle.context.specs.Context.{is_dealer, is_tsumo}
use Rattle.hand.specs.Reading.{Reading, pairs, orphans, standard}
use Rattle.wait.specs.Wait.{pinfu}
use Rattle.tile_yaku.specs.declared.TileYaku.{TileYaku}
use Rattle.meld_yaku.specs.Standard.{of_standard}
use Rattle.set_yaku.specs.Sets.{toitoi, kans, san_ankou, sanshoku_doukou, suuankou, suu_kantsu}
use Rattle.honor_yaku.specs.Honors.{yakuhai, shousangen, yakuhai_of, daisangen, shousuushii, daisuushii}
use Rattle.sequence_yaku.specs.Sequences.{ittsu, sanshoku_doujun, peikou}
use Rattle.end_yaku.specs.Ends.{chanta, junchan}

abbrev pub is_chiitoitsu : Reading → Bool
is_chiitoitsu (pairs ps) = true
is_chiitoitsu (orphans p) = false
is_chiitoitsu (standard p ms) = false

-- a question of the tiles, asked of standard readings and of seven pairs
abbrev pub unless_orphans : Bool → Reading → Bool
unless_orphans q (pairs ps) = q
unless_orphans q (orphans p) = false
unless_orphans q (standard p ms) = q

-- thirteen orphans, won on the doubled tile (`doubled` yes) or on another one (`doubled` no)
abbrev pub orphans_won : GameContext → Bool → Reading → Bool
orphans_won w doubled (pairs ps) = false
orphans_won w doubled (orphans p) = cond doubled (eqb w.winning_tile p) (not (eqb w.winning_tile p))
orphans_won w doubled (standard p ms) = false

-- ---- the win: riichi, double riichi and ippatsu need the riichi flag and a closed hand; a replacement tile breaks ippatsu and is never the
-- last of the wall
abbrev pub riichi : GameContext → Bool → Bool
riichi w opened = w.is_riichi && not opened

abbrev pub rinshan : GameContext → Bool
rinshan w = w.is_rinshan && is_tsumo w

-- ---- in this order: Riichi, Ippatsu, MenzenTsumo, Tanyao, Pinfu, Iipeikou, Yakuhai of East, South, West, North, White, Green and Red,
-- RinshanKaihou, Chankan, HaiteiRaoyue, HouteiRaoyui
unfoldable pub one_han : GameContext → Bool → TileYaku → Reading → List ℕ
one_han w opened s r =
    one (riichi w opened && not w.is_double_riichi)
    ∷ one (riichi w opened && (w.is_ippatsu && not (rinshan w)))
    ∷ one (is_tsumo w && not opened)
    ∷ one (unless_orphans s.tanyao r)
    ∷ one (pinfu w opened r)
    ∷ one (of_standard (λ p ms. not opened && eqb (peikou ms) 1) r)
    ∷ yakuhai_of w r 27
    ∷ yakuhai_of w r 28
    ∷ yakuhai_of w r 29
    ∷ yakuhai_of w r 30
    ∷ yakuhai_of w r 31
    ∷ yakuhai_of w r 32
    ∷ yakuhai_of w r 33
    ∷ one (rinshan w)
    ∷ one (w.is_chankan && not (is_tsumo w))
    ∷ one (w.is_last_tile && (is_tsumo w && not w.is_rinshan))
    ∷ one (w.is_last_tile && not (is_tsumo w))
    ∷ []

-- ---- in this order: DoubleRiichi, Toitoi, SanshokuDoujun, SanshokuDoukou, Ittsu, Chiitoitsu, Chanta (not beside Junchan), SanAnkou,
-- SanKantsu, Honroutou, Shousangen, Honitsu, Junchan, Ryanpeikou, Chinitsu
unfoldable pub more_han : GameContext → Bool → TileYaku → Reading → List ℕ
more_han w opened s r =
    one (riichi w opened && w.is_double_riichi)
    ∷ one (of_standard (λ p ms. toitoi ms) r)
    ∷ one (of_standard (λ p ms. sanshoku_doujun ms) r)
    ∷ one (of_standard (λ p ms. sanshoku_doukou ms) r)
    ∷ one (of_standard (λ p ms. ittsu ms) r)
    ∷ one (is_chiitoitsu r)
    ∷ one (of_standard (λ p ms. chanta p ms && not (junchan p ms)) r)
    ∷ one (of_standard (λ p ms. san_ankou w ms) r)
    ∷ one (of_standard (λ p ms. eqb (kans ms) 3) r)
    ∷ one (unless_orphans s.honroutou r)
    ∷ one (of_standard (λ p ms. shousangen p ms) r)
    ∷ one (unless_orphans s.honitsu r)
    ∷ one (of_standard (λ p ms. junchan p ms) r)
    ∷ one (of_standard (λ p ms. not opened && leb 2 (peikou ms)) r)
    ∷ one (unless_orphans s.chinitsu r)
    ∷ []

-- ---- in this order: Tenhou, Chiihou, KokushiMusou, Suuankou, Daisangen, Shousuushii, Daisuushii, Tsuuiisou, Chinroutou, Ryuuiisou,
-- ChuurenPoutou, SuuKantsu, Kokushi13Wait, SuuankouTanki, JunseiChuurenPoutou. Chinroutou of seven pairs is never met: there are six terminals
abbrev pub yakuman : GameContext → Bool → TileYaku → Reading → List Bool
yakuman w opened s r =
    (w.is_tenhou && (is_tsumo w && (not opened && is_dealer w)))
    ∷ (w.is_chiihou && (is_tsumo w && (not opened && not (is_dealer w))))
    ∷ orphans_won w false r
    ∷ of_standard (λ p ms. suuankou w ms && not (eqb w.winning_tile p)) r
    ∷ of_standard (λ p ms. daisangen ms) r
    ∷ of_standard (λ p ms. shousuushii p ms) r
    ∷ of_standard (λ p ms. daisuushii ms) r
    ∷ unless_orphans s.tsuuiisou r
    ∷ unless_orphans s.chinroutou r
    ∷ of_standard (λ p ms. s.ryuuiisou) r
    ∷ of_standard (λ p ms. not opened && (s.nine_gates && not s.pure_wait)) r
    ∷ of_standard (λ p ms. suu_kantsu ms) r
    ∷ orphans_won w true r
    ∷ of_standard (λ p ms. suuankou w ms && eqb w.winning_tile p) r
    ∷ of_standard (λ p ms. not opened && (s.nine_gates && s.pure_wait)) r
    ∷ []

-- at least one yakuman
unfoldable pub is_yakuman : GameContext → Bool → TileYaku → Reading → Bool
is_yakuman w opened s r = any (λ b. b) (yakuman w opened s r)

-- the 32 tallies of the yaku that are no yakuman
unfoldable pub ordinary : GameContext → Bool → TileYaku → Reading → List ℕ
ordinary w opened s r = one_han w opened s r ++ more_han w opened s r

-- all 47; a yakuman leaves every other yaku out
unfoldable pub tallies : GameContext → Bool → TileYaku → Reading → List ℕ
tallies w opened s r =
    cond (is_yakuman w opened s r) (replicate 32 0) (ordinary w opened s r) ++ map one (yakuman w opened s r)
