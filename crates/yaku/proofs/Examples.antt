-- Worked examples of the tallies: for each rule a win that has the yaku, and near misses. Assumes nothing.
use mathlib.Core.Path.{◌≡◌, refl}
use mathlib.Core.Bool.{Bool, true, false, ◌||◌}
use mathlib.Core.List.{List, [], ◌∷◌}
use Prim.Native.Nat.{ℕ}
use Rattle.tile.specs.Named.{man, pin, sou, East, South, West, North, White, Green, Red}
use Rattle.meld.specs.Named.{run, triplet, chi, pon, closed_kan, open_kan, added_kan}
use Rattle.context.specs.declared.GameContext.{GameContext}
use Rattle.context.specs.Named.{Flag, riichi, doubleRiichi, ippatsu, rinshan, chankan, lastTile, tenhou, chiihou, south_wins, dealer_wins, ron, tsumo, by_ron, by_tsumo}
use Rattle.hand.specs.Reading.{Reading, pairs, orphans, standard}
use Rattle.wait.specs.Wait.{pinfu}
use Rattle.tile_yaku.specs.declared.TileYaku.{TileYaku}
use Rattle.set_yaku.specs.Sets.{toitoi, kans, san_ankou, sanshoku_doukou, suuankou, suu_kantsu}
use Rattle.honor_yaku.specs.Honors.{yakuhai, dragons, winds, shousangen, daisangen, shousuushii, daisuushii}
use Rattle.sequence_yaku.specs.Sequences.{ittsu, sanshoku_doujun, peikou}
use Rattle.end_yaku.specs.Ends.{chanta, junchan}
use Rattle.yaku.specs.declared.names.Yaku.{Yaku}
use Rattle.yaku.specs.declared.names.Yaku.TheVariants.{Riichi, Ippatsu, MenzenTsumo, Tanyao, Pinfu, Iipeikou, RinshanKaihou, Chankan, HaiteiRaoyue, HouteiRaoyui, DoubleRiichi, Toitoi, Chiitoitsu, Chanta, SanAnkou, SanKantsu, Honroutou, Honitsu, Junchan, Ryanpeikou, Chinitsu, Tenhou, Chiihou, KokushiMusou, Suuankou, Tsuuiisou, Chinroutou, Ryuuiisou, ChuurenPoutou, SuuKantsu, Kokushi13Wait, SuuankouTanki, JunseiChuurenPoutou}
use Rattle.yaku.specs.Names.{names, tallied, yakuhai_name}
use Rattle.yaku.specs.Tally.{one_han, more_han, is_yakuman, ordinary, tallies}
use Rattle.yaku.specs.Han.{han_of, han}
use Rattle.yaku.proofs.HanTable.{among}

-- ---- what the examples are about
-- nothing was called from another player; something was
abbrev pub closed : Bool
closed = false

abbrev pub called : Bool
called = true

-- the tiles alone show these yaku and no other
abbrev tiles_show : List Yaku → TileYaku
tiles_show ys =
    record {
      tanyao = among ys Tanyao;
      honroutou = among ys Honroutou;
      honitsu = among ys Honitsu;
      chinitsu = among ys Chinitsu;
      tsuuiisou = among ys Tsuuiisou;
      chinroutou = among ys Chinroutou;
      ryuuiisou = among ys Ryuuiisou;
      nine_gates = among ys ChuurenPoutou || among ys JunseiChuurenPoutou;
      pure_wait = among ys JunseiChuurenPoutou;
    }

-- how often the yaku counts in a reading whose tiles show the yaku ys
unfoldable pub counts : Yaku → GameContext → Bool → List Yaku → Reading → ℕ
unfolding tallies is_yakuman ordinary one_han more_han pinfu toitoi kans yakuhai dragons winds san_ankou ittsu sanshoku_doujun sanshoku_doukou peikou chanta junchan shousangen suuankou daisangen shousuushii daisuushii suu_kantsu
counts y w opened ys r = tallied y (tallies w opened (tiles_show ys) r)

-- and the han of all yaku together
unfoldable pub han_in : GameContext → Bool → List Yaku → Reading → ℕ
unfolding counts han han_of names
han_in w opened ys r = han w opened (tiles_show ys) r

-- 55p 234m 567m 234s 678s
abbrev pub runs : Reading
runs = standard (pin 5) (run (man 2) ∷ run (man 5) ∷ run (sou 2) ∷ run (sou 6) ∷ [])

-- the same with its first sequence called
abbrev pub runs_called : Reading
runs_called = standard (pin 5) (chi (man 2) ∷ run (man 5) ∷ run (sou 2) ∷ run (sou 6) ∷ [])

-- 2233m 44p 5566s 88s EE
abbrev pub seven_pairs : Reading
seven_pairs = pairs (man 2 ∷ man 3 ∷ pin 4 ∷ sou 5 ∷ sou 6 ∷ sou 8 ∷ East ∷ [])

-- how often a yaku of the win alone counts: won by ron or tsumo of 8s with these flags, by South, in the closed and in the called hand
unfoldable pub closed_hand : ℕ → List Flag → Yaku → ℕ
unfolding counts
closed_hand how fs y = counts y (south_wins how (sou 8) fs) closed [] runs

unfoldable pub open_hand : ℕ → List Flag → Yaku → ℕ
unfolding counts
open_hand how fs y = counts y (south_wins how (sou 8) fs) called [] runs_called

-- ---- Riichi: declared, in a closed hand
-- declared
pub riichi_declared : closed_hand by_ron (riichi ∷ []) Riichi ≡ 1
unfolding closed_hand
riichi_declared = refl

-- not declared
pub riichi_undeclared : closed_hand by_ron [] Riichi ≡ 0
unfolding closed_hand
riichi_undeclared = refl

-- not in an open hand
pub riichi_open_holds : open_hand by_ron (riichi ∷ []) Riichi ≡ 0
unfolding open_hand
riichi_open_holds = refl

-- ---- DoubleRiichi: riichi with the first discard; it counts instead of Riichi
-- with the first discard
pub double_riichi_first : closed_hand by_ron (riichi ∷ doubleRiichi ∷ []) DoubleRiichi ≡ 1
unfolding closed_hand
double_riichi_first = refl

-- then Riichi does not count
pub double_riichi_no_riichi : closed_hand by_ron (riichi ∷ doubleRiichi ∷ []) Riichi ≡ 0
unfolding closed_hand
double_riichi_no_riichi = refl

-- not without riichi
pub double_riichi_undeclared : closed_hand by_ron (doubleRiichi ∷ []) DoubleRiichi ≡ 0
unfolding closed_hand
double_riichi_undeclared = refl

-- not in an open hand
pub double_riichi_open_holds : open_hand by_ron (riichi ∷ doubleRiichi ∷ []) DoubleRiichi ≡ 0
unfolding open_hand
double_riichi_open_holds = refl

-- not for riichi later
pub double_riichi_later : closed_hand by_ron (riichi ∷ []) DoubleRiichi ≡ 0
unfolding closed_hand
double_riichi_later = refl

-- ---- Ippatsu: within one turn of riichi
-- after riichi
pub ippatsu_riichi : closed_hand by_ron (riichi ∷ ippatsu ∷ []) Ippatsu ≡ 1
unfolding closed_hand
ippatsu_riichi = refl

-- after double riichi too
pub ippatsu_double_riichi : closed_hand by_tsumo (riichi ∷ doubleRiichi ∷ ippatsu ∷ []) Ippatsu ≡ 1
unfolding closed_hand
ippatsu_double_riichi = refl

-- not without riichi
pub ippatsu_undeclared : closed_hand by_ron (ippatsu ∷ []) Ippatsu ≡ 0
unfolding closed_hand
ippatsu_undeclared = refl

-- not in an open hand
pub ippatsu_open : open_hand by_ron (riichi ∷ ippatsu ∷ []) Ippatsu ≡ 0
unfolding open_hand
ippatsu_open = refl

-- not on a replacement tile: the kan has broken it
pub ippatsu_rinshan : closed_hand by_tsumo (riichi ∷ ippatsu ∷ rinshan ∷ []) Ippatsu ≡ 0
unfolding closed_hand
ippatsu_rinshan = refl

-- by ron nothing was drawn, and the flag of the replacement tile does not hinder
pub ippatsu_ron_rinshan : closed_hand by_ron (riichi ∷ ippatsu ∷ rinshan ∷ []) Ippatsu ≡ 1
unfolding closed_hand
ippatsu_ron_rinshan = refl

-- ---- MenzenTsumo: the winning tile drawn, in a closed hand
-- drawn
pub menzen_tsumo_drawn : closed_hand by_tsumo [] MenzenTsumo ≡ 1
unfolding closed_hand
menzen_tsumo_drawn = refl

-- not by ron
pub menzen_tsumo_ron : closed_hand by_ron [] MenzenTsumo ≡ 0
unfolding closed_hand
menzen_tsumo_ron = refl

-- not in an open hand
pub menzen_tsumo_open : open_hand by_tsumo [] MenzenTsumo ≡ 0
unfolding open_hand
menzen_tsumo_open = refl

-- a closed kan leaves the hand closed
pub menzen_tsumo_kan : counts MenzenTsumo (tsumo (sou 8)) closed [] (standard (pin 5) (closed_kan East ∷ run (man 5) ∷ run (sou 2) ∷ run (sou 6) ∷ [])) ≡ 1
unfolding counts
menzen_tsumo_kan = refl

-- ---- RinshanKaihou: on the replacement tile of a kan
-- drawn
pub rinshan_drawn : closed_hand by_tsumo (rinshan ∷ []) RinshanKaihou ≡ 1
unfolding closed_hand
rinshan_drawn = refl

-- in an open hand too
pub rinshan_open_holds : open_hand by_tsumo (rinshan ∷ []) RinshanKaihou ≡ 1
unfolding open_hand
rinshan_open_holds = refl

-- not by ron
pub rinshan_ron : closed_hand by_ron (rinshan ∷ []) RinshanKaihou ≡ 0
unfolding closed_hand
rinshan_ron = refl

-- not on another tile
pub rinshan_unflagged : closed_hand by_tsumo [] RinshanKaihou ≡ 0
unfolding closed_hand
rinshan_unflagged = refl

-- ---- Chankan: by ron on the tile added to a pon
-- by ron
pub chankan_ron : closed_hand by_ron (chankan ∷ []) Chankan ≡ 1
unfolding closed_hand
chankan_ron = refl

-- in an open hand too
pub chankan_open : open_hand by_ron (chankan ∷ []) Chankan ≡ 1
unfolding open_hand
chankan_open = refl

-- not by tsumo
pub chankan_tsumo : closed_hand by_tsumo (chankan ∷ []) Chankan ≡ 0
unfolding closed_hand
chankan_tsumo = refl

-- not on a discard
pub chankan_unflagged : closed_hand by_ron [] Chankan ≡ 0
unfolding closed_hand
chankan_unflagged = refl

-- ---- HaiteiRaoyue: on the last tile of the wall, drawn
-- drawn
pub haitei_drawn : closed_hand by_tsumo (lastTile ∷ []) HaiteiRaoyue ≡ 1
unfolding closed_hand
haitei_drawn = refl

-- in an open hand too
pub haitei_open : open_hand by_tsumo (lastTile ∷ []) HaiteiRaoyue ≡ 1
unfolding open_hand
haitei_open = refl

-- not by ron
pub haitei_ron : closed_hand by_ron (lastTile ∷ []) HaiteiRaoyue ≡ 0
unfolding closed_hand
haitei_ron = refl

-- not on a replacement tile, which is not of the wall
pub haitei_rinshan : closed_hand by_tsumo (lastTile ∷ rinshan ∷ []) HaiteiRaoyue ≡ 0
unfolding closed_hand
haitei_rinshan = refl

-- not on an earlier tile
pub haitei_unflagged : closed_hand by_tsumo [] HaiteiRaoyue ≡ 0
unfolding closed_hand
haitei_unflagged = refl

-- ---- HouteiRaoyui: on the last discard
-- by ron
pub houtei_ron : closed_hand by_ron (lastTile ∷ []) HouteiRaoyui ≡ 1
unfolding closed_hand
houtei_ron = refl

-- in an open hand too
pub houtei_open : open_hand by_ron (lastTile ∷ []) HouteiRaoyui ≡ 1
unfolding open_hand
houtei_open = refl

-- beside Chankan
pub houtei_chankan : closed_hand by_ron (lastTile ∷ chankan ∷ []) HouteiRaoyui ≡ 1
unfolding closed_hand
houtei_chankan = refl

-- not by tsumo
pub houtei_tsumo : closed_hand by_tsumo (lastTile ∷ []) HouteiRaoyui ≡ 0
unfolding closed_hand
houtei_tsumo = refl

-- not on an earlier discard
pub houtei_unflagged : closed_hand by_ron [] HouteiRaoyui ≡ 0
unfolding closed_hand
houtei_unflagged = refl

-- ---- Tenhou and Chiihou: on the first draw, of the dealer and of another player
-- the dealer
pub tenhou_dealer_holds : counts Tenhou (dealer_wins by_tsumo (sou 8) (tenhou ∷ [])) closed [] runs ≡ 1
unfolding counts
tenhou_dealer_holds = refl

-- not another player
pub tenhou_not_dealer : closed_hand by_tsumo (tenhou ∷ []) Tenhou ≡ 0
unfolding closed_hand
tenhou_not_dealer = refl

-- not by ron
pub tenhou_ron : counts Tenhou (dealer_wins by_ron (sou 8) (tenhou ∷ [])) closed [] runs ≡ 0
unfolding counts
tenhou_ron = refl

-- not in an open hand
pub tenhou_open_holds : counts Tenhou (dealer_wins by_tsumo (sou 8) (tenhou ∷ [])) called [] runs_called ≡ 0
unfolding counts
tenhou_open_holds = refl

-- another player
pub chiihou_not_dealer : closed_hand by_tsumo (chiihou ∷ []) Chiihou ≡ 1
unfolding closed_hand
chiihou_not_dealer = refl

-- not the dealer
pub chiihou_dealer_holds : counts Chiihou (dealer_wins by_tsumo (sou 8) (chiihou ∷ [])) closed [] runs ≡ 0
unfolding counts
chiihou_dealer_holds = refl

-- not by ron
pub chiihou_ron : closed_hand by_ron (chiihou ∷ []) Chiihou ≡ 0
unfolding closed_hand
chiihou_ron = refl

-- not in an open hand
pub chiihou_open_holds : open_hand by_tsumo (chiihou ∷ []) Chiihou ≡ 0
unfolding open_hand
chiihou_open_holds = refl

-- a yakuman leaves out what is none
pub chiihou_no_tsumo : closed_hand by_tsumo (chiihou ∷ []) MenzenTsumo ≡ 0
unfolding closed_hand
chiihou_no_tsumo = refl

-- ---- Pinfu: sequences, a pair that is no yakuhai, a two-sided wait, in a closed hand
-- 8s with 67s
pub pinfu_two_sided : closed_hand by_ron [] Pinfu ≡ 1
unfolding closed_hand
pinfu_two_sided = refl

-- not in an open hand
pub pinfu_open_holds : open_hand by_ron [] Pinfu ≡ 0
unfolding open_hand
pinfu_open_holds = refl

-- not on the middle 3m of 234m
pub pinfu_middle_holds : counts Pinfu (ron (man 3)) closed [] runs ≡ 0
unfolding counts
pinfu_middle_holds = refl

-- not with a pair of the seat wind
pub pinfu_seat_wind_holds : counts Pinfu (ron (sou 8)) closed [] (standard South (run (man 2) ∷ run (man 5) ∷ run (sou 2) ∷ run (sou 6) ∷ [])) ≡ 0
unfolding counts
pinfu_seat_wind_holds = refl

-- ---- Iipeikou and Ryanpeikou: one and two pairs of identical sequences, in a closed hand
-- 234m 234m
pub iipeikou_one_pair : counts Iipeikou (ron (sou 8)) closed [] (standard (pin 5) (run (man 2) ∷ run (man 2) ∷ run (sou 2) ∷ run (sou 6) ∷ [])) ≡ 1
unfolding counts
iipeikou_one_pair = refl

-- not in an open hand
pub iipeikou_open_holds : counts Iipeikou (ron (sou 8)) called [] (standard (pin 5) (run (man 2) ∷ run (man 2) ∷ chi (sou 2) ∷ run (sou 6) ∷ [])) ≡ 0
unfolding counts
iipeikou_open_holds = refl

-- not beside Ryanpeikou
pub iipeikou_two_pairs : counts Iipeikou (ron (sou 8)) closed [] (standard (pin 5) (run (man 2) ∷ run (man 2) ∷ run (sou 6) ∷ run (sou 6) ∷ [])) ≡ 0
unfolding counts
iipeikou_two_pairs = refl

-- 234m 234m 678s 678s
pub ryanpeikou_two_pairs : counts Ryanpeikou (ron (sou 8)) closed [] (standard (pin 5) (run (man 2) ∷ run (man 2) ∷ run (sou 6) ∷ run (sou 6) ∷ [])) ≡ 1
unfolding counts
ryanpeikou_two_pairs = refl

-- not of one pair
pub ryanpeikou_one_pair : counts Ryanpeikou (ron (sou 8)) closed [] (standard (pin 5) (run (man 2) ∷ run (man 2) ∷ run (sou 2) ∷ run (sou 6) ∷ [])) ≡ 0
unfolding counts
ryanpeikou_one_pair = refl

-- not in an open hand
pub ryanpeikou_open_holds : counts Ryanpeikou (ron (sou 8)) called [] (standard (pin 5) (run (man 2) ∷ run (man 2) ∷ run (sou 6) ∷ run (sou 6) ∷ [])) ≡ 0
unfolding counts
ryanpeikou_open_holds = refl

-- the same tiles read as seven pairs have none
pub ryanpeikou_seven_pairs : counts Ryanpeikou (ron (sou 8)) closed [] (pairs (man 2 ∷ man 3 ∷ man 4 ∷ pin 5 ∷ sou 6 ∷ sou 7 ∷ sou 8 ∷ [])) ≡ 0
unfolding counts
ryanpeikou_seven_pairs = refl

-- ---- Chiitoitsu: seven pairs
-- seven pairs
pub chiitoitsu_pairs : counts Chiitoitsu (ron (sou 8)) closed [] seven_pairs ≡ 1
unfolding counts
chiitoitsu_pairs = refl

-- not a pair and melds, though these tiles are seven pairs too
pub chiitoitsu_melds : counts Chiitoitsu (ron (sou 8)) closed [] (standard (pin 5) (run (man 2) ∷ run (man 2) ∷ run (sou 6) ∷ run (sou 6) ∷ [])) ≡ 0
unfolding counts
chiitoitsu_melds = refl

-- not thirteen orphans
pub chiitoitsu_orphans : counts Chiitoitsu (ron East) closed [] (orphans East) ≡ 0
unfolding counts
chiitoitsu_orphans = refl

-- ---- Chanta: an end of a suit or an honor in each meld and the pair; Junchan: without honors, and then Chanta does not count
-- with honors
pub chanta_honors : counts Chanta (ron (man 1)) closed [] (standard (pin 9) (run (man 1) ∷ run (man 7) ∷ run (sou 7) ∷ triplet East ∷ [])) ≡ 1
unfolding counts
chanta_honors = refl

-- without honors Junchan counts
pub junchan_terminals : counts Junchan (ron (man 1)) closed [] (standard (pin 9) (run (man 1) ∷ run (man 7) ∷ run (sou 7) ∷ triplet (sou 1) ∷ [])) ≡ 1
unfolding counts
junchan_terminals = refl

-- and Chanta does not
pub chanta_junchan : counts Chanta (ron (man 1)) closed [] (standard (pin 9) (run (man 1) ∷ run (man 7) ∷ run (sou 7) ∷ triplet (sou 1) ∷ [])) ≡ 0
unfolding counts
chanta_junchan = refl

-- Junchan not with an honor
pub junchan_honors_holds : counts Junchan (ron (man 1)) closed [] (standard (pin 9) (run (man 1) ∷ run (man 7) ∷ run (sou 7) ∷ triplet East ∷ [])) ≡ 0
unfolding counts
junchan_honors_holds = refl

-- Chanta not with 234m
pub chanta_234 : counts Chanta (ron (man 2)) closed [] (standard (pin 9) (run (man 2) ∷ run (man 7) ∷ run (sou 7) ∷ triplet East ∷ [])) ≡ 0
unfolding counts
chanta_234 = refl

-- ---- Yakuhai: a triplet or kan of a dragon, the round wind or the seat wind; East is the round, South the seat
-- the round wind
pub yakuhai_round : counts (yakuhai_name East) (ron (sou 8)) closed [] (standard (pin 5) (triplet East ∷ run (man 5) ∷ run (sou 2) ∷ run (sou 6) ∷ [])) ≡ 1
unfolding counts
yakuhai_round = refl

-- a wind of another seat not
pub yakuhai_other_seat : counts (yakuhai_name West) (ron (sou 8)) closed [] (standard (pin 5) (triplet West ∷ run (man 5) ∷ run (sou 2) ∷ run (sou 6) ∷ [])) ≡ 0
unfolding counts
yakuhai_other_seat = refl

-- East twice for the dealer
pub yakuhai_twice : counts (yakuhai_name East) (dealer_wins by_ron (sou 8) []) closed [] (standard (pin 5) (triplet East ∷ run (man 5) ∷ run (sou 2) ∷ run (sou 6) ∷ [])) ≡ 2
unfolding counts
yakuhai_twice = refl

-- a kan of a dragon once
pub yakuhai_dragon_kan : counts (yakuhai_name Red) (ron (sou 8)) closed [] (standard (pin 5) (closed_kan Red ∷ run (man 5) ∷ run (sou 2) ∷ run (sou 6) ∷ [])) ≡ 1
unfolding counts
yakuhai_dragon_kan = refl

-- ---- yaku of the tiles: that the tiles show them is given here (`tiles_show`), and the reading stands for its form alone, whatever its tiles. Asked of
-- a pair and melds and of seven pairs, not of thirteen orphans
-- Tanyao of sequences
pub tanyao_melds : counts Tanyao (ron (sou 8)) closed (Tanyao ∷ []) runs ≡ 1
unfolding counts
tanyao_melds = refl

-- in an open hand too
pub tanyao_open_holds : counts Tanyao (ron (sou 8)) called (Tanyao ∷ []) runs_called ≡ 1
unfolding counts
tanyao_open_holds = refl

-- of seven pairs
pub tanyao_pairs : counts Tanyao (ron (sou 8)) closed (Tanyao ∷ []) seven_pairs ≡ 1
unfolding counts
tanyao_pairs = refl

-- not of orphans
pub tanyao_orphans : counts Tanyao (ron East) closed (Tanyao ∷ []) (orphans East) ≡ 0
unfolding counts
tanyao_orphans = refl

-- Honroutou of seven pairs
pub honroutou_pairs : counts Honroutou (ron (sou 8)) closed (Honroutou ∷ []) seven_pairs ≡ 1
unfolding counts
honroutou_pairs = refl

-- not of orphans, which are terminals and honors only
pub honroutou_orphans : counts Honroutou (ron East) closed (Honroutou ∷ []) (orphans East) ≡ 0
unfolding counts
honroutou_orphans = refl

-- Honitsu of seven pairs
pub honitsu_pairs : counts Honitsu (ron (sou 8)) closed (Honitsu ∷ []) seven_pairs ≡ 1
unfolding counts
honitsu_pairs = refl

-- Chinitsu of seven pairs
pub chinitsu_pairs : counts Chinitsu (ron (sou 8)) closed (Chinitsu ∷ []) seven_pairs ≡ 1
unfolding counts
chinitsu_pairs = refl

-- Tsuuiisou of seven pairs
pub tsuuiisou_pairs_holds : counts Tsuuiisou (ron East) closed (Tsuuiisou ∷ []) seven_pairs ≡ 1
unfolding counts
tsuuiisou_pairs_holds = refl

-- beside it Chiitoitsu does not count
pub tsuuiisou_no_chiitoitsu : counts Chiitoitsu (ron East) closed (Tsuuiisou ∷ []) seven_pairs ≡ 0
unfolding counts
tsuuiisou_no_chiitoitsu = refl

-- Ryuuiisou of a pair and melds
pub ryuuiisou_melds : counts Ryuuiisou (ron (sou 8)) closed (Ryuuiisou ∷ []) runs ≡ 1
unfolding counts
ryuuiisou_melds = refl

-- not of seven pairs
pub ryuuiisou_pairs : counts Ryuuiisou (ron (sou 8)) closed (Ryuuiisou ∷ []) seven_pairs ≡ 0
unfolding counts
ryuuiisou_pairs = refl

-- ---- ChuurenPoutou: nine gates, in a closed hand; JunseiChuurenPoutou: nine tiles were waited for
-- nine gates
pub chuuren_gates : counts ChuurenPoutou (ron (sou 8)) closed (ChuurenPoutou ∷ []) runs ≡ 1
unfolding counts
chuuren_gates = refl

-- not in an open hand
pub chuuren_open_holds : counts ChuurenPoutou (ron (sou 8)) called (ChuurenPoutou ∷ []) runs_called ≡ 0
unfolding counts
chuuren_open_holds = refl

-- not beside Junsei
pub chuuren_junsei : counts ChuurenPoutou (ron (sou 8)) closed (JunseiChuurenPoutou ∷ []) runs ≡ 0
unfolding counts
chuuren_junsei = refl

-- nine tiles were waited for
pub junsei_nine_tiles : counts JunseiChuurenPoutou (ron (sou 8)) closed (JunseiChuurenPoutou ∷ []) runs ≡ 1
unfolding counts
junsei_nine_tiles = refl

-- not where fewer were
pub junsei_fewer : counts JunseiChuurenPoutou (ron (sou 8)) closed (ChuurenPoutou ∷ []) runs ≡ 0
unfolding counts
junsei_fewer = refl

-- not in an open hand
pub junsei_open : counts JunseiChuurenPoutou (ron (sou 8)) called (JunseiChuurenPoutou ∷ []) runs_called ≡ 0
unfolding counts
junsei_open = refl

-- ---- KokushiMusou: thirteen orphans; Kokushi13Wait: won on the tile that is doubled, so that thirteen tiles were waited for
-- won on the doubled tile
pub kokushi_13_doubled : counts Kokushi13Wait (ron East) closed [] (orphans East) ≡ 1
unfolding counts
kokushi_13_doubled = refl

-- not on another one
pub kokushi_13_other : counts Kokushi13Wait (ron (man 1)) closed [] (orphans East) ≡ 0
unfolding counts
kokushi_13_other = refl

-- won on another one
pub kokushi_other : counts KokushiMusou (ron (man 1)) closed [] (orphans East) ≡ 1
unfolding counts
kokushi_other = refl

-- not on the doubled tile
pub kokushi_doubled : counts KokushiMusou (ron East) closed [] (orphans East) ≡ 0
unfolding counts
kokushi_doubled = refl

-- not of seven pairs
pub kokushi_pairs : counts KokushiMusou (ron (man 1)) closed [] seven_pairs ≡ 0
unfolding counts
kokushi_pairs = refl

-- ---- Suuankou: four concealed triplets; SuuankouTanki: won on the pair
-- a triplet drawn
pub suuankou_drawn : counts Suuankou (tsumo (sou 6)) closed [] (standard (pin 5) (triplet (man 2) ∷ triplet (man 5) ∷ triplet (sou 2) ∷ triplet (sou 6) ∷ [])) ≡ 1
unfolding counts
suuankou_drawn = refl

-- not by ron on a triplet
pub suuankou_ron_holds : counts Suuankou (ron (sou 6)) closed [] (standard (pin 5) (triplet (man 2) ∷ triplet (man 5) ∷ triplet (sou 2) ∷ triplet (sou 6) ∷ [])) ≡ 0
unfolding counts
suuankou_ron_holds = refl

-- which is SanAnkou
pub suuankou_ron_sanankou : counts SanAnkou (ron (sou 6)) closed [] (standard (pin 5) (triplet (man 2) ∷ triplet (man 5) ∷ triplet (sou 2) ∷ triplet (sou 6) ∷ [])) ≡ 1
unfolding counts
suuankou_ron_sanankou = refl

-- and Toitoi
pub suuankou_ron_toitoi : counts Toitoi (ron (sou 6)) closed [] (standard (pin 5) (triplet (man 2) ∷ triplet (man 5) ∷ triplet (sou 2) ∷ triplet (sou 6) ∷ [])) ≡ 1
unfolding counts
suuankou_ron_toitoi = refl

-- not on the pair
pub suuankou_pair : counts Suuankou (tsumo (pin 5)) closed [] (standard (pin 5) (triplet (man 2) ∷ triplet (man 5) ∷ triplet (sou 2) ∷ triplet (sou 6) ∷ [])) ≡ 0
unfolding counts
suuankou_pair = refl

-- on the pair, by ron too
pub suuankou_tanki_ron_holds : counts SuuankouTanki (ron (pin 5)) closed [] (standard (pin 5) (triplet (man 2) ∷ triplet (man 5) ∷ triplet (sou 2) ∷ triplet (sou 6) ∷ [])) ≡ 1
unfolding counts
suuankou_tanki_ron_holds = refl

-- not on a triplet
pub suuankou_tanki_triplet : counts SuuankouTanki (tsumo (sou 6)) closed [] (standard (pin 5) (triplet (man 2) ∷ triplet (man 5) ∷ triplet (sou 2) ∷ triplet (sou 6) ∷ [])) ≡ 0
unfolding counts
suuankou_tanki_triplet = refl

-- not with a pon
pub suuankou_tanki_pon : counts SuuankouTanki (ron (pin 5)) called [] (standard (pin 5) (pon (man 2) ∷ triplet (man 5) ∷ triplet (sou 2) ∷ triplet (sou 6) ∷ [])) ≡ 0
unfolding counts
suuankou_tanki_pon = refl

-- ---- SanKantsu and SuuKantsu: three kans and four, of any sort
-- three
pub sankantsu_three : counts SanKantsu (ron (sou 8)) called [] (standard (pin 5) (closed_kan (man 2) ∷ open_kan (man 5) ∷ added_kan (sou 2) ∷ run (sou 6) ∷ [])) ≡ 1
unfolding counts
sankantsu_three = refl

-- not four
pub sankantsu_four : counts SanKantsu (ron (pin 5)) called [] (standard (pin 5) (closed_kan (man 2) ∷ open_kan (man 5) ∷ added_kan (sou 2) ∷ open_kan (sou 6) ∷ [])) ≡ 0
unfolding counts
sankantsu_four = refl

-- four
pub suukantsu_four : counts SuuKantsu (ron (pin 5)) called [] (standard (pin 5) (closed_kan (man 2) ∷ open_kan (man 5) ∷ added_kan (sou 2) ∷ open_kan (sou 6) ∷ [])) ≡ 1
unfolding counts
suukantsu_four = refl

-- ---- han of textbook hands
-- Riichi, Pinfu and Tanyao
pub han_riichi_pinfu_tanyao : han_in (south_wins by_ron (sou 8) (riichi ∷ [])) closed (Tanyao ∷ []) runs ≡ 3
unfolding han_in
han_riichi_pinfu_tanyao = refl

-- the same drawn, with Ippatsu: five
pub han_drawn_ippatsu : han_in (south_wins by_tsumo (sou 8) (riichi ∷ ippatsu ∷ [])) closed (Tanyao ∷ []) runs ≡ 5
unfolding han_in
han_drawn_ippatsu = refl

-- the same called: Tanyao alone
pub han_called_tanyao : han_in (ron (sou 8)) called (Tanyao ∷ []) runs_called ≡ 1
unfolding han_in
han_called_tanyao = refl

-- DoubleRiichi and Chiitoitsu
pub han_double_riichi_chiitoitsu : han_in (south_wins by_ron (sou 8) (riichi ∷ doubleRiichi ∷ [])) closed [] seven_pairs ≡ 4
unfolding han_in
han_double_riichi_chiitoitsu = refl

-- Ryanpeikou, Pinfu and Chinitsu
pub han_ryanpeikou_chinitsu : han_in (ron (sou 8)) closed (Chinitsu ∷ []) (standard (sou 5) (run (sou 1) ∷ run (sou 1) ∷ run (sou 6) ∷ run (sou 6) ∷ [])) ≡ 10
unfolding han_in
han_ryanpeikou_chinitsu = refl

-- an open half flush of triplets with the round wind: Honitsu 2, Toitoi 2, Yakuhai 1
pub han_open_honitsu : han_in (ron (sou 8)) called (Honitsu ∷ []) (standard (sou 8) (pon (sou 2) ∷ pon (sou 6) ∷ pon East ∷ pon (sou 9) ∷ [])) ≡ 5
unfolding han_in
han_open_honitsu = refl

-- the same sequence in three suits, called
pub han_sanshoku_called : han_in (ron (sou 8)) called [] (standard (pin 5) (chi (man 2) ∷ run (pin 2) ∷ run (sou 2) ∷ run (sou 6) ∷ [])) ≡ 1
unfolding han_in
han_sanshoku_called = refl

-- closed beside Pinfu
pub han_sanshoku_closed : han_in (ron (sou 8)) closed [] (standard (pin 5) (run (man 2) ∷ run (pin 2) ∷ run (sou 2) ∷ run (sou 6) ∷ [])) ≡ 3
unfolding han_in
han_sanshoku_closed = refl

-- 123456789m, called
pub han_ittsu_called : han_in (ron (sou 8)) called [] (standard (pin 5) (chi (man 1) ∷ run (man 4) ∷ run (man 7) ∷ run (sou 6) ∷ [])) ≡ 1
unfolding han_in
han_ittsu_called = refl

-- closed beside Pinfu
pub han_ittsu_closed : han_in (ron (sou 8)) closed [] (standard (pin 5) (run (man 1) ∷ run (man 4) ∷ run (man 7) ∷ run (sou 6) ∷ [])) ≡ 3
unfolding han_in
han_ittsu_closed = refl

-- Chanta, called
pub han_chanta_called : han_in (ron (pin 9)) called [] (standard (pin 9) (chi (man 1) ∷ run (man 7) ∷ run (sou 7) ∷ pon West ∷ [])) ≡ 1
unfolding han_in
han_chanta_called = refl

-- Junchan, called: one more
pub han_junchan_called : han_in (ron (pin 9)) called [] (standard (pin 9) (chi (man 1) ∷ run (man 7) ∷ run (sou 7) ∷ pon (pin 1) ∷ [])) ≡ 2
unfolding han_in
han_junchan_called = refl

-- a triplet of East of the dealer in the round East
pub han_double_east : han_in (dealer_wins by_ron (sou 8) []) called [] (standard (pin 5) (pon East ∷ run (man 5) ∷ run (sou 2) ∷ run (sou 6) ∷ [])) ≡ 2
unfolding han_in
han_double_east = refl

-- Shousangen: two han, and one for each of its triplets of dragons
pub han_shousangen : han_in (ron (sou 8)) called [] (standard Red (pon White ∷ pon Green ∷ run (sou 2) ∷ run (sou 6) ∷ [])) ≡ 4
unfolding han_in
han_shousangen = refl

-- all three dragons, honors only, four concealed triplets won on the pair: 13, 13 and 26, and no more for riichi
pub han_daisangen_tsuuiisou : han_in (south_wins by_ron North (riichi ∷ [])) closed (Tsuuiisou ∷ Honroutou ∷ []) (standard North (triplet East ∷ triplet White ∷ triplet Green ∷ closed_kan Red ∷ [])) ≡ 52
unfolding han_in
han_daisangen_tsuuiisou = refl
