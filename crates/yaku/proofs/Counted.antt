-- Worked examples of all tallies together: for each yaku a win with the whole list of what counts in it, and near misses. Assumes nothing.
use mathlib.Core.Path.{◌≡◌, refl}
use mathlib.Core.Bool.{Bool}
use mathlib.Core.List.{List, [], ◌∷◌}
use lib.Dec.{leb}
use Rattle.tile.specs.Named.{man, pin, sou, East, South, West, North, White, Green, Red}
use Rattle.meld.specs.Named.{run, triplet, chi, pon, closed_kan, open_kan, added_kan}
use Rattle.context.specs.declared.GameContext.{GameContext}
use Rattle.context.specs.Named.{riichi, doubleRiichi, ippatsu, rinshan, chankan, lastTile, tenhou, chiihou, win, south_wins, dealer_wins, ron, tsumo, by_ron, by_tsumo}
use Rattle.hand.specs.Reading.{Reading, orphans, standard}
use Rattle.yaku.specs.declared.names.Yaku.{Yaku}
use Rattle.yaku.specs.declared.names.Yaku.TheVariants.{Riichi, Ippatsu, MenzenTsumo, Tanyao, Pinfu, Iipeikou, RinshanKaihou, Chankan, HaiteiRaoyue, HouteiRaoyui, DoubleRiichi, Toitoi, SanshokuDoujun, SanshokuDoukou, Ittsu, Chiitoitsu, Chanta, SanAnkou, SanKantsu, Honroutou, Shousangen, Honitsu, Junchan, Ryanpeikou, Chinitsu, Tenhou, Chiihou, KokushiMusou, Suuankou, Daisangen, Shousuushii, Daisuushii, Tsuuiisou, Chinroutou, Ryuuiisou, ChuurenPoutou, SuuKantsu, Kokushi13Wait, SuuankouTanki, JunseiChuurenPoutou}
use Rattle.yaku.specs.Names.{names, yakuhai_name}
use Rattle.yaku.proofs.HanTable.{those}
use Rattle.yaku.proofs.Examples.{closed, called, counts, runs, runs_called, seven_pairs}

-- the yaku that count in a reading whose tiles show the yaku ys
unfoldable pub counted : GameContext → Bool → List Yaku → Reading → List Yaku
unfolding counts names
counted w opened ys r = those (λ y. leb 1 (counts y w opened ys r))

-- ---- by the win: in a called hand, or beside Pinfu in a closed one
-- no yaku: a called hand by ron
pub nothing : counted (ron (sou 8)) called [] runs_called ≡ []
unfolding counted
nothing = refl

-- Pinfu
pub pinfu : counted (ron (sou 8)) closed [] runs ≡ Pinfu ∷ []
unfolding counted
pinfu = refl

-- drawn
pub menzen_tsumo : counted (tsumo (sou 8)) closed [] runs ≡ MenzenTsumo ∷ Pinfu ∷ []
unfolding counted
menzen_tsumo = refl

-- Riichi
pub riichi_ron : counted (south_wins by_ron (sou 8) (riichi ∷ [])) closed [] runs ≡ Riichi ∷ Pinfu ∷ []
unfolding counted
riichi_ron = refl

-- DoubleRiichi
pub double_riichi_ron : counted (south_wins by_ron (sou 8) (riichi ∷ doubleRiichi ∷ [])) closed [] runs ≡ Pinfu ∷ DoubleRiichi ∷ []
unfolding counted
double_riichi_ron = refl

-- Ippatsu
pub ippatsu_ron : counted (south_wins by_ron (sou 8) (riichi ∷ ippatsu ∷ [])) closed [] runs ≡ Riichi ∷ Ippatsu ∷ Pinfu ∷ []
unfolding counted
ippatsu_ron = refl

-- RinshanKaihou
pub rinshan_alone : counted (south_wins by_tsumo (sou 8) (rinshan ∷ [])) called [] runs_called ≡ RinshanKaihou ∷ []
unfolding counted
rinshan_alone = refl

-- Chankan
pub chankan_alone_holds : counted (south_wins by_ron (sou 8) (chankan ∷ [])) called [] runs_called ≡ Chankan ∷ []
unfolding counted
chankan_alone_holds = refl

-- HaiteiRaoyue
pub haitei_alone_holds : counted (south_wins by_tsumo (sou 8) (lastTile ∷ [])) called [] runs_called ≡ HaiteiRaoyue ∷ []
unfolding counted
haitei_alone_holds = refl

-- HouteiRaoyui
pub houtei_alone_holds : counted (south_wins by_ron (sou 8) (lastTile ∷ [])) called [] runs_called ≡ HouteiRaoyui ∷ []
unfolding counted
houtei_alone_holds = refl

-- Tenhou
pub tenhou_alone : counted (dealer_wins by_tsumo (sou 8) (tenhou ∷ [])) closed [] runs ≡ Tenhou ∷ []
unfolding counted
tenhou_alone = refl

-- Chiihou
pub chiihou_alone : counted (south_wins by_tsumo (sou 8) (chiihou ∷ [])) closed [] runs ≡ Chiihou ∷ []
unfolding counted
chiihou_alone = refl

-- ---- Yakuhai of each honor; East is the round, South the seat, where no other is named
-- the round wind
pub yakuhai_east : counted (ron (sou 8)) called [] (standard (pin 5) (pon East ∷ run (man 5) ∷ run (sou 2) ∷ run (sou 6) ∷ [])) ≡ yakuhai_name East ∷ []
unfolding counted
yakuhai_east = refl

-- the seat wind
pub yakuhai_south : counted (ron (sou 8)) called [] (standard (pin 5) (pon South ∷ run (man 5) ∷ run (sou 2) ∷ run (sou 6) ∷ [])) ≡ yakuhai_name South ∷ []
unfolding counted
yakuhai_south = refl

-- the seat wind West
pub yakuhai_west : counted (win by_ron (sou 8) East West []) called [] (standard (pin 5) (pon West ∷ run (man 5) ∷ run (sou 2) ∷ run (sou 6) ∷ [])) ≡ yakuhai_name West ∷ []
unfolding counted
yakuhai_west = refl

-- not another player's
pub yakuhai_west_of_another : counted (ron (sou 8)) called [] (standard (pin 5) (pon West ∷ run (man 5) ∷ run (sou 2) ∷ run (sou 6) ∷ [])) ≡ []
unfolding counted
yakuhai_west_of_another = refl

-- the seat wind North
pub yakuhai_north : counted (win by_ron (sou 8) East North []) called [] (standard (pin 5) (pon North ∷ run (man 5) ∷ run (sou 2) ∷ run (sou 6) ∷ [])) ≡ yakuhai_name North ∷ []
unfolding counted
yakuhai_north = refl

-- not another player's
pub yakuhai_north_of_another : counted (ron (sou 8)) called [] (standard (pin 5) (pon North ∷ run (man 5) ∷ run (sou 2) ∷ run (sou 6) ∷ [])) ≡ []
unfolding counted
yakuhai_north_of_another = refl

-- a dragon
pub yakuhai_white_holds : counted (ron (sou 8)) called [] (standard (pin 5) (pon White ∷ run (man 5) ∷ run (sou 2) ∷ run (sou 6) ∷ [])) ≡ yakuhai_name White ∷ []
unfolding counted
yakuhai_white_holds = refl

-- a dragon
pub yakuhai_green_holds : counted (ron (sou 8)) called [] (standard (pin 5) (pon Green ∷ run (man 5) ∷ run (sou 2) ∷ run (sou 6) ∷ [])) ≡ yakuhai_name Green ∷ []
unfolding counted
yakuhai_green_holds = refl

-- a dragon
pub yakuhai_red_holds : counted (ron (sou 8)) called [] (standard (pin 5) (pon Red ∷ run (man 5) ∷ run (sou 2) ∷ run (sou 6) ∷ [])) ≡ yakuhai_name Red ∷ []
unfolding counted
yakuhai_red_holds = refl

-- ---- sequences
-- 234 in the three suits
pub doujun_three_suits : counted (ron (sou 8)) called [] (standard (pin 5) (chi (man 2) ∷ run (pin 2) ∷ run (sou 2) ∷ run (sou 6) ∷ [])) ≡ SanshokuDoujun ∷ []
unfolding counted
doujun_three_suits = refl

-- not 234 in two suits and 345 in the third
pub doujun_two_suits : counted (ron (sou 8)) called [] (standard (pin 5) (chi (man 2) ∷ run (pin 2) ∷ run (sou 3) ∷ run (sou 6) ∷ [])) ≡ []
unfolding counted
doujun_two_suits = refl

-- not 234 twice in one suit and once in another
pub doujun_twice_one_suit : counted (ron (sou 8)) called [] (standard (pin 5) (chi (man 2) ∷ run (pin 2) ∷ run (pin 2) ∷ run (sou 6) ∷ [])) ≡ []
unfolding counted
doujun_twice_one_suit = refl

-- 123, 456 and 789 of one suit
pub ittsu_one_suit : counted (ron (sou 8)) called [] (standard (pin 5) (chi (man 1) ∷ run (man 4) ∷ run (man 7) ∷ run (sou 6) ∷ [])) ≡ Ittsu ∷ []
unfolding counted
ittsu_one_suit = refl

-- not of two suits
pub ittsu_two_suits_holds : counted (ron (sou 8)) called [] (standard (pin 5) (chi (man 1) ∷ run (pin 4) ∷ run (man 7) ∷ run (sou 6) ∷ [])) ≡ []
unfolding counted
ittsu_two_suits_holds = refl

-- not with 345 for 456
pub ittsu_345 : counted (ron (sou 8)) called [] (standard (pin 5) (chi (man 1) ∷ run (man 3) ∷ run (man 7) ∷ run (sou 6) ∷ [])) ≡ []
unfolding counted
ittsu_345 = refl

-- one pair of identical sequences
pub iipeikou_alone : counted (ron (sou 8)) closed [] (standard South (run (man 2) ∷ run (man 2) ∷ run (sou 2) ∷ run (sou 6) ∷ [])) ≡ Iipeikou ∷ []
unfolding counted
iipeikou_alone = refl

-- two pairs of them
pub ryanpeikou_alone : counted (ron (sou 8)) closed [] (standard South (run (man 2) ∷ run (man 2) ∷ run (sou 6) ∷ run (sou 6) ∷ [])) ≡ Ryanpeikou ∷ []
unfolding counted
ryanpeikou_alone = refl

-- ---- triplets and kans
-- 222 in the three suits
pub doukou_three_suits : counted (ron (sou 8)) called [] (standard (pin 5) (pon (man 2) ∷ pon (pin 2) ∷ triplet (sou 2) ∷ run (sou 6) ∷ [])) ≡ SanshokuDoukou ∷ []
unfolding counted
doukou_three_suits = refl

-- not 222 in two suits and 333 in the third
pub doukou_two_suits : counted (ron (sou 8)) called [] (standard (pin 5) (pon (man 2) ∷ pon (pin 2) ∷ triplet (sou 3) ∷ run (sou 6) ∷ [])) ≡ []
unfolding counted
doukou_two_suits = refl

-- not 222 in two suits and 234 in the third
pub doukou_sequence : counted (ron (sou 8)) called [] (standard (pin 5) (pon (man 2) ∷ pon (pin 2) ∷ run (sou 2) ∷ run (sou 6) ∷ [])) ≡ []
unfolding counted
doukou_sequence = refl

-- four triplets, called
pub toitoi_alone : counted (ron (sou 8)) called [] (standard (pin 5) (pon (man 2) ∷ pon (man 5) ∷ pon (sou 2) ∷ triplet (sou 8) ∷ [])) ≡ Toitoi ∷ []
unfolding counted
toitoi_alone = refl

-- three concealed triplets beside a called sequence
pub sanankou_alone : counted (ron (pin 5)) called [] (standard (pin 5) (triplet (man 2) ∷ triplet (man 5) ∷ triplet (sou 2) ∷ chi (sou 6) ∷ [])) ≡ SanAnkou ∷ []
unfolding counted
sanankou_alone = refl

-- not if one is completed by ron
pub sanankou_ron : counted (ron (sou 2)) called [] (standard (pin 5) (triplet (man 2) ∷ triplet (man 5) ∷ triplet (sou 2) ∷ chi (sou 6) ∷ [])) ≡ []
unfolding counted
sanankou_ron = refl

-- three kans
pub sankantsu_alone : counted (ron (sou 8)) called [] (standard (pin 5) (closed_kan (man 2) ∷ open_kan (man 5) ∷ added_kan (sou 2) ∷ run (sou 6) ∷ [])) ≡ SanKantsu ∷ []
unfolding counted
sankantsu_alone = refl

-- four
pub suukantsu_alone : counted (ron (pin 5)) called [] (standard (pin 5) (closed_kan (man 2) ∷ open_kan (man 5) ∷ added_kan (sou 2) ∷ open_kan (sou 6) ∷ [])) ≡ SuuKantsu ∷ []
unfolding counted
suukantsu_alone = refl

-- not three and a triplet
pub suukantsu_three : counted (ron (pin 5)) called [] (standard (pin 5) (closed_kan (man 2) ∷ open_kan (man 5) ∷ added_kan (sou 2) ∷ pon (sou 6) ∷ [])) ≡ Toitoi ∷ SanKantsu ∷ []
unfolding counted
suukantsu_three = refl

-- two are none
pub sankantsu_two : counted (ron (sou 8)) called [] (standard (pin 5) (closed_kan (man 2) ∷ open_kan (man 5) ∷ pon (sou 2) ∷ run (sou 6) ∷ [])) ≡ []
unfolding counted
sankantsu_two = refl

-- four concealed triplets, one of them drawn
pub suuankou_alone : counted (tsumo (sou 6)) closed [] (standard (pin 5) (triplet (man 2) ∷ triplet (man 5) ∷ triplet (sou 2) ∷ triplet (sou 6) ∷ [])) ≡ Suuankou ∷ []
unfolding counted
suuankou_alone = refl

-- won on the pair
pub suuankou_tanki_alone : counted (ron (pin 5)) closed [] (standard (pin 5) (triplet (man 2) ∷ triplet (man 5) ∷ triplet (sou 2) ∷ triplet (sou 6) ∷ [])) ≡ SuuankouTanki ∷ []
unfolding counted
suuankou_tanki_alone = refl

-- ---- dragons and winds
-- two triplets of dragons and a pair of the third
pub shousangen_pair_holds : counted (ron (sou 8)) called [] (standard Red (pon White ∷ pon Green ∷ run (sou 2) ∷ run (sou 6) ∷ [])) ≡ yakuhai_name White ∷ yakuhai_name Green ∷ Shousangen ∷ []
unfolding counted
shousangen_pair_holds = refl

-- not with another pair
pub shousangen_other_pair_holds : counted (ron (sou 8)) called [] (standard North (pon White ∷ pon Green ∷ run (sou 2) ∷ run (sou 6) ∷ [])) ≡ yakuhai_name White ∷ yakuhai_name Green ∷ []
unfolding counted
shousangen_other_pair_holds = refl

-- not one triplet and a pair
pub shousangen_one : counted (ron (sou 8)) called [] (standard Red (pon White ∷ run (man 2) ∷ run (sou 2) ∷ run (sou 6) ∷ [])) ≡ yakuhai_name White ∷ []
unfolding counted
shousangen_one = refl

-- three triplets of dragons
pub daisangen_three : counted (ron (sou 8)) called [] (standard (pin 5) (pon White ∷ pon Green ∷ triplet Red ∷ run (sou 6) ∷ [])) ≡ Daisangen ∷ []
unfolding counted
daisangen_three = refl

-- three triplets of winds and a pair of the fourth
pub shousuushii_pair_holds : counted (ron (man 4)) called [] (standard North (pon East ∷ triplet South ∷ triplet West ∷ run (man 2) ∷ [])) ≡ Shousuushii ∷ []
unfolding counted
shousuushii_pair_holds = refl

-- not with another pair
pub shousuushii_other_pair_holds : counted (ron (man 4)) called [] (standard (pin 5) (pon East ∷ triplet South ∷ triplet West ∷ run (man 2) ∷ [])) ≡ yakuhai_name East ∷ yakuhai_name South ∷ []
unfolding counted
shousuushii_other_pair_holds = refl

-- not two triplets and a pair
pub shousuushii_two : counted (ron (man 4)) called [] (standard North (pon East ∷ triplet South ∷ run (man 2) ∷ run (man 5) ∷ [])) ≡ yakuhai_name East ∷ yakuhai_name South ∷ []
unfolding counted
shousuushii_two = refl

-- all four triplets of winds
pub daisuushii_four : counted (ron (pin 9)) called [] (standard (pin 9) (pon East ∷ pon South ∷ triplet West ∷ triplet North ∷ [])) ≡ Daisuushii ∷ []
unfolding counted
daisuushii_four = refl

-- not three and one of a dragon
pub daisuushii_three : counted (ron (pin 9)) called [] (standard (pin 9) (pon East ∷ pon South ∷ triplet West ∷ triplet Red ∷ [])) ≡ yakuhai_name East ∷ yakuhai_name South ∷ yakuhai_name Red ∷ Toitoi ∷ []
unfolding counted
daisuushii_three = refl

-- ---- an end of a suit in each group
-- with honors
pub chanta_alone : counted (ron (pin 9)) called [] (standard (pin 9) (chi (man 1) ∷ run (man 7) ∷ run (sou 7) ∷ pon West ∷ [])) ≡ Chanta ∷ []
unfolding counted
chanta_alone = refl

-- with terminals only
pub junchan_alone : counted (ron (pin 9)) called [] (standard (pin 9) (chi (man 1) ∷ run (man 7) ∷ run (sou 7) ∷ pon (pin 1) ∷ [])) ≡ Junchan ∷ []
unfolding counted
junchan_alone = refl

-- ---- by the tiles: where they show it, of a pair and melds and of seven pairs; not of thirteen orphans
-- Tanyao
pub tanyao_alone : counted (ron (sou 8)) called (Tanyao ∷ []) runs_called ≡ Tanyao ∷ []
unfolding counted
tanyao_alone = refl

-- Honroutou
pub honroutou_alone : counted (ron (sou 8)) called (Honroutou ∷ []) runs_called ≡ Honroutou ∷ []
unfolding counted
honroutou_alone = refl

-- Honitsu
pub honitsu_alone : counted (ron (sou 8)) called (Honitsu ∷ []) runs_called ≡ Honitsu ∷ []
unfolding counted
honitsu_alone = refl

-- Chinitsu
pub chinitsu_alone : counted (ron (sou 8)) called (Chinitsu ∷ []) runs_called ≡ Chinitsu ∷ []
unfolding counted
chinitsu_alone = refl

-- Tsuuiisou
pub tsuuiisou_alone : counted (ron (sou 8)) called (Tsuuiisou ∷ []) runs_called ≡ Tsuuiisou ∷ []
unfolding counted
tsuuiisou_alone = refl

-- Chinroutou
pub chinroutou_alone : counted (ron (sou 8)) called (Chinroutou ∷ []) runs_called ≡ Chinroutou ∷ []
unfolding counted
chinroutou_alone = refl

-- Ryuuiisou
pub ryuuiisou_alone : counted (ron (sou 8)) called (Ryuuiisou ∷ []) runs_called ≡ Ryuuiisou ∷ []
unfolding counted
ryuuiisou_alone = refl

-- not Honitsu of orphans
pub honitsu_orphans : counted (ron East) closed (Honitsu ∷ []) (orphans East) ≡ Kokushi13Wait ∷ []
unfolding counted
honitsu_orphans = refl

-- not Chinitsu of orphans
pub chinitsu_orphans : counted (ron East) closed (Chinitsu ∷ []) (orphans East) ≡ Kokushi13Wait ∷ []
unfolding counted
chinitsu_orphans = refl

-- not Chinroutou of orphans
pub chinroutou_orphans : counted (ron East) closed (Chinroutou ∷ []) (orphans East) ≡ Kokushi13Wait ∷ []
unfolding counted
chinroutou_orphans = refl

-- four triplets and a pair of terminals: Chinroutou, and beside it nothing that is no yakuman
pub chinroutou_triplets : counted (ron (sou 9)) called (Chinroutou ∷ Honroutou ∷ []) (standard (sou 9) (pon (man 1) ∷ triplet (man 9) ∷ pon (pin 1) ∷ triplet (pin 9) ∷ [])) ≡ Chinroutou ∷ []
unfolding counted
chinroutou_triplets = refl

-- with a pair of honors for it Honroutou and Toitoi
pub chinroutou_honors_holds : counted (ron North) called (Honroutou ∷ []) (standard North (pon (man 1) ∷ triplet (man 9) ∷ pon (pin 1) ∷ triplet (pin 9) ∷ [])) ≡ Toitoi ∷ Honroutou ∷ []
unfolding counted
chinroutou_honors_holds = refl

-- nine gates
pub chuuren_alone : counted (ron (sou 8)) closed (ChuurenPoutou ∷ []) runs ≡ ChuurenPoutou ∷ []
unfolding counted
chuuren_alone = refl

-- won on any of nine tiles
pub junsei_alone : counted (ron (sou 8)) closed (JunseiChuurenPoutou ∷ []) runs ≡ JunseiChuurenPoutou ∷ []
unfolding counted
junsei_alone = refl

-- ---- seven pairs and thirteen orphans
-- seven pairs
pub chiitoitsu_alone : counted (ron (sou 8)) closed [] seven_pairs ≡ Chiitoitsu ∷ []
unfolding counted
chiitoitsu_alone = refl

-- thirteen orphans
pub kokushi_alone : counted (ron (man 1)) closed [] (orphans East) ≡ KokushiMusou ∷ []
unfolding counted
kokushi_alone = refl

-- won on the doubled tile
pub kokushi_13_alone : counted (ron East) closed [] (orphans East) ≡ Kokushi13Wait ∷ []
unfolding counted
kokushi_13_alone = refl
