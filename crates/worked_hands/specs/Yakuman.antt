-- The yakuman, by worked hands: for each one that has it, and near misses that have it not. A yakuman leaves all ordinary yaku out. The winner is
-- seat South in the round East, if nothing else is said. These are definitions.
use Rattle.std.specs.Prelude.{[], ◌∷◌, ◌++◌}
use Rattle.tile.specs.Named.{man, pin, sou, East, South, West, North, White, Green, Red, mans, pins, sous, orphan_tiles}
use Rattle.meld.specs.Named.{chi, pon, closed_kan, open_kan, added_kan}
use Rattle.context.specs.Named.{by_ron, by_tsumo, riichi, ippatsu, tenhou, chiihou, south_wins, dealer_wins, ron, tsumo}
use Rattle.hand.specs.Named.{hand}
use Rattle.yaku.specs.declared.names.Yaku.TheVariants.{MenzenTsumo, Pinfu, Iipeikou, Toitoi, SanAnkou, SanKantsu, Honroutou, Shousangen, Honitsu, Junchan, Chinitsu, Tenhou, Chiihou, KokushiMusou, Suuankou, Daisangen, Shousuushii, Daisuushii, Tsuuiisou, Chinroutou, Ryuuiisou, ChuurenPoutou, SuuKantsu, Kokushi13Wait, SuuankouTanki, JunseiChuurenPoutou}
use Rattle.yaku.specs.Names.{yakuhai_name}
use Rattle.scoring.specs.declared.ScoreLevel.TheVariants.{Normal, Mangan, Haneman, Baiman, Yakuman}
use Rattle.scoring.specs.declared.Payment.TheVariants.{Ron, DealerTsumo, Tsumo}
use Rattle.played.specs.Row.{Row, won, refuses, scored, yakuless}

-- ---- Tenhou: the dealer's first draw
-- a closed tsumo of the dealer
abbrev pub tenhou_dealer : Row
tenhou_dealer =
    scored (hand (mans 12355 ++ pins 456 ++ sous 234678)) [] (dealer_wins by_tsumo (sou 8) (tenhou ∷ []))
    (Tenhou ∷ []) 13 20 (Yakuman 1) (DealerTsumo 16000)

-- not for another seat
abbrev pub tenhou_non_dealer : Row
tenhou_non_dealer =
    scored (hand (mans 12355 ++ pins 456 ++ sous 234678)) [] (south_wins by_tsumo (sou 8) (tenhou ∷ []))
    (MenzenTsumo ∷ Pinfu ∷ []) 2 20 Normal (Tsumo 700 400)

-- not by ron
abbrev pub tenhou_by_ron : Row
tenhou_by_ron =
    scored (hand (mans 12355 ++ pins 456 ++ sous 234678)) [] (dealer_wins by_ron (sou 8) (tenhou ∷ []))
    (Pinfu ∷ []) 1 30 Normal (Ron 1500)

-- not in an open hand
abbrev pub tenhou_open : Row
tenhou_open =
    yakuless (hand (mans 55 ++ pins 456 ++ sous 234678)) (chi (man 1) ∷ []) (dealer_wins by_tsumo (sou 8) (tenhou ∷ [])) 30 (DealerTsumo 300)

-- as agari has it, a closed kan does not take it away: the flag and a closed hand are all that is asked (docs/DIFFERENCES.md)
abbrev pub tenhou_closed_kan : Row
tenhou_closed_kan =
    scored (hand (pins 345678 ++ sous 67899)) (closed_kan (man 2) ∷ []) (dealer_wins by_tsumo (sou 8) (tenhou ∷ []))
    (Tenhou ∷ []) 13 40 (Yakuman 1) (DealerTsumo 16000)

-- ---- Chiihou: another seat's first draw
-- a closed tsumo of a non-dealer
abbrev pub chiihou_non_dealer : Row
chiihou_non_dealer =
    scored (hand (mans 12355 ++ pins 456 ++ sous 234678)) [] (south_wins by_tsumo (sou 8) (chiihou ∷ []))
    (Chiihou ∷ []) 13 20 (Yakuman 1) (Tsumo 16000 8000)

-- not for the dealer
abbrev pub chiihou_dealer : Row
chiihou_dealer =
    scored (hand (mans 12355 ++ pins 456 ++ sous 234678)) [] (dealer_wins by_tsumo (sou 8) (chiihou ∷ []))
    (MenzenTsumo ∷ Pinfu ∷ []) 2 20 Normal (DealerTsumo 700)

-- not by ron
abbrev pub chiihou_by_ron : Row
chiihou_by_ron =
    scored (hand (mans 12355 ++ pins 456 ++ sous 234678)) [] (south_wins by_ron (sou 8) (chiihou ∷ []))
    (Pinfu ∷ []) 1 30 Normal (Ron 1000)

-- not in an open hand
abbrev pub chiihou_open : Row
chiihou_open =
    yakuless (hand (mans 55 ++ pins 456 ++ sous 234678)) (chi (man 1) ∷ []) (south_wins by_tsumo (sou 8) (chiihou ∷ [])) 30 (Tsumo 300 200)

-- ---- KokushiMusou: thirteen orphans, one of each terminal and honor and one of them twice
-- by tsumo on a tile that is there once
abbrev pub kokushi_by_tsumo : Row
kokushi_by_tsumo =
    scored (hand (man 1 ∷ orphan_tiles)) [] (tsumo (man 9))
    (KokushiMusou ∷ []) 13 30 (Yakuman 1) (Tsumo 16000 8000)

-- not by twelve kinds, one of them three times: no reading
abbrev pub kokushi_twelve_kinds : Row
kokushi_twelve_kinds =
    won (hand (mans 111 ++ pins 19 ++ sous 19 ++ (East ∷ South ∷ West ∷ North ∷ White ∷ Green ∷ Red ∷ []))) [] (ron (pin 9)) [] (refuses 10)

-- not with a simple among them
abbrev pub kokushi_simple : Row
kokushi_simple =
    won (hand (mans 112 ++ pins 19 ++ sous 19 ++ (East ∷ South ∷ West ∷ North ∷ White ∷ Green ∷ Red ∷ []))) [] (ron (pin 9)) [] (refuses 10)

-- not by thirteen kinds of tile that are not all terminals and honors
abbrev pub kokushi_other_kinds : Row
kokushi_other_kinds =
    won (hand (mans 1123456789 ++ (East ∷ South ∷ West ∷ North ∷ []))) [] (ron (man 1)) [] (refuses 10)

-- ---- Suuankou: four triplets that are not called
-- the fourth by tsumo
abbrev pub suuankou_tsumo : Row
suuankou_tsumo =
    scored (hand (mans 111 ++ pins 333 ++ sous 555777 ++ (South ∷ South ∷ []))) [] (tsumo (sou 7))
    (Suuankou ∷ []) 13 50 (Yakuman 1) (Tsumo 16000 8000)

-- a closed kan counts
abbrev pub suuankou_closed_kan : Row
suuankou_closed_kan =
    scored (hand (pins 333 ++ sous 555777 ++ (South ∷ South ∷ []))) (closed_kan (man 1) ∷ []) (tsumo (sou 7))
    (Suuankou ∷ []) 13 70 (Yakuman 1) (Tsumo 16000 8000)

-- not with the fourth by ron, which counts as called
abbrev pub suuankou_ron : Row
suuankou_ron =
    scored (hand (mans 111 ++ pins 333 ++ sous 555777 ++ (West ∷ West ∷ []))) [] (ron (sou 7))
    (Toitoi ∷ SanAnkou ∷ []) 4 50 Mangan (Ron 8000)

-- not with one of them called
abbrev pub suuankou_pon : Row
suuankou_pon =
    scored (hand (pins 333 ++ sous 555777 ++ (South ∷ South ∷ []))) (pon (man 1) ∷ []) (tsumo (sou 7))
    (Toitoi ∷ SanAnkou ∷ []) 4 40 Mangan (Tsumo 4000 2000)

-- ---- Daisangen: a triplet or kan of each dragon
-- called or not
abbrev pub daisangen_pon : Row
daisangen_pon =
    scored (hand (mans 234 ++ pins 99 ++ (Green ∷ Green ∷ Green ∷ Red ∷ Red ∷ Red ∷ []))) (pon White ∷ []) (ron (man 4))
    (Daisangen ∷ []) 13 40 (Yakuman 1) (Ron 32000)

-- a kan counts
abbrev pub daisangen_kan : Row
daisangen_kan =
    scored (hand (mans 234 ++ pins 99 ++ (Green ∷ Green ∷ Green ∷ []))) (pon White ∷ added_kan Red ∷ []) (ron (man 4))
    (Daisangen ∷ []) 13 50 (Yakuman 1) (Ron 32000)

-- not where the third is only the pair: Shousangen
abbrev pub daisangen_pair : Row
daisangen_pair =
    scored (hand (mans 234 ++ pins 678 ++ (White ∷ White ∷ White ∷ Green ∷ Green ∷ []))) (pon Red ∷ []) (ron (pin 8))
    (yakuhai_name White ∷ yakuhai_name Red ∷ Shousangen ∷ []) 4 40 Mangan (Ron 8000)

-- ---- Shousuushii: three triplets or kans of winds and a pair of the fourth
-- the fourth meld is anything
abbrev pub shousuushii_pair : Row
shousuushii_pair =
    scored (hand (mans 234 ++ (South ∷ South ∷ South ∷ West ∷ West ∷ West ∷ North ∷ North ∷ []))) (pon East ∷ []) (ron (man 4))
    (Shousuushii ∷ []) 13 40 (Yakuman 1) (Ron 32000)

-- not with another pair
abbrev pub shousuushii_other_pair : Row
shousuushii_other_pair =
    scored (hand (mans 234 ++ pins 99 ++ (South ∷ South ∷ South ∷ West ∷ West ∷ West ∷ []))) (pon East ∷ []) (ron (man 4))
    (yakuhai_name East ∷ yakuhai_name South ∷ []) 2 40 Normal (Ron 2600)

-- ---- Daisuushii: a triplet or kan of each wind, counted twice
-- any pair
abbrev pub daisuushii_pon : Row
daisuushii_pon =
    scored (hand (pins 99 ++ (West ∷ West ∷ West ∷ North ∷ North ∷ North ∷ []))) (pon East ∷ pon South ∷ []) (ron (pin 9))
    (Daisuushii ∷ []) 26 50 (Yakuman 2) (Ron 64000)

-- not where the fourth is only the pair: Shousuushii
abbrev pub daisuushii_pair : Row
daisuushii_pair =
    scored (hand (pins 789 ++ (West ∷ West ∷ West ∷ North ∷ North ∷ []))) (pon East ∷ pon South ∷ []) (ron (pin 9))
    (Shousuushii ∷ []) 13 40 (Yakuman 1) (Ron 32000)

-- ---- Tsuuiisou: honors only
-- winds and dragons
abbrev pub tsuuiisou_open : Row
tsuuiisou_open =
    scored (hand (East ∷ East ∷ East ∷ South ∷ South ∷ South ∷ West ∷ West ∷ [])) (pon White ∷ pon Green ∷ []) (ron West)
    (Tsuuiisou ∷ []) 13 50 (Yakuman 1) (Ron 32000)

-- seven pairs of honors too, with 25 fu
abbrev pub tsuuiisou_pairs : Row
tsuuiisou_pairs =
    scored (hand (East ∷ East ∷ South ∷ South ∷ West ∷ West ∷ North ∷ North ∷ White ∷ White ∷ Green ∷ Green ∷ Red ∷ Red ∷ [])) [] (ron Red)
    (Tsuuiisou ∷ []) 13 25 (Yakuman 1) (Ron 32000)

-- not with a pair of terminals
abbrev pub tsuuiisou_terminals : Row
tsuuiisou_terminals =
    scored (hand (mans 99 ++ (East ∷ East ∷ East ∷ South ∷ South ∷ South ∷ []))) (pon White ∷ pon Green ∷ []) (ron (man 9))
    (yakuhai_name East ∷ yakuhai_name South ∷ yakuhai_name White ∷ yakuhai_name Green ∷ Toitoi ∷ Honroutou ∷ Honitsu ∷ []) 10 50 Baiman (Ron 16000)

-- ---- Chinroutou: terminals only
-- four triplets and a pair
abbrev pub chinroutou_open : Row
chinroutou_open =
    scored (hand (pins 11199 ++ sous 999)) (pon (man 1) ∷ pon (man 9) ∷ []) (ron (pin 9))
    (Chinroutou ∷ []) 13 50 (Yakuman 1) (Ron 32000)

-- not with a pair of honors
abbrev pub chinroutou_honors : Row
chinroutou_honors =
    scored (hand (pins 111 ++ sous 999 ++ (North ∷ North ∷ []))) (pon (man 1) ∷ pon (man 9) ∷ []) (ron North)
    (Toitoi ∷ Honroutou ∷ []) 4 50 Mangan (Ron 8000)

-- not with a sequence
abbrev pub chinroutou_sequence : Row
chinroutou_sequence =
    scored (hand (pins 12399 ++ sous 999)) (pon (man 1) ∷ pon (man 9) ∷ []) (ron (pin 9))
    (Junchan ∷ []) 2 40 Normal (Ron 2600)

-- ---- Ryuuiisou: sou 2, 3, 4, 6, 8 and Green only
-- with Green
abbrev pub ryuuiisou_closed : Row
ryuuiisou_closed =
    scored (hand (sous 223344666888 ++ (Green ∷ Green ∷ []))) [] (ron (sou 8))
    (Ryuuiisou ∷ []) 13 40 (Yakuman 1) (Ron 32000)

-- it needs no Green
abbrev pub ryuuiisou_no_green : Row
ryuuiisou_no_green =
    scored (hand (sous 33344466688)) (pon (sou 2) ∷ []) (ron (sou 8))
    (Ryuuiisou ∷ []) 13 40 (Yakuman 1) (Ron 32000)

-- not with sou 5
abbrev pub ryuuiisou_five : Row
ryuuiisou_five =
    scored (hand (sous 223344555888 ++ (Green ∷ Green ∷ []))) [] (ron (sou 8))
    (Iipeikou ∷ Honitsu ∷ []) 4 40 Mangan (Ron 8000)

-- not with Red
abbrev pub ryuuiisou_red : Row
ryuuiisou_red =
    scored (hand (sous 223344666888 ++ (Red ∷ Red ∷ []))) [] (ron (sou 8))
    (Iipeikou ∷ Honitsu ∷ []) 4 40 Mangan (Ron 8000)

-- ---- ChuurenPoutou: closed, of one suit 1112345678999 and one more tile
-- won on another tile than the one that is too many
abbrev pub chuuren_other : Row
chuuren_other =
    scored (hand (mans 11123455678999)) [] (ron (man 1))
    (ChuurenPoutou ∷ []) 13 50 (Yakuman 1) (Ron 32000)

-- not without a 2: Chinitsu
abbrev pub chuuren_without_two : Row
chuuren_without_two =
    scored (hand (mans 11134555678999)) [] (ron (man 5))
    (Chinitsu ∷ []) 6 50 Haneman (Ron 12000)

-- not with a called triplet
abbrev pub chuuren_open : Row
chuuren_open =
    scored (hand (mans 23455678999)) (pon (man 1) ∷ []) (ron (man 5))
    (Chinitsu ∷ []) 5 40 Mangan (Ron 8000)

-- nor with a closed kan
abbrev pub chuuren_kan : Row
chuuren_kan =
    scored (hand (mans 23455678999)) (closed_kan (man 1) ∷ []) (ron (man 5))
    (Chinitsu ∷ []) 6 80 Haneman (Ron 12000)

-- ---- SuuKantsu: four kans
-- of any sort
abbrev pub suu_kantsu_four : Row
suu_kantsu_four =
    scored (hand (sous 99)) (closed_kan (man 2) ∷ open_kan (pin 5) ∷ added_kan (sou 8) ∷ open_kan (pin 1) ∷ []) (ron (sou 9))
    (SuuKantsu ∷ []) 13 70 (Yakuman 1) (Ron 32000)

-- not by three kans and a triplet
abbrev pub suu_kantsu_three : Row
suu_kantsu_three =
    scored (hand (sous 99)) (closed_kan (man 2) ∷ open_kan (pin 5) ∷ added_kan (sou 8) ∷ pon (pin 1) ∷ []) (ron (sou 9))
    (Toitoi ∷ SanKantsu ∷ []) 4 60 Mangan (Ron 8000)

-- ---- Kokushi13Wait: thirteen orphans won on the tile that is there twice, counted twice
-- by ron on the second sou 9
abbrev pub kokushi_thirteen : Row
kokushi_thirteen =
    scored (hand (mans 19 ++ pins 19 ++ sous 199 ++ (East ∷ South ∷ West ∷ North ∷ White ∷ Green ∷ Red ∷ []))) [] (ron (sou 9))
    (Kokushi13Wait ∷ []) 26 30 (Yakuman 2) (Ron 64000)

-- by the dealer's tsumo on the second man 1
abbrev pub kokushi_thirteen_dealer : Row
kokushi_thirteen_dealer =
    scored (hand (man 1 ∷ orphan_tiles)) [] (dealer_wins by_tsumo (man 1) [])
    (Kokushi13Wait ∷ []) 26 30 (Yakuman 2) (DealerTsumo 32000)

-- not on another tile: KokushiMusou
abbrev pub kokushi_one_wait : Row
kokushi_one_wait =
    scored (hand (man 1 ∷ orphan_tiles)) [] (ron Red)
    (KokushiMusou ∷ []) 13 30 (Yakuman 1) (Ron 32000)

-- ---- SuuankouTanki: four concealed triplets, won on the pair, counted twice
-- by ron too
abbrev pub suuankou_tanki_ron : Row
suuankou_tanki_ron =
    scored (hand (mans 111 ++ pins 333 ++ sous 555777 ++ (South ∷ South ∷ []))) [] (ron South)
    (SuuankouTanki ∷ []) 26 60 (Yakuman 2) (Ron 64000)

-- by tsumo
abbrev pub suuankou_tanki_tsumo : Row
suuankou_tanki_tsumo =
    scored (hand (mans 111 ++ pins 333 ++ sous 555777 ++ (South ∷ South ∷ []))) [] (tsumo South)
    (SuuankouTanki ∷ []) 26 50 (Yakuman 2) (Tsumo 32000 16000)

-- not by tsumo on a triplet: Suuankou
abbrev pub suuankou_on_triplet : Row
suuankou_on_triplet =
    scored (hand (mans 111 ++ pins 333 ++ sous 555777 ++ (South ∷ South ∷ []))) [] (tsumo (man 1))
    (Suuankou ∷ []) 13 50 (Yakuman 1) (Tsumo 16000 8000)

-- ---- JunseiChuurenPoutou: nine gates won on the tile that is too many, counted twice
-- the second 5
abbrev pub junsei_five : Row
junsei_five =
    scored (hand (mans 11123455678999)) [] (ron (man 5))
    (JunseiChuurenPoutou ∷ []) 26 50 (Yakuman 2) (Ron 64000)

-- not on a 9, while it is the 5 that is too many
abbrev pub junsei_nine : Row
junsei_nine =
    scored (hand (mans 11123455678999)) [] (ron (man 9))
    (ChuurenPoutou ∷ []) 13 50 (Yakuman 1) (Ron 32000)

-- ---- Several at once add up
-- winds and honors
abbrev pub winds_and_honors : Row
winds_and_honors =
    scored (hand (West ∷ West ∷ West ∷ North ∷ North ∷ North ∷ White ∷ White ∷ [])) (pon East ∷ pon South ∷ []) (ron White)
    (Daisuushii ∷ Tsuuiisou ∷ []) 39 50 (Yakuman 3) (Ron 96000)

-- concealed and won on the pair
abbrev pub winds_concealed : Row
winds_concealed =
    scored (hand (East ∷ East ∷ East ∷ South ∷ South ∷ South ∷ West ∷ West ∷ West ∷ North ∷ North ∷ North ∷ White ∷ White ∷ [])) [] (ron White)
    (Daisuushii ∷ Tsuuiisou ∷ SuuankouTanki ∷ []) 65 70 (Yakuman 5) (Ron 160000)

-- as four closed kans, for another seat and for the dealer
abbrev pub winds_four_kans : Row
winds_four_kans =
    scored (hand (White ∷ White ∷ [])) (closed_kan East ∷ closed_kan South ∷ closed_kan West ∷ closed_kan North ∷ []) (ron White)
    (Daisuushii ∷ Tsuuiisou ∷ SuuKantsu ∷ SuuankouTanki ∷ []) 78 170 (Yakuman 6) (Ron 192000)

abbrev pub winds_four_kans_dealer : Row
winds_four_kans_dealer =
    scored (hand (White ∷ White ∷ [])) (closed_kan East ∷ closed_kan South ∷ closed_kan West ∷ closed_kan North ∷ []) (dealer_wins by_ron White [])
    (Daisuushii ∷ Tsuuiisou ∷ SuuKantsu ∷ SuuankouTanki ∷ []) 78 170 (Yakuman 6) (Ron 288000)

-- ---- A yakuman leaves every other yaku out
-- Riichi, Ippatsu and MenzenTsumo do not count beside one
abbrev pub yakuman_with_riichi : Row
yakuman_with_riichi =
    scored (hand (mans 111 ++ pins 333 ++ sous 555777 ++ (South ∷ South ∷ []))) [] (south_wins by_tsumo (sou 7) (riichi ∷ ippatsu ∷ []))
    (Suuankou ∷ []) 13 50 (Yakuman 1) (Tsumo 16000 8000)

-- Chiitoitsu does not either, and its 25 fu stay
abbrev pub yakuman_with_pairs : Row
yakuman_with_pairs =
    scored (hand (East ∷ East ∷ South ∷ South ∷ West ∷ West ∷ North ∷ North ∷ White ∷ White ∷ Green ∷ Green ∷ Red ∷ Red ∷ [])) [] (south_wins by_tsumo Red (riichi ∷ []))
    (Tsuuiisou ∷ []) 13 25 (Yakuman 1) (Tsumo 16000 8000)
