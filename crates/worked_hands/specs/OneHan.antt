-- The yaku of one han, by worked hands: for each one that has it, and near misses that have it not. The winner is seat South in the round East, if
-- nothing else is said. These are definitions.
use Rattle.std.specs.Prelude.{[], ◌∷◌, ◌++◌}
use Rattle.tile.specs.Named.{man, pin, sou, East, South, West, North, White, Green, Red, mans, pins, sous}
use Rattle.meld.specs.Named.{chi, pon, closed_kan, open_kan, from_right, from_across}
use Rattle.context.specs.Named.{by_ron, by_tsumo, riichi, ippatsu, rinshan, chankan, lastTile, win, south_wins, dealer_wins, ron, tsumo}
use Rattle.hand.specs.Named.{hand}
use Rattle.yaku.specs.declared.names.Yaku.TheVariants.{Riichi, Ippatsu, MenzenTsumo, Tanyao, Pinfu, Iipeikou, RinshanKaihou, Chankan, HaiteiRaoyue, HouteiRaoyui}
use Rattle.yaku.specs.Names.{yakuhai_name}
use Rattle.scoring.specs.declared.ScoreLevel.TheVariants.{Normal}
use Rattle.scoring.specs.declared.Payment.TheVariants.{Ron, Tsumo}
use Rattle.played.specs.Row.{Row, scored, yakuless}

-- ---- Riichi: 1 han, closed hands only
-- a closed hand that was declared ready
abbrev pub riichi_closed : Row
riichi_closed =
    scored (hand (mans 123456 ++ pins 789 ++ sous 22555)) [] (south_wins by_ron (sou 5) (riichi ∷ []))
    (Riichi ∷ []) 1 40 Normal (Ron 1300)

-- a closed kan leaves the hand closed
abbrev pub riichi_with_closed_kan : Row
riichi_with_closed_kan =
    scored (hand (pins 123567 ++ sous 44678)) (closed_kan (man 5) ∷ []) (south_wins by_ron (sou 8) (riichi ∷ []))
    (Riichi ∷ []) 1 50 Normal (Ron 1600)

-- not in a hand with a called sequence: then it has no yaku, which is refused with 11
abbrev pub riichi_open : Row
riichi_open =
    yakuless (hand (mans 55 ++ pins 456 ++ sous 234678)) (chi (man 1) ∷ []) (south_wins by_ron (sou 8) (riichi ∷ [])) 30 (Ron 500)

-- not where it was not declared
abbrev pub riichi_not_declared : Row
riichi_not_declared =
    yakuless (hand (mans 123456 ++ pins 789 ++ sous 22555)) [] (ron (sou 5)) 40 (Ron 700)

-- ---- Ippatsu: 1 han, within one turn of Riichi
-- Ippatsu counts beside Riichi
abbrev pub ippatsu_after_riichi : Row
ippatsu_after_riichi =
    scored (hand (mans 123456 ++ pins 789 ++ sous 22555)) [] (south_wins by_ron (sou 5) (riichi ∷ ippatsu ∷ []))
    (Riichi ∷ Ippatsu ∷ []) 2 40 Normal (Ron 2600)

-- not without Riichi
abbrev pub ippatsu_without_riichi : Row
ippatsu_without_riichi =
    yakuless (hand (mans 123456 ++ pins 789 ++ sous 22555)) [] (south_wins by_ron (sou 5) (ippatsu ∷ [])) 40 (Ron 700)

-- not on the tile drawn after a kan: the kan has broken Ippatsu
abbrev pub ippatsu_after_kan : Row
ippatsu_after_kan =
    scored (hand (pins 345678 ++ sous 67899)) (closed_kan (man 2) ∷ []) (south_wins by_tsumo (sou 8) (riichi ∷ ippatsu ∷ rinshan ∷ []))
    (Riichi ∷ MenzenTsumo ∷ RinshanKaihou ∷ []) 3 40 Normal (Tsumo 2600 1300)

-- ---- MenzenTsumo: 1 han, a closed hand won by the own draw
-- the own draw completes a closed hand
abbrev pub tsumo_closed : Row
tsumo_closed =
    scored (hand (mans 123456 ++ pins 789 ++ sous 22555)) [] (tsumo (sou 5))
    (MenzenTsumo ∷ []) 1 30 Normal (Tsumo 500 300)

-- a closed kan leaves the hand closed
abbrev pub tsumo_with_closed_kan : Row
tsumo_with_closed_kan =
    scored (hand (pins 345678 ++ sous 67899)) (closed_kan (man 2) ∷ []) (tsumo (sou 8))
    (MenzenTsumo ∷ []) 1 40 Normal (Tsumo 700 400)

-- not in an open hand
abbrev pub tsumo_open : Row
tsumo_open =
    yakuless (hand (mans 55 ++ pins 456 ++ sous 234678)) (chi (man 1) ∷ []) (tsumo (sou 8)) 30 (Tsumo 300 200)

-- ---- Tanyao: 1 han, open or closed, tiles 2 to 8 only
-- no terminal and no honor
abbrev pub tanyao_closed : Row
tanyao_closed =
    scored (hand (mans 234567 ++ pins 345 ++ sous 22456)) [] (ron (sou 5))
    (Tanyao ∷ []) 1 40 Normal (Ron 1300)

-- open hands have it too
abbrev pub tanyao_open : Row
tanyao_open =
    scored (hand (mans 678 ++ sous 22567)) (chi (man 2) ∷ pon (pin 4) ∷ []) (ron (sou 7))
    (Tanyao ∷ []) 1 30 Normal (Ron 1000)

-- not with the 9 of 789, a terminal
abbrev pub tanyao_terminal : Row
tanyao_terminal =
    yakuless (hand (mans 234567 ++ pins 345 ++ sous 22789)) [] (ron (sou 8)) 40 (Ron 700)

-- not with the 1 of a called 123
abbrev pub tanyao_terminal_called : Row
tanyao_terminal_called =
    yakuless (hand (mans 678 ++ pins 345 ++ sous 22567)) (chi (man 1) ∷ []) (ron (sou 7)) 30 (Ron 500)

-- not with a pair of honors
abbrev pub tanyao_honor_pair : Row
tanyao_honor_pair =
    yakuless (hand (mans 234567 ++ pins 345 ++ sous 456 ++ (North ∷ North ∷ []))) [] (ron (sou 5)) 40 (Ron 700)

-- ---- Pinfu: 1 han, closed, four sequences, a pair that is no yakuhai, won by a two-sided wait (Ryanmen)
-- West is neither round nor seat wind, and 3 or 6 completes 45
abbrev pub pinfu_other_wind : Row
pinfu_other_wind =
    scored (hand (mans 123456 ++ pins 789 ++ sous 345 ++ (West ∷ West ∷ []))) [] (ron (sou 3))
    (Pinfu ∷ []) 1 30 Normal (Ron 1000)

-- by tsumo MenzenTsumo counts too, and it has 20 fu
abbrev pub pinfu_other_wind_tsumo : Row
pinfu_other_wind_tsumo =
    scored (hand (mans 123456 ++ pins 789 ++ sous 345 ++ (West ∷ West ∷ []))) [] (tsumo (sou 3))
    (MenzenTsumo ∷ Pinfu ∷ []) 2 20 Normal (Tsumo 700 400)

-- not with a pair of the seat wind
abbrev pub pinfu_seat_wind : Row
pinfu_seat_wind =
    yakuless (hand (mans 123456 ++ pins 789 ++ sous 345 ++ (South ∷ South ∷ []))) [] (ron (sou 3)) 40 (Ron 700)

-- not with a pair of the round wind
abbrev pub pinfu_round_wind : Row
pinfu_round_wind =
    yakuless (hand (mans 123456 ++ pins 789 ++ sous 345 ++ (East ∷ East ∷ []))) [] (ron (sou 3)) 40 (Ron 700)

-- not with a pair of dragons
abbrev pub pinfu_dragon_pair : Row
pinfu_dragon_pair =
    yakuless (hand (mans 123456 ++ pins 789 ++ sous 345 ++ (White ∷ White ∷ []))) [] (ron (sou 3)) 40 (Ron 700)

-- not won in the middle of 345
abbrev pub pinfu_middle : Row
pinfu_middle =
    yakuless (hand (mans 123456 ++ pins 789 ++ sous 345 ++ (West ∷ West ∷ []))) [] (ron (sou 4)) 40 (Ron 700)

-- not won on the 7 of 789, for which 8 and 9 wait alone
abbrev pub pinfu_edge : Row
pinfu_edge =
    yakuless (hand (mans 123456 ++ pins 789 ++ sous 345 ++ (West ∷ West ∷ []))) [] (ron (pin 7)) 40 (Ron 700)

-- not won on the 3 of 123, for which 1 and 2 wait alone
abbrev pub pinfu_low_edge : Row
pinfu_low_edge =
    yakuless (hand (mans 123567 ++ pins 789 ++ sous 345 ++ (West ∷ West ∷ []))) [] (ron (man 3)) 40 (Ron 700)

-- not won on the pair
abbrev pub pinfu_pair_wait : Row
pinfu_pair_wait =
    yakuless (hand (mans 123456 ++ pins 789 ++ sous 345 ++ (West ∷ West ∷ []))) [] (ron West) 40 (Ron 700)

-- not with a triplet
abbrev pub pinfu_triplet : Row
pinfu_triplet =
    yakuless (hand (mans 123456 ++ pins 789 ++ sous 22555)) [] (ron (man 6)) 40 (Ron 700)

-- not with a called sequence
abbrev pub pinfu_open : Row
pinfu_open =
    yakuless (hand (mans 456 ++ pins 789 ++ sous 345 ++ (West ∷ West ∷ []))) (chi (man 1) ∷ []) (ron (sou 3)) 30 (Ron 500)

-- the tile stands at an edge of 123 and at two sides of 345: one such way suffices
abbrev pub pinfu_edge_or_sides : Row
pinfu_edge_or_sides =
    scored (hand (mans 123345 ++ pins 456678 ++ sous 99)) [] (ron (man 3))
    (Pinfu ∷ []) 1 30 Normal (Ron 1000)

-- the tile stands in the pair and at two sides of 234
abbrev pub pinfu_pair_or_sides : Row
pinfu_pair_or_sides =
    scored (hand (mans 22234 ++ pins 566778 ++ sous 345)) [] (ron (man 2))
    (Tanyao ∷ Pinfu ∷ []) 2 30 Normal (Ron 2000)

-- ---- Iipeikou: 1 han, closed, two equal sequences
-- man 123 twice
abbrev pub iipeikou_twice : Row
iipeikou_twice =
    scored (hand (mans 112233 ++ pins 456 ++ sous 67899)) [] (ron (sou 7))
    (Iipeikou ∷ []) 1 40 Normal (Ron 1300)

-- a closed kan leaves the hand closed
abbrev pub iipeikou_with_closed_kan : Row
iipeikou_with_closed_kan =
    scored (hand (mans 112233 ++ sous 67899)) (closed_kan (pin 5) ∷ []) (ron (sou 7))
    (Iipeikou ∷ []) 1 50 Normal (Ron 1600)

-- not in an open hand
abbrev pub iipeikou_open : Row
iipeikou_open =
    yakuless (hand (mans 112233 ++ sous 67899)) (chi (pin 4) ∷ []) (ron (sou 7)) 30 (Ron 500)

-- not by the same numbers in two suits
abbrev pub iipeikou_two_suits : Row
iipeikou_two_suits =
    yakuless (hand (mans 123 ++ pins 123456 ++ sous 67899)) [] (ron (sou 7)) 40 (Ron 700)

-- ---- Yakuhai: 1 han, a triplet or kan of dragons, of the round wind or of the seat wind, one for each
-- East in the round East
abbrev pub yakuhai_round_east : Row
yakuhai_round_east =
    scored (hand (mans 234 ++ pins 567 ++ sous 67899)) (pon East ∷ []) (ron (sou 8))
    (yakuhai_name East ∷ []) 1 30 Normal (Ron 1000)

-- not East in the round South for the seat South
abbrev pub yakuhai_east_elsewhere : Row
yakuhai_east_elsewhere =
    yakuless (hand (mans 234 ++ pins 567 ++ sous 67899)) (pon East ∷ []) (win by_ron (sou 8) South South []) 30 (Ron 500)

-- South for the seat South
abbrev pub yakuhai_seat_south : Row
yakuhai_seat_south =
    scored (hand (mans 234 ++ pins 567 ++ sous 67899)) (pon South ∷ []) (ron (sou 8))
    (yakuhai_name South ∷ []) 1 30 Normal (Ron 1000)

-- South in the round South
abbrev pub yakuhai_round_south : Row
yakuhai_round_south =
    scored (hand (mans 234 ++ pins 567 ++ sous 67899)) (pon South ∷ []) (win by_ron (sou 8) South West [])
    (yakuhai_name South ∷ []) 1 30 Normal (Ron 1000)

-- not South for the seat West in the round East
abbrev pub yakuhai_south_elsewhere : Row
yakuhai_south_elsewhere =
    yakuless (hand (mans 234 ++ pins 567 ++ sous 67899)) (pon South ∷ []) (win by_ron (sou 8) East West []) 30 (Ron 500)

-- West for the seat West
abbrev pub yakuhai_seat_west : Row
yakuhai_seat_west =
    scored (hand (mans 234 ++ pins 567 ++ sous 67899)) (pon West ∷ []) (win by_ron (sou 8) East West [])
    (yakuhai_name West ∷ []) 1 30 Normal (Ron 1000)

-- West in the round West
abbrev pub yakuhai_round_west : Row
yakuhai_round_west =
    scored (hand (mans 234 ++ pins 567 ++ sous 67899)) (pon West ∷ []) (win by_ron (sou 8) West South [])
    (yakuhai_name West ∷ []) 1 30 Normal (Ron 1000)

-- not West for the seat South in the round East
abbrev pub yakuhai_west_elsewhere : Row
yakuhai_west_elsewhere =
    yakuless (hand (mans 234 ++ pins 567 ++ sous 67899)) (pon West ∷ []) (ron (sou 8)) 30 (Ron 500)

-- North for the seat North
abbrev pub yakuhai_seat_north : Row
yakuhai_seat_north =
    scored (hand (mans 234 ++ pins 567 ++ sous 67899)) (pon North ∷ []) (win by_ron (sou 8) East North [])
    (yakuhai_name North ∷ []) 1 30 Normal (Ron 1000)

-- North in the round North
abbrev pub yakuhai_round_north : Row
yakuhai_round_north =
    scored (hand (mans 234 ++ pins 567 ++ sous 67899)) (pon North ∷ []) (win by_ron (sou 8) North South [])
    (yakuhai_name North ∷ []) 1 30 Normal (Ron 1000)

-- not North for the seat South in the round East
abbrev pub yakuhai_north_elsewhere : Row
yakuhai_north_elsewhere =
    yakuless (hand (mans 234 ++ pins 567 ++ sous 67899)) (pon North ∷ []) (ron (sou 8)) 30 (Ron 500)

-- a wind that is round wind and seat wind counts twice: East for the dealer in the round East
abbrev pub yakuhai_east_twice : Row
yakuhai_east_twice =
    scored (hand (mans 234 ++ pins 567 ++ sous 67899)) (pon East ∷ []) (dealer_wins by_ron (sou 8) [])
    (yakuhai_name East ∷ yakuhai_name East ∷ []) 2 30 Normal (Ron 2900)

-- South for the seat South in the round South
abbrev pub yakuhai_south_twice : Row
yakuhai_south_twice =
    scored (hand (mans 234 ++ pins 567 ++ sous 67899)) (pon South ∷ []) (win by_ron (sou 8) South South [])
    (yakuhai_name South ∷ yakuhai_name South ∷ []) 2 30 Normal (Ron 2000)

-- West for the seat West in the round West
abbrev pub yakuhai_west_twice : Row
yakuhai_west_twice =
    scored (hand (mans 234 ++ pins 567 ++ sous 67899)) (pon West ∷ []) (win by_ron (sou 8) West West [])
    (yakuhai_name West ∷ yakuhai_name West ∷ []) 2 30 Normal (Ron 2000)

-- North for the seat North in the round North
abbrev pub yakuhai_north_twice : Row
yakuhai_north_twice =
    scored (hand (mans 234 ++ pins 567 ++ sous 67899)) (pon North ∷ []) (win by_ron (sou 8) North North [])
    (yakuhai_name North ∷ yakuhai_name North ∷ []) 2 30 Normal (Ron 2000)

-- White, called
abbrev pub yakuhai_white : Row
yakuhai_white =
    scored (hand (mans 234 ++ pins 567 ++ sous 67899)) (pon White ∷ []) (ron (sou 8))
    (yakuhai_name White ∷ []) 1 30 Normal (Ron 1000)

-- the same from the player across, and from the one on the right
abbrev pub yakuhai_white_across : Row
yakuhai_white_across =
    scored (hand (mans 234 ++ pins 567 ++ sous 67899)) (from_across (pon White) ∷ []) (ron (sou 8))
    (yakuhai_name White ∷ []) 1 30 Normal (Ron 1000)

abbrev pub yakuhai_white_right : Row
yakuhai_white_right =
    scored (hand (mans 234 ++ pins 567 ++ sous 67899)) (from_right (pon White) ∷ []) (ron (sou 8))
    (yakuhai_name White ∷ []) 1 30 Normal (Ron 1000)

-- Green, called
abbrev pub yakuhai_green : Row
yakuhai_green =
    scored (hand (mans 234 ++ pins 567 ++ sous 67899)) (pon Green ∷ []) (ron (sou 8))
    (yakuhai_name Green ∷ []) 1 30 Normal (Ron 1000)

-- Red, called
abbrev pub yakuhai_red : Row
yakuhai_red =
    scored (hand (mans 234 ++ pins 567 ++ sous 67899)) (pon Red ∷ []) (ron (sou 8))
    (yakuhai_name Red ∷ []) 1 30 Normal (Ron 1000)

-- Green in the hand
abbrev pub yakuhai_closed_triplet : Row
yakuhai_closed_triplet =
    scored (hand (mans 234 ++ pins 567 ++ sous 67899 ++ (Green ∷ Green ∷ Green ∷ []))) [] (ron (sou 8))
    (yakuhai_name Green ∷ []) 1 40 Normal (Ron 1300)

-- Red as a kan
abbrev pub yakuhai_kan : Row
yakuhai_kan =
    scored (hand (mans 234 ++ pins 567 ++ sous 67899)) (closed_kan Red ∷ []) (ron (sou 8))
    (yakuhai_name Red ∷ []) 1 70 Normal (Ron 2300)

-- not for a pair of White, of Green or of Red
abbrev pub yakuhai_white_pair : Row
yakuhai_white_pair =
    yakuless (hand (pins 456 ++ sous 234678 ++ (White ∷ White ∷ []))) (chi (man 1) ∷ []) (ron (sou 8)) 30 (Ron 500)

abbrev pub yakuhai_green_pair : Row
yakuhai_green_pair =
    yakuless (hand (pins 456 ++ sous 234678 ++ (Green ∷ Green ∷ []))) (chi (man 1) ∷ []) (ron (sou 8)) 30 (Ron 500)

abbrev pub yakuhai_red_pair : Row
yakuhai_red_pair =
    yakuless (hand (pins 456 ++ sous 234678 ++ (Red ∷ Red ∷ []))) (chi (man 1) ∷ []) (ron (sou 8)) 30 (Ron 500)

-- ---- RinshanKaihou: 1 han, won on the tile drawn after an own kan
-- beside MenzenTsumo where the kan is closed
abbrev pub rinshan_closed : Row
rinshan_closed =
    scored (hand (pins 345678 ++ sous 67899)) (closed_kan (man 2) ∷ []) (south_wins by_tsumo (sou 8) (rinshan ∷ []))
    (MenzenTsumo ∷ RinshanKaihou ∷ []) 2 40 Normal (Tsumo 1300 700)

-- alone where it is open; it needs no other yaku
abbrev pub rinshan_open : Row
rinshan_open =
    scored (hand (pins 345678 ++ sous 67899)) (open_kan (man 2) ∷ []) (south_wins by_tsumo (sou 8) (rinshan ∷ []))
    (RinshanKaihou ∷ []) 1 30 Normal (Tsumo 500 300)

-- not by ron
abbrev pub rinshan_by_ron : Row
rinshan_by_ron =
    yakuless (hand (pins 345678 ++ sous 67899)) (open_kan (man 2) ∷ []) (south_wins by_ron (sou 8) (rinshan ∷ [])) 30 (Ron 500)

-- ---- Chankan: 1 han, ron on the tile that another player adds to a triplet
-- it needs no other yaku
abbrev pub chankan_alone : Row
chankan_alone =
    scored (hand (mans 55 ++ pins 456 ++ sous 234678)) (chi (man 1) ∷ []) (south_wins by_ron (sou 8) (chankan ∷ []))
    (Chankan ∷ []) 1 30 Normal (Ron 1000)

-- beside Pinfu
abbrev pub chankan_closed : Row
chankan_closed =
    scored (hand (mans 12355 ++ pins 456 ++ sous 234678)) [] (south_wins by_ron (sou 8) (chankan ∷ []))
    (Pinfu ∷ Chankan ∷ []) 2 30 Normal (Ron 2000)

-- not by tsumo
abbrev pub chankan_by_tsumo : Row
chankan_by_tsumo =
    yakuless (hand (mans 55 ++ pins 456 ++ sous 234678)) (chi (man 1) ∷ []) (south_wins by_tsumo (sou 8) (chankan ∷ [])) 30 (Tsumo 300 200)

-- ---- HaiteiRaoyue: 1 han, tsumo on the last tile of the wall
-- it needs no other yaku
abbrev pub haitei_alone : Row
haitei_alone =
    scored (hand (mans 55 ++ pins 456 ++ sous 234678)) (chi (man 1) ∷ []) (south_wins by_tsumo (sou 8) (lastTile ∷ []))
    (HaiteiRaoyue ∷ []) 1 30 Normal (Tsumo 500 300)

-- beside others
abbrev pub haitei_closed : Row
haitei_closed =
    scored (hand (mans 12355 ++ pins 456 ++ sous 234678)) [] (south_wins by_tsumo (sou 8) (lastTile ∷ []))
    (MenzenTsumo ∷ Pinfu ∷ HaiteiRaoyue ∷ []) 3 20 Normal (Tsumo 1300 700)

-- not on the tile drawn after a kan, which is never the last of the wall
abbrev pub haitei_after_kan : Row
haitei_after_kan =
    scored (hand (pins 345678 ++ sous 67899)) (open_kan (man 2) ∷ []) (south_wins by_tsumo (sou 8) (rinshan ∷ lastTile ∷ []))
    (RinshanKaihou ∷ []) 1 30 Normal (Tsumo 500 300)

-- ---- HouteiRaoyui: 1 han, ron on the last discard
-- by ron it is this one and not HaiteiRaoyue
abbrev pub houtei_alone : Row
houtei_alone =
    scored (hand (mans 55 ++ pins 456 ++ sous 234678)) (chi (man 1) ∷ []) (south_wins by_ron (sou 8) (lastTile ∷ []))
    (HouteiRaoyui ∷ []) 1 30 Normal (Ron 1000)

-- beside Pinfu
abbrev pub houtei_closed : Row
houtei_closed =
    scored (hand (mans 12355 ++ pins 456 ++ sous 234678)) [] (south_wins by_ron (sou 8) (lastTile ∷ []))
    (Pinfu ∷ HouteiRaoyui ∷ []) 2 30 Normal (Ron 2000)

-- beside Chankan: both count
abbrev pub houtei_and_chankan : Row
houtei_and_chankan =
    scored (hand (mans 55 ++ pins 456 ++ sous 234678)) (chi (man 1) ∷ []) (south_wins by_ron (sou 8) (chankan ∷ lastTile ∷ []))
    (Chankan ∷ HouteiRaoyui ∷ []) 2 30 Normal (Ron 2000)

-- not on an earlier discard
abbrev pub houtei_earlier : Row
houtei_earlier =
    yakuless (hand (mans 99 ++ pins 234567 ++ sous 345)) (pon (sou 5) ∷ []) (ron (sou 3)) 30 (Ron 500)
