-- Hands with several readings, the choice among them, and waits, by worked hands. The winner is seat South in the round East, if nothing else is
-- said. These are definitions.
use Rattle.std.specs.Prelude.{[], ◌∷◌, ◌++◌}
use Rattle.tile.specs.Named.{man, pin, sou, East, South, West, North, White, Green, Red, mans, pins, sous, orphan_tiles}
use Rattle.meld.specs.Named.{chi, pon, closed_kan, added_kan}
use Rattle.context.specs.Named.{by_ron, riichi, ippatsu, south_wins, dealer_wins, ron, tsumo}
use Rattle.hand.specs.Named.{hand}
use Rattle.yaku.specs.declared.names.Yaku.TheVariants.{Riichi, Ippatsu, MenzenTsumo, Tanyao, Pinfu, Iipeikou, Chiitoitsu, SanAnkou, Ryanpeikou, Chinitsu, Suuankou, Ryuuiisou}
use Rattle.yaku.specs.Names.{yakuhai_name}
use Rattle.scoring.specs.declared.ScoreLevel.TheVariants.{Normal, Mangan, Haneman, Baiman, Sanbaiman, Yakuman}
use Rattle.scoring.specs.declared.Payment.TheVariants.{Ron, Tsumo}
use Rattle.played.specs.Row.{Ryanmen, Kanchan, Penchan, Shanpon, Tanki, Kokushi13, Row, won, waiting, worth, refuses, chooses, scored}

-- ---- The reading with a yaku that pays most is chosen; of equal totals a yakuman before none, then more han, more fu, the earlier record
-- three sequences or three triplets: the triplets pay more
abbrev pub choice_triplets : Row
choice_triplets =
    won (hand (mans 111222333 ++ pins 456 ++ sous 99)) [] (ron (sou 9))
    (worth (Iipeikou ∷ []) 1 40 Normal (Ron 1300)
    ∷ worth (SanAnkou ∷ []) 2 50 Normal (Ron 3200)
    ∷ [])
    (chooses 1)

-- seven pairs come first in the list; the sequences pay more, by the dealer too
abbrev pub choice_pairs_dealer : Row
choice_pairs_dealer =
    won (hand (mans 223344 ++ pins 667788 ++ sous 55)) [] (dealer_wins by_ron (man 4) [])
    (worth (Tanyao ∷ Chiitoitsu ∷ []) 3 25 Normal (Ron 4800)
    ∷ worth (Tanyao ∷ Pinfu ∷ Ryanpeikou ∷ []) 5 30 Mangan (Ron 12000)
    ∷ [])
    (chooses 1)

-- of equal totals more han: both are a baiman
abbrev pub choice_more_han : Row
choice_more_han =
    won (hand (mans 11223355778899)) [] (ron (man 9))
    (worth (Chiitoitsu ∷ Chinitsu ∷ []) 8 25 Baiman (Ron 16000)
    ∷ worth (Pinfu ∷ Ryanpeikou ∷ Chinitsu ∷ []) 10 30 Baiman (Ron 16000)
    ∷ [])
    (chooses 1)

-- of equal totals and han more fu
abbrev pub choice_more_fu : Row
choice_more_fu =
    won (hand (mans 66677778888999)) [] (ron (man 9))
    (worth (Pinfu ∷ Iipeikou ∷ Chinitsu ∷ []) 8 30 Baiman (Ron 16000)
    ∷ worth (Chinitsu ∷ []) 6 50 Haneman (Ron 12000)
    ∷ worth (Pinfu ∷ Iipeikou ∷ Chinitsu ∷ []) 8 30 Baiman (Ron 16000)
    ∷ worth (SanAnkou ∷ Chinitsu ∷ []) 8 50 Baiman (Ron 16000)
    ∷ [])
    (chooses 3)

-- of readings alike in all of that the earlier one
abbrev pub choice_earlier : Row
choice_earlier =
    won (hand (mans 22334455667788)) [] (ron (man 8))
    (worth (Tanyao ∷ Chiitoitsu ∷ Chinitsu ∷ []) 9 25 Baiman (Ron 16000)
    ∷ worth (Tanyao ∷ Pinfu ∷ Ryanpeikou ∷ Chinitsu ∷ []) 11 30 Sanbaiman (Ron 24000)
    ∷ worth (Tanyao ∷ Pinfu ∷ Ryanpeikou ∷ Chinitsu ∷ []) 11 30 Sanbaiman (Ron 24000)
    ∷ worth (Tanyao ∷ Ryanpeikou ∷ Chinitsu ∷ []) 10 40 Baiman (Ron 16000)
    ∷ [])
    (chooses 1)

-- the same as a counted yakuman
abbrev pub choice_counted : Row
choice_counted =
    won (hand (mans 22334455667788)) [] (south_wins by_ron (man 8) (riichi ∷ ippatsu ∷ []))
    (worth (Riichi ∷ Ippatsu ∷ Tanyao ∷ Chiitoitsu ∷ Chinitsu ∷ []) 11 25 Sanbaiman (Ron 24000)
    ∷ worth (Riichi ∷ Ippatsu ∷ Tanyao ∷ Pinfu ∷ Ryanpeikou ∷ Chinitsu ∷ []) 13 30 (Yakuman 1) (Ron 32000)
    ∷ worth (Riichi ∷ Ippatsu ∷ Tanyao ∷ Pinfu ∷ Ryanpeikou ∷ Chinitsu ∷ []) 13 30 (Yakuman 1) (Ron 32000)
    ∷ worth (Riichi ∷ Ippatsu ∷ Tanyao ∷ Ryanpeikou ∷ Chinitsu ∷ []) 12 40 Sanbaiman (Ron 24000)
    ∷ [])
    (chooses 1)

-- both readings are a yakuman; as triplets it counts twice
abbrev pub choice_yakuman : Row
choice_yakuman =
    won (hand (sous 222333444666 ++ (Green ∷ Green ∷ []))) [] (tsumo (sou 6))
    (worth (Ryuuiisou ∷ []) 13 30 (Yakuman 1) (Tsumo 16000 8000)
    ∷ worth (Suuankou ∷ Ryuuiisou ∷ []) 26 40 (Yakuman 2) (Tsumo 32000 16000)
    ∷ [])
    (chooses 1)

-- as triplets it is a yakuman, as sequences it is none
abbrev pub choice_yakuman_or_none : Row
choice_yakuman_or_none =
    won (hand (mans 222333444 ++ pins 666 ++ sous 88)) [] (tsumo (pin 6))
    (worth (MenzenTsumo ∷ Tanyao ∷ Iipeikou ∷ []) 3 30 Normal (Tsumo 2000 1000)
    ∷ worth (Suuankou ∷ []) 13 40 (Yakuman 1) (Tsumo 16000 8000)
    ∷ [])
    (chooses 1)

-- the reading without a yaku is never chosen, though listed
abbrev pub choice_with_yaku : Row
choice_with_yaku =
    won (hand (mans 111222333 ++ pins 99)) (chi (sou 4) ∷ []) (ron (pin 9))
    (worth [] 0 30 Normal (Ron 500)
    ∷ worth (SanAnkou ∷ []) 2 40 Normal (Ron 2600)
    ∷ [])
    (chooses 1)

-- the order of the list: seven pairs, then by the pair's tile, sou 2, 5 and 8; on the pair of 5 there is no Pinfu
abbrev pub choice_order : Row
choice_order =
    won (hand (sous 22334455667788)) [] (tsumo (sou 5))
    (worth (MenzenTsumo ∷ Tanyao ∷ Chiitoitsu ∷ Chinitsu ∷ []) 10 25 Baiman (Tsumo 8000 4000)
    ∷ worth (MenzenTsumo ∷ Tanyao ∷ Pinfu ∷ Ryanpeikou ∷ Chinitsu ∷ []) 12 20 Sanbaiman (Tsumo 12000 6000)
    ∷ worth (MenzenTsumo ∷ Tanyao ∷ Ryanpeikou ∷ Chinitsu ∷ []) 11 30 Sanbaiman (Tsumo 12000 6000)
    ∷ worth (MenzenTsumo ∷ Tanyao ∷ Pinfu ∷ Ryanpeikou ∷ Chinitsu ∷ []) 12 20 Sanbaiman (Tsumo 12000 6000)
    ∷ [])
    (chooses 1)

-- ---- Four of one tile
-- man 1 as a triplet and in 123: one reading
abbrev pub four_as_triplet_and_sequence : Row
four_as_triplet_and_sequence =
    scored (hand (mans 111123 ++ pins 456 ++ sous 789 ++ (East ∷ East ∷ []))) [] (tsumo East)
    (MenzenTsumo ∷ []) 1 40 Normal (Tsumo 700 400)

-- in two sequences and the pair
abbrev pub four_as_pair : Row
four_as_pair =
    scored (hand (mans 11112233 ++ pins 456 ++ sous 789)) [] (ron (man 3))
    (Iipeikou ∷ []) 1 40 Normal (Ron 1300)

-- called as a kan all four are used
abbrev pub four_as_kan : Row
four_as_kan =
    scored (hand (pins 123 ++ sous 45678999)) (closed_kan (man 1) ∷ []) (south_wins by_ron (sou 9) (riichi ∷ []))
    (Riichi ∷ []) 1 70 Normal (Ron 2300)

-- ---- Calls
-- four calls and a pair
abbrev pub calls_four : Row
calls_four =
    scored (hand (White ∷ White ∷ [])) (chi (man 1) ∷ pon (pin 5) ∷ closed_kan (sou 9) ∷ added_kan East ∷ []) (ron White)
    (yakuhai_name East ∷ []) 1 80 Normal (Ron 2600)

-- with a call there are no seven pairs: five pairs, a single tile and a called triplet have no reading
abbrev pub calls_no_pairs : Row
calls_no_pairs =
    won (hand (mans 1122 ++ pins 3344 ++ sous 556)) (pon Red ∷ []) (ron (sou 6)) [] (refuses 10)

-- nor thirteen orphans: eleven of them and a called triplet of the twelfth
abbrev pub calls_no_orphans : Row
calls_no_orphans =
    won (hand (mans 19 ++ pins 19 ++ sous 19 ++ (East ∷ South ∷ West ∷ North ∷ White ∷ []))) (pon Red ∷ []) (ron White) [] (refuses 10)

-- ---- Waits: what the winning tile can have completed, named for each reading
-- 45 and 3
abbrev pub waits_two_sides : Row
waits_two_sides =
    waiting (hand (mans 123456 ++ pins 789 ++ sous 345 ++ (West ∷ West ∷ []))) [] (ron (sou 3))
    ((Ryanmen ∷ []) ∷ [])

-- 35 and 4
abbrev pub waits_middle : Row
waits_middle =
    waiting (hand (mans 123456 ++ pins 789 ++ sous 345 ++ (West ∷ West ∷ []))) [] (ron (sou 4))
    ((Kanchan ∷ []) ∷ [])

-- 89 and 7, 12 and 3
abbrev pub waits_high_edge : Row
waits_high_edge =
    waiting (hand (mans 123456 ++ pins 789 ++ sous 345 ++ (West ∷ West ∷ []))) [] (ron (pin 7))
    ((Penchan ∷ []) ∷ [])

abbrev pub waits_low_edge : Row
waits_low_edge =
    waiting (hand (mans 123567 ++ pins 789 ++ sous 345 ++ (West ∷ West ∷ []))) [] (ron (man 3))
    ((Penchan ∷ []) ∷ [])

-- a pair that becomes a triplet
abbrev pub waits_triplet : Row
waits_triplet =
    waiting (hand (mans 123456 ++ pins 789 ++ sous 22555)) [] (ron (sou 5))
    ((Shanpon ∷ []) ∷ [])

-- one tile that becomes the pair
abbrev pub waits_pair : Row
waits_pair =
    waiting (hand (mans 123456 ++ pins 345 ++ sous 44678)) [] (ron (sou 4))
    ((Tanki ∷ []) ∷ [])

-- several ways, each counted: an edge and two sides
abbrev pub waits_several : Row
waits_several =
    waiting (hand (mans 123345 ++ pins 456678 ++ sous 99)) [] (ron (man 3))
    ((Ryanmen ∷ Penchan ∷ []) ∷ [])

-- twice the same: the 4 of 234 and of 234
abbrev pub waits_twice : Row
waits_twice =
    waiting (hand (mans 223344 ++ pins 678 ++ sous 55567)) [] (ron (man 4))
    ((Ryanmen ∷ Ryanmen ∷ []) ∷ [])

-- each reading has its own: in the middle of three sequences, or a triplet
abbrev pub waits_of_two_readings : Row
waits_of_two_readings =
    waiting (hand (mans 222333444 ++ pins 678 ++ (North ∷ North ∷ []))) [] (ron (man 3))
    ((Kanchan ∷ Kanchan ∷ Kanchan ∷ []) ∷ (Shanpon ∷ []) ∷ [])

-- calls give none: the 2 of the called 123 does not count, that of 234 does
abbrev pub waits_called : Row
waits_called =
    waiting (hand (mans 234 ++ pins 99 ++ (White ∷ White ∷ White ∷ []))) (chi (man 1) ∷ pon (sou 5) ∷ []) (ron (man 2))
    ((Ryanmen ∷ []) ∷ [])

-- nor does a called triplet: the 3 completed 345
abbrev pub waits_called_triplet : Row
waits_called_triplet =
    waiting (hand (mans 345 ++ pins 234 ++ sous 67899)) (pon (man 3) ∷ []) (ron (man 3))
    ((Ryanmen ∷ []) ∷ [])

-- seven pairs wait on the pair
abbrev pub waits_seven_pairs : Row
waits_seven_pairs =
    waiting (hand (mans 1122 ++ pins 3344 ++ sous 5566 ++ (Red ∷ Red ∷ []))) [] (ron Red)
    ((Tanki ∷ []) ∷ [])

-- thirteen orphans: Kokushi13 where the pair is the winning tile, else Tanki
abbrev pub waits_orphans_pair : Row
waits_orphans_pair =
    waiting (hand (man 1 ∷ orphan_tiles)) [] (ron (man 1))
    ((Kokushi13 ∷ []) ∷ [])

abbrev pub waits_orphans_other : Row
waits_orphans_other =
    waiting (hand (man 1 ∷ orphan_tiles)) [] (ron (man 9))
    ((Tanki ∷ []) ∷ [])
