-- The yaku of two, three and six han, by worked hands: for each one that has it, and near misses that have it not. The winner is seat South in the
-- round East, if nothing else is said. These are definitions.
use Rattle.std.specs.Prelude.{[], ◌∷◌, ◌++◌}
use Rattle.tile.specs.Named.{man, pin, sou, East, South, West, North, White, Green, Red, mans, pins, sous}
use Rattle.meld.specs.Named.{chi, pon, closed_kan, open_kan, added_kan}
use Rattle.context.specs.Named.{by_ron, riichi, doubleRiichi, ippatsu, south_wins, ron, tsumo}
use Rattle.hand.specs.Named.{hand}
use Rattle.yaku.specs.declared.names.Yaku.TheVariants.{Ippatsu, MenzenTsumo, Tanyao, Iipeikou, DoubleRiichi, Toitoi, SanshokuDoujun, SanshokuDoukou, Ittsu, Chiitoitsu, Chanta, SanAnkou, SanKantsu, Honroutou, Shousangen, Honitsu, Junchan, Ryanpeikou, Chinitsu}
use Rattle.yaku.specs.Names.{yakuhai_name}
use Rattle.scoring.specs.declared.ScoreLevel.TheVariants.{Normal, Mangan, Haneman, Baiman}
use Rattle.scoring.specs.declared.Payment.TheVariants.{Ron, Tsumo}
use Rattle.played.specs.Row.{Row, won, worth, refuses, chooses, scored, yakuless}

-- ---- DoubleRiichi: 2 han, closed, Riichi with the first discard; it counts in place of Riichi
-- it counts in place of Riichi
abbrev pub double_riichi_closed : Row
double_riichi_closed =
    scored (hand (mans 123456 ++ pins 789 ++ sous 22555)) [] (south_wins by_ron (sou 5) (riichi ∷ doubleRiichi ∷ []))
    (DoubleRiichi ∷ []) 2 40 Normal (Ron 2600)

-- Ippatsu counts beside it
abbrev pub double_riichi_ippatsu : Row
double_riichi_ippatsu =
    scored (hand (mans 123456 ++ pins 789 ++ sous 22555)) [] (south_wins by_ron (sou 5) (riichi ∷ doubleRiichi ∷ ippatsu ∷ []))
    (Ippatsu ∷ DoubleRiichi ∷ []) 3 40 Normal (Ron 5200)

-- not where no Riichi was declared
abbrev pub double_riichi_without_riichi : Row
double_riichi_without_riichi =
    yakuless (hand (mans 123456 ++ pins 789 ++ sous 22555)) [] (south_wins by_ron (sou 5) (doubleRiichi ∷ [])) 40 (Ron 700)

-- not in an open hand
abbrev pub double_riichi_open : Row
double_riichi_open =
    yakuless (hand (mans 55 ++ pins 456 ++ sous 234678)) (chi (man 1) ∷ []) (south_wins by_ron (sou 8) (riichi ∷ doubleRiichi ∷ [])) 30 (Ron 500)

-- ---- Toitoi: 2 han, four triplets or kans
-- called or not
abbrev pub toitoi_open : Row
toitoi_open =
    scored (hand (pins 777 ++ sous 33888)) (pon (man 1) ∷ pon (pin 5) ∷ []) (ron (sou 8))
    (Toitoi ∷ []) 2 40 Normal (Ron 2600)

-- kans count as triplets
abbrev pub toitoi_with_kans : Row
toitoi_with_kans =
    scored (hand (sous 33888)) (pon (man 1) ∷ open_kan (pin 5) ∷ added_kan (pin 7) ∷ []) (ron (sou 8))
    (Toitoi ∷ []) 2 50 Normal (Ron 3200)

-- closed, with the fourth triplet by ron
abbrev pub toitoi_closed : Row
toitoi_closed =
    scored (hand (mans 111 ++ pins 333 ++ sous 555777 ++ (South ∷ South ∷ []))) [] (ron (sou 7))
    (Toitoi ∷ SanAnkou ∷ []) 4 50 Mangan (Ron 8000)

-- not with a sequence
abbrev pub toitoi_sequence : Row
toitoi_sequence =
    yakuless (hand (pins 777 ++ sous 33678)) (pon (man 1) ∷ pon (pin 5) ∷ []) (ron (sou 8)) 30 (Ron 500)

-- ---- SanshokuDoujun: 2 han, open 1, the same sequence in each suit
-- 234 in man, pin and sou
abbrev pub sanshoku_closed : Row
sanshoku_closed =
    scored (hand (mans 23499 ++ pins 234 ++ sous 234678)) [] (ron (sou 7))
    (SanshokuDoujun ∷ []) 2 40 Normal (Ron 2600)

-- open it has 1 han
abbrev pub sanshoku_open : Row
sanshoku_open =
    scored (hand (mans 99 ++ pins 234 ++ sous 234678)) (chi (man 2) ∷ []) (ron (sou 7))
    (SanshokuDoujun ∷ []) 1 30 Normal (Ron 1000)

-- not 234, 234 and 345
abbrev pub sanshoku_shifted : Row
sanshoku_shifted =
    yakuless (hand (mans 23499 ++ pins 234 ++ sous 345678)) [] (ron (sou 7)) 40 (Ron 700)

-- not twice in man and once in pin
abbrev pub sanshoku_two_suits : Row
sanshoku_two_suits =
    yakuless (hand (mans 23499 ++ pins 234 ++ sous 678)) (chi (man 2) ∷ []) (ron (sou 7)) 30 (Ron 500)

-- ---- SanshokuDoukou: 2 han, the same triplet or kan in each suit
-- 3 in man, pin and sou
abbrev pub sanshoku_doukou_open : Row
sanshoku_doukou_open =
    scored (hand (pins 99 ++ sous 333456)) (pon (man 3) ∷ pon (pin 3) ∷ []) (ron (pin 9))
    (SanshokuDoukou ∷ []) 2 30 Normal (Ron 2000)

-- kans count as triplets
abbrev pub sanshoku_doukou_kan : Row
sanshoku_doukou_kan =
    scored (hand (pins 99 ++ sous 333456)) (pon (man 3) ∷ open_kan (pin 3) ∷ []) (ron (pin 9))
    (SanshokuDoukou ∷ []) 2 40 Normal (Ron 2600)

-- closed it has 2 han too
abbrev pub sanshoku_doukou_closed : Row
sanshoku_doukou_closed =
    scored (hand (mans 333 ++ pins 333 ++ sous 33345699)) [] (ron (sou 4))
    (SanshokuDoukou ∷ SanAnkou ∷ []) 4 50 Mangan (Ron 8000)

-- not 3, 3 and 4
abbrev pub sanshoku_doukou_other : Row
sanshoku_doukou_other =
    yakuless (hand (pins 99 ++ sous 444567)) (pon (man 3) ∷ pon (pin 3) ∷ []) (ron (pin 9)) 30 (Ron 500)

-- not where sou 3 is only the pair
abbrev pub sanshoku_doukou_pair : Row
sanshoku_doukou_pair =
    yakuless (hand (pins 123 ++ sous 33678)) (pon (man 3) ∷ pon (pin 3) ∷ []) (ron (sou 8)) 30 (Ron 500)

-- ---- Ittsu: 2 han, open 1, 123, 456 and 789 of one suit
-- man 1 to 9
abbrev pub ittsu_closed : Row
ittsu_closed =
    scored (hand (mans 123456789 ++ pins 234 ++ sous 55)) [] (ron (pin 3))
    (Ittsu ∷ []) 2 40 Normal (Ron 2600)

-- open it has 1 han
abbrev pub ittsu_open : Row
ittsu_open =
    scored (hand (mans 456789 ++ pins 234 ++ sous 55)) (chi (man 1) ∷ []) (ron (pin 3))
    (Ittsu ∷ []) 1 30 Normal (Ron 1000)

-- not with 456 of another suit
abbrev pub ittsu_two_suits : Row
ittsu_two_suits =
    yakuless (hand (mans 123789 ++ pins 234456 ++ sous 55)) [] (ron (pin 3)) 40 (Ron 700)

-- not with 678 in place of 789
abbrev pub ittsu_shifted : Row
ittsu_shifted =
    yakuless (hand (mans 123456678 ++ pins 234 ++ sous 55)) [] (ron (pin 3)) 40 (Ron 700)

-- ---- Chiitoitsu: 2 han, seven different pairs, closed; always 25 fu
-- by ron
abbrev pub pairs_by_ron : Row
pairs_by_ron =
    scored (hand (mans 1122 ++ pins 3344 ++ sous 5566 ++ (Red ∷ Red ∷ []))) [] (ron Red)
    (Chiitoitsu ∷ []) 2 25 Normal (Ron 1600)

-- by tsumo
abbrev pub pairs_by_tsumo : Row
pairs_by_tsumo =
    scored (hand (mans 1122 ++ pins 3344 ++ sous 5566 ++ (Red ∷ Red ∷ []))) [] (tsumo Red)
    (MenzenTsumo ∷ Chiitoitsu ∷ []) 3 25 Normal (Tsumo 1600 800)

-- Tanyao counts beside it
abbrev pub pairs_of_simples : Row
pairs_of_simples =
    scored (hand (mans 2244 ++ pins 3366 ++ sous 557788)) [] (ron (sou 8))
    (Tanyao ∷ Chiitoitsu ∷ []) 3 25 Normal (Ron 3200)

-- Tanyao and MenzenTsumo too
abbrev pub pairs_of_simples_tsumo : Row
pairs_of_simples_tsumo =
    scored (hand (mans 2244 ++ pins 3366 ++ sous 557788)) [] (tsumo (sou 8))
    (MenzenTsumo ∷ Tanyao ∷ Chiitoitsu ∷ []) 4 25 Normal (Tsumo 3200 1600)

-- Honitsu too
abbrev pub pairs_half_flush : Row
pairs_half_flush =
    scored (hand (mans 1133557799 ++ (East ∷ East ∷ South ∷ South ∷ []))) [] (ron South)
    (Chiitoitsu ∷ Honitsu ∷ []) 5 25 Mangan (Ron 8000)

-- and Chinitsu
abbrev pub pairs_full_flush : Row
pairs_full_flush =
    scored (hand (pins 11224466778899)) [] (ron (pin 1))
    (Chiitoitsu ∷ Chinitsu ∷ []) 8 25 Baiman (Ron 16000)

-- and Honroutou
abbrev pub pairs_terminals_honors : Row
pairs_terminals_honors =
    scored (hand (mans 1199 ++ pins 1199 ++ sous 11 ++ (East ∷ East ∷ South ∷ South ∷ []))) [] (ron South)
    (Chiitoitsu ∷ Honroutou ∷ []) 4 25 Normal (Ron 6400)

-- not with four of a kind, which are not two pairs: such a hand has no reading, which is refused with 10
abbrev pub pairs_four_of_a_kind : Row
pairs_four_of_a_kind =
    won (hand (mans 1111 ++ pins 3344 ++ sous 5566 ++ (Red ∷ Red ∷ []))) [] (ron Red) [] (refuses 10)

-- not by seven kinds of tile with three of one and one of another
abbrev pub pairs_seven_kinds : Row
pairs_seven_kinds =
    won (hand (mans 1112 ++ pins 3344 ++ sous 5566 ++ (Red ∷ Red ∷ []))) [] (ron Red) [] (refuses 10)

-- ---- Chanta: 2 han, open 1, a terminal or honor in each meld and in the pair, and a sequence
-- honors and terminals
abbrev pub chanta_closed : Row
chanta_closed =
    scored (hand (mans 123789 ++ pins 123 ++ sous 99 ++ (North ∷ North ∷ North ∷ []))) [] (ron (pin 2))
    (Chanta ∷ []) 2 40 Normal (Ron 2600)

-- open it has 1 han
abbrev pub chanta_open : Row
chanta_open =
    scored (hand (mans 123 ++ pins 123 ++ sous 99 ++ (North ∷ North ∷ North ∷ []))) (chi (man 7) ∷ []) (ron (pin 2))
    (Chanta ∷ []) 1 30 Normal (Ron 1000)

-- the pair may be of honors
abbrev pub chanta_honor_pair : Row
chanta_honor_pair =
    scored (hand (mans 123789 ++ pins 123 ++ sous 789 ++ (North ∷ North ∷ []))) [] (ron (pin 2))
    (Chanta ∷ []) 2 40 Normal (Ron 2600)

-- not with a sequence from the middle
abbrev pub chanta_middle : Row
chanta_middle =
    yakuless (hand (mans 123456 ++ pins 123 ++ sous 99 ++ (North ∷ North ∷ North ∷ []))) [] (ron (pin 2)) 40 (Ron 700)

-- not with a pair of simples
abbrev pub chanta_simple_pair : Row
chanta_simple_pair =
    yakuless (hand (mans 123789 ++ pins 123 ++ sous 88 ++ (North ∷ North ∷ North ∷ []))) [] (ron (pin 2)) 40 (Ron 700)

-- not with a triplet of simples
abbrev pub chanta_simple_triplet : Row
chanta_simple_triplet =
    yakuless (hand (mans 123789 ++ pins 123 ++ sous 99)) (pon (sou 5) ∷ []) (ron (pin 2)) 30 (Ron 500)

-- ---- SanAnkou: 2 han, three triplets or closed kans, none of them called
-- the fourth meld is a sequence
abbrev pub san_ankou_closed : Row
san_ankou_closed =
    scored (hand (mans 222 ++ pins 55599 ++ sous 456888)) [] (ron (sou 4))
    (SanAnkou ∷ []) 2 50 Normal (Ron 3200)

-- the fourth meld may be called
abbrev pub san_ankou_open : Row
san_ankou_open =
    scored (hand (mans 222 ++ pins 55599 ++ sous 888)) (chi (sou 4) ∷ []) (ron (pin 9))
    (SanAnkou ∷ []) 2 40 Normal (Ron 2600)

-- a closed kan counts
abbrev pub san_ankou_kan : Row
san_ankou_kan =
    scored (hand (pins 55599 ++ sous 456888)) (closed_kan (man 2) ∷ []) (ron (sou 4))
    (SanAnkou ∷ []) 2 60 Normal (Ron 3900)

-- the third triplet by tsumo
abbrev pub san_ankou_tsumo : Row
san_ankou_tsumo =
    scored (hand (mans 222 ++ pins 55599 ++ sous 345888)) [] (tsumo (sou 8))
    (MenzenTsumo ∷ SanAnkou ∷ []) 3 40 Normal (Tsumo 2600 1300)

-- not by ron: the discard completes the third triplet, which counts as called
abbrev pub san_ankou_ron_triplet : Row
san_ankou_ron_triplet =
    yakuless (hand (mans 222 ++ pins 55599 ++ sous 345888)) [] (ron (sou 8)) 40 (Ron 700)

-- the discard stands in a closed sequence too: the triplet stays concealed
abbrev pub san_ankou_spared : Row
san_ankou_spared =
    scored (hand (mans 222 ++ pins 55599 ++ sous 678888)) [] (ron (sou 8))
    (SanAnkou ∷ []) 2 50 Normal (Ron 3200)

-- not where that sequence is called
abbrev pub san_ankou_called_sequence : Row
san_ankou_called_sequence =
    yakuless (hand (mans 222 ++ pins 55599 ++ sous 888)) (chi (sou 6) ∷ []) (ron (sou 8)) 30 (Ron 500)

-- not where one of the three is called
abbrev pub san_ankou_pon : Row
san_ankou_pon =
    yakuless (hand (pins 55599 ++ sous 456888)) (pon (man 2) ∷ []) (ron (sou 4)) 30 (Ron 500)

-- not with an open kan, which is called too
abbrev pub san_ankou_open_kan : Row
san_ankou_open_kan =
    yakuless (hand (pins 55599 ++ sous 456888)) (open_kan (man 2) ∷ []) (ron (sou 4)) 40 (Ron 700)

-- nor with an added kan
abbrev pub san_ankou_added_kan : Row
san_ankou_added_kan =
    yakuless (hand (pins 55599 ++ sous 456888)) (added_kan (man 2) ∷ []) (ron (sou 4)) 40 (Ron 700)

-- ---- SanKantsu: 2 han, three kans
-- of any sort
abbrev pub san_kantsu_three : Row
san_kantsu_three =
    scored (hand (pins 99 ++ sous 345)) (closed_kan (man 2) ∷ open_kan (pin 5) ∷ added_kan (sou 8) ∷ []) (ron (sou 4))
    (SanKantsu ∷ []) 2 60 Normal (Ron 3900)

-- not by two kans and a triplet
abbrev pub san_kantsu_two : Row
san_kantsu_two =
    yakuless (hand (pins 99 ++ sous 345)) (pon (man 2) ∷ open_kan (pin 5) ∷ added_kan (sou 8) ∷ []) (ron (sou 4)) 40 (Ron 700)

-- ---- Honroutou: 2 han, terminals and honors only
-- beside Toitoi, in place of Chanta
abbrev pub honroutou_open : Row
honroutou_open =
    scored (hand (sous 999 ++ (West ∷ West ∷ West ∷ North ∷ North ∷ []))) (pon (man 1) ∷ pon (pin 9) ∷ []) (ron North)
    (Toitoi ∷ Honroutou ∷ []) 4 50 Mangan (Ron 8000)

-- not with a sequence: Chanta
abbrev pub honroutou_sequence : Row
honroutou_sequence =
    scored (hand (sous 123 ++ (West ∷ West ∷ West ∷ North ∷ North ∷ []))) (pon (man 1) ∷ pon (pin 9) ∷ []) (ron North)
    (Chanta ∷ []) 1 40 Normal (Ron 1300)

-- not with a triplet of simples: Toitoi alone
abbrev pub honroutou_simple : Row
honroutou_simple =
    scored (hand (sous 888 ++ (West ∷ West ∷ West ∷ North ∷ North ∷ []))) (pon (man 1) ∷ pon (pin 9) ∷ []) (ron North)
    (Toitoi ∷ []) 2 50 Normal (Ron 3200)

-- ---- Shousangen: 2 han, two triplets or kans of dragons and a pair of the third
-- the two triplets count beside it
abbrev pub shousangen_pair : Row
shousangen_pair =
    scored (hand (mans 234 ++ pins 678 ++ (Green ∷ Green ∷ Green ∷ Red ∷ Red ∷ []))) (pon White ∷ []) (ron (pin 8))
    (yakuhai_name White ∷ yakuhai_name Green ∷ Shousangen ∷ []) 4 40 Mangan (Ron 8000)

-- not with another pair
abbrev pub shousangen_other_pair : Row
shousangen_other_pair =
    scored (hand (mans 234 ++ pins 678 ++ sous 99 ++ (Green ∷ Green ∷ Green ∷ []))) (pon White ∷ []) (ron (pin 8))
    (yakuhai_name White ∷ yakuhai_name Green ∷ []) 2 40 Normal (Ron 2600)

-- not with one triplet and a pair of dragons
abbrev pub shousangen_one_triplet : Row
shousangen_one_triplet =
    scored (hand (mans 234 ++ pins 678 ++ sous 345 ++ (Red ∷ Red ∷ []))) (pon White ∷ []) (ron (pin 8))
    (yakuhai_name White ∷ []) 1 30 Normal (Ron 1000)

-- ---- Honitsu: 3 han, open 2, one suit and honors
-- man and winds
abbrev pub honitsu_closed : Row
honitsu_closed =
    scored (hand (mans 123345678 ++ (East ∷ East ∷ North ∷ North ∷ North ∷ []))) [] (ron (man 8))
    (Honitsu ∷ []) 3 40 Normal (Ron 5200)

-- open it has 2 han
abbrev pub honitsu_open : Row
honitsu_open =
    scored (hand (mans 345678 ++ (East ∷ East ∷ North ∷ North ∷ North ∷ []))) (chi (man 1) ∷ []) (ron (man 8))
    (Honitsu ∷ []) 2 30 Normal (Ron 2000)

-- not with a sequence of another suit
abbrev pub honitsu_two_suits : Row
honitsu_two_suits =
    yakuless (hand (mans 123345 ++ pins 678 ++ (East ∷ East ∷ North ∷ North ∷ North ∷ []))) [] (ron (pin 8)) 40 (Ron 700)

-- not with a call of another suit
abbrev pub honitsu_call : Row
honitsu_call =
    yakuless (hand (mans 345678 ++ (East ∷ East ∷ North ∷ North ∷ North ∷ []))) (chi (pin 1) ∷ []) (ron (man 8)) 30 (Ron 500)

-- ---- Junchan: 3 han, open 2, a terminal in each meld and in the pair, and a sequence
-- in place of Chanta
abbrev pub junchan_closed : Row
junchan_closed =
    scored (hand (mans 123789 ++ pins 12399 ++ sous 789)) [] (ron (pin 2))
    (Junchan ∷ []) 3 40 Normal (Ron 5200)

-- open it has 2 han
abbrev pub junchan_open : Row
junchan_open =
    scored (hand (mans 123 ++ pins 12399 ++ sous 789)) (chi (man 7) ∷ []) (ron (pin 2))
    (Junchan ∷ []) 2 30 Normal (Ron 2000)

-- not with a triplet of honors: Chanta
abbrev pub junchan_honors : Row
junchan_honors =
    scored (hand (mans 123 ++ pins 12399 ++ sous 789)) (pon North ∷ []) (ron (pin 2))
    (Chanta ∷ []) 1 30 Normal (Ron 1000)

-- not with a sequence from the middle
abbrev pub junchan_middle : Row
junchan_middle =
    yakuless (hand (mans 123789 ++ pins 12399 ++ sous 456)) [] (ron (pin 2)) 40 (Ron 700)

-- ---- Ryanpeikou: 3 han, closed, twice two equal sequences
-- the same tiles are seven pairs too; the one that pays more is chosen
abbrev pub ryanpeikou_closed : Row
ryanpeikou_closed =
    won (hand (mans 223344 ++ pins 667788 ++ (North ∷ North ∷ []))) [] (ron (man 3))
    (worth (Chiitoitsu ∷ []) 2 25 Normal (Ron 1600)
    ∷ worth (Ryanpeikou ∷ []) 3 40 Normal (Ron 5200)
    ∷ [])
    (chooses 1)

-- four equal sequences are twice two; Iipeikou does not count beside it
abbrev pub ryanpeikou_four_alike : Row
ryanpeikou_four_alike =
    won (hand (mans 222233334444 ++ sous 55)) [] (ron (sou 5))
    (worth (Tanyao ∷ Ryanpeikou ∷ []) 4 40 Mangan (Ron 8000)
    ∷ worth (Tanyao ∷ SanAnkou ∷ []) 3 50 Normal (Ron 6400)
    ∷ [])
    (chooses 0)

-- not by three equal sequences and another: Iipeikou
abbrev pub ryanpeikou_three_alike : Row
ryanpeikou_three_alike =
    won (hand (mans 222333444 ++ pins 678 ++ (North ∷ North ∷ []))) [] (ron (man 3))
    (worth (Iipeikou ∷ []) 1 40 Normal (Ron 1300)
    ∷ worth [] 0 40 Normal (Ron 700)
    ∷ [])
    (chooses 0)

-- not in an open hand
abbrev pub ryanpeikou_open : Row
ryanpeikou_open =
    yakuless (hand (mans 223344 ++ pins 678 ++ (North ∷ North ∷ []))) (chi (pin 6) ∷ []) (ron (man 4)) 30 (Ron 500)

-- ---- Chinitsu: 6 han, open 5, one suit alone
-- closed
abbrev pub chinitsu_closed : Row
chinitsu_closed =
    scored (hand (pins 12223345567999)) [] (ron (pin 1))
    (Chinitsu ∷ []) 6 40 Haneman (Ron 12000)

-- open it has 5 han
abbrev pub chinitsu_open : Row
chinitsu_open =
    scored (hand (pins 22345678)) (chi (pin 1) ∷ pon (pin 9) ∷ []) (ron (pin 8))
    (Chinitsu ∷ []) 5 30 Mangan (Ron 8000)

-- not with honors: Honitsu
abbrev pub chinitsu_honors : Row
chinitsu_honors =
    scored (hand (pins 34445678)) (chi (pin 1) ∷ pon North ∷ []) (ron (pin 8))
    (Honitsu ∷ []) 2 30 Normal (Ron 2000)

-- not with a pair of another suit
abbrev pub chinitsu_other_pair : Row
chinitsu_other_pair =
    yakuless (hand (pins 345678 ++ sous 22)) (chi (pin 1) ∷ pon (pin 9) ∷ []) (ron (pin 8)) 30 (Ron 500)
