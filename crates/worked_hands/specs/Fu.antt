-- Fu, by worked hands. The winner is seat South in the round East, if nothing else is said. These are definitions.
use Rattle.std.specs.Prelude.{[], ◌∷◌, ◌++◌}
use Rattle.tile.specs.Named.{man, pin, sou, East, South, West, North, White, Green, Red, mans, pins, sous, orphan_tiles}
use Rattle.meld.specs.Named.{chi, pon, closed_kan, open_kan, added_kan}
use Rattle.context.specs.Context.{in_room}
use Rattle.context.specs.Named.{by_ron, by_tsumo, riichi, win, south_wins, dealer_wins, ron, tsumo}
use Rattle.hand.specs.Named.{hand}
use Rattle.yaku.specs.declared.names.Yaku.TheVariants.{Riichi, MenzenTsumo, Tanyao, Pinfu, Chiitoitsu, SanAnkou, KokushiMusou, Tsuuiisou, SuuKantsu, SuuankouTanki}
use Rattle.yaku.specs.Names.{yakuhai_name}
use Rattle.scoring.specs.declared.ScoreLevel.TheVariants.{Normal, Mangan, Yakuman}
use Rattle.scoring.specs.declared.Payment.TheVariants.{Ron, DealerTsumo, Tsumo}
use Rattle.played.specs.Row.{Row, scored}

-- ---- The wait: 2 fu in the middle, at an edge or on the pair, none at two sides or on a triplet. 30 for a closed ron
-- 30 and 2 for the middle of 345: 40
abbrev pub fu_middle : Row
fu_middle =
    scored (hand (mans 234567 ++ pins 456 ++ sous 34588)) [] (ron (sou 4))
    (Tanyao ∷ []) 1 40 Normal (Ron 1300)

-- 30 and 2 for the 7 of 789: 40
abbrev pub fu_edge : Row
fu_edge =
    scored (hand (mans 123567 ++ pins 345 ++ sous 78889)) [] (south_wins by_ron (sou 7) (riichi ∷ []))
    (Riichi ∷ []) 1 40 Normal (Ron 1300)

-- 30 and 2 for the pair: 40
abbrev pub fu_pair : Row
fu_pair =
    scored (hand (mans 123456 ++ pins 345 ++ sous 44678)) [] (south_wins by_ron (sou 4) (riichi ∷ []))
    (Riichi ∷ []) 1 40 Normal (Ron 1300)

-- an open hand: 20, 8 for White, 2 for the called triplet, 2 for the pair, which counts though the 2 stands at two sides of 234 too: 40
abbrev pub fu_pair_or_sides : Row
fu_pair_or_sides =
    scored (hand (mans 22234 ++ pins 345 ++ (White ∷ White ∷ White ∷ []))) (pon (sou 5) ∷ []) (ron (man 2))
    (yakuhai_name White ∷ []) 1 40 Normal (Ron 1300)

-- the same on the 4, at two sides only: 30
abbrev pub fu_sides : Row
fu_sides =
    scored (hand (mans 22234 ++ pins 345 ++ (White ∷ White ∷ White ∷ []))) (pon (sou 5) ∷ []) (ron (man 4))
    (yakuhai_name White ∷ []) 1 30 Normal (Ron 1000)

-- the same on the 3, in the middle: 40
abbrev pub fu_middle_open : Row
fu_middle_open =
    scored (hand (mans 22234 ++ pins 345 ++ (White ∷ White ∷ White ∷ []))) (pon (sou 5) ∷ []) (ron (man 3))
    (yakuhai_name White ∷ []) 1 40 Normal (Ron 1300)

-- a called sequence gives no wait: 20, 8 and 2 stay 30, though the 2 stands in the middle of a called 123 too
abbrev pub fu_called_sequence : Row
fu_called_sequence =
    scored (hand (mans 234 ++ pins 99 ++ (White ∷ White ∷ White ∷ []))) (chi (man 1) ∷ pon (sou 5) ∷ []) (ron (man 2))
    (yakuhai_name White ∷ []) 1 30 Normal (Ron 1000)

-- ---- Triplets: 2 fu, concealed 4; of terminals or honors twice as much
-- by ron the triplet counts as called: 30 and 2: 40
abbrev pub fu_triplet_ron : Row
fu_triplet_ron =
    scored (hand (mans 234678 ++ pins 123 ++ sous 44499)) [] (south_wins by_ron (sou 4) (riichi ∷ []))
    (Riichi ∷ []) 1 40 Normal (Ron 1300)

-- by tsumo it is concealed: 20, 2 for the tsumo and 4: 30
abbrev pub fu_triplet_tsumo : Row
fu_triplet_tsumo =
    scored (hand (mans 234678 ++ pins 123 ++ sous 44499)) [] (south_wins by_tsumo (sou 4) (riichi ∷ []))
    (Riichi ∷ MenzenTsumo ∷ []) 2 30 Normal (Tsumo 1000 500)

-- concealed, of terminals: 30 and 8: 40
abbrev pub fu_triplet_terminals : Row
fu_triplet_terminals =
    scored (hand (mans 111456 ++ pins 789 ++ sous 22678)) [] (south_wins by_ron (sou 8) (riichi ∷ []))
    (Riichi ∷ []) 1 40 Normal (Ron 1300)

-- concealed, of honors: 30 and 8: 40
abbrev pub fu_triplet_honors : Row
fu_triplet_honors =
    scored (hand (mans 234 ++ pins 56799 ++ sous 678 ++ (North ∷ North ∷ North ∷ []))) [] (south_wins by_ron (sou 8) (riichi ∷ []))
    (Riichi ∷ []) 1 40 Normal (Ron 1300)

-- called, of honors and of terminals: 20, 4 and 4: 30
abbrev pub fu_two_open : Row
fu_two_open =
    scored (hand (pins 22 ++ sous 345678)) (pon White ∷ pon (man 9) ∷ []) (ron (sou 8))
    (yakuhai_name White ∷ []) 1 30 Normal (Ron 1000)

-- a third: 32, so 40
abbrev pub fu_three_open : Row
fu_three_open =
    scored (hand (pins 22 ++ sous 678)) (pon White ∷ pon (man 9) ∷ pon (pin 1) ∷ []) (ron (sou 8))
    (yakuhai_name White ∷ []) 1 40 Normal (Ron 1300)

-- by ron, but the tile stands in a closed sequence too: three times 4 beside 30: 50
abbrev pub fu_spared : Row
fu_spared =
    scored (hand (mans 222 ++ pins 55599 ++ sous 678888)) [] (south_wins by_ron (sou 8) (riichi ∷ []))
    (Riichi ∷ SanAnkou ∷ []) 3 50 Normal (Ron 6400)

-- ---- Kans: four times as much as a triplet
-- open, of simples: 20 and 8: 30
abbrev pub fu_open_kan : Row
fu_open_kan =
    scored (hand (mans 234 ++ pins 22 ++ sous 345678)) (open_kan (pin 5) ∷ []) (ron (sou 8))
    (Tanyao ∷ []) 1 30 Normal (Ron 1000)

-- added, of honors: 20 and 16: 40
abbrev pub fu_added_kan : Row
fu_added_kan =
    scored (hand (mans 234 ++ pins 22 ++ sous 345678)) (added_kan Red ∷ []) (ron (sou 8))
    (yakuhai_name Red ∷ []) 1 40 Normal (Ron 1300)

-- closed, of simples: 30 and 16: 50
abbrev pub fu_closed_kan : Row
fu_closed_kan =
    scored (hand (mans 234 ++ pins 22 ++ sous 345678)) (closed_kan (pin 5) ∷ []) (south_wins by_ron (sou 8) (riichi ∷ []))
    (Riichi ∷ Tanyao ∷ []) 2 50 Normal (Ron 3200)

-- closed, of terminals: 30 and 32: 70
abbrev pub fu_closed_kan_terminals : Row
fu_closed_kan_terminals =
    scored (hand (pins 234567 ++ sous 44678)) (closed_kan (man 1) ∷ []) (south_wins by_ron (sou 8) (riichi ∷ []))
    (Riichi ∷ []) 1 70 Normal (Ron 2300)

-- by tsumo: 20, 2 and 32: 60
abbrev pub fu_closed_kan_tsumo : Row
fu_closed_kan_tsumo =
    scored (hand (pins 234567 ++ sous 44678)) (closed_kan (man 1) ∷ []) (south_wins by_tsumo (sou 8) (riichi ∷ []))
    (Riichi ∷ MenzenTsumo ∷ []) 2 60 Normal (Tsumo 2000 1000)

-- two of them, by ron: 30 and twice 32: 94, so 100
abbrev pub fu_two_kans : Row
fu_two_kans =
    scored (hand (pins 234 ++ sous 44678)) (closed_kan (man 1) ∷ closed_kan (pin 9) ∷ []) (south_wins by_ron (sou 8) (riichi ∷ []))
    (Riichi ∷ []) 1 100 Normal (Ron 3200)

-- and a concealed triplet of honors: 102, so 110
abbrev pub fu_kans_and_triplet : Row
fu_kans_and_triplet =
    scored (hand (sous 22678 ++ (North ∷ North ∷ North ∷ []))) (closed_kan (man 1) ∷ closed_kan (pin 9) ∷ []) (south_wins by_ron (sou 8) (riichi ∷ []))
    (Riichi ∷ SanAnkou ∷ []) 3 110 Mangan (Ron 8000)

-- four of honors, a pair of dragons and its wait: 30, four times 32, 2 and 2: 162, so 170, the most there is
abbrev pub fu_most : Row
fu_most =
    scored (hand (White ∷ White ∷ [])) (closed_kan East ∷ closed_kan South ∷ closed_kan West ∷ closed_kan Green ∷ []) (ron White)
    (Tsuuiisou ∷ SuuKantsu ∷ SuuankouTanki ∷ []) 52 170 (Yakuman 4) (Ron 128000)

-- ---- The pair: 2 fu for dragons, for the round wind and for the seat wind; a wind that is both has what the room gives, 4 if nothing is said
-- the dealer's East in the round East: 30, 8, 2 and 2: 50
abbrev pub fu_pair_twice : Row
fu_pair_twice =
    scored (hand (mans 111456 ++ pins 789 ++ sous 345 ++ (East ∷ East ∷ []))) [] (dealer_wins by_ron (sou 3) (riichi ∷ []))
    (Riichi ∷ []) 1 50 Normal (Ron 2400)

-- the same in a room that gives two: 30, 8 and 2: 40
abbrev pub fu_pair_twice_at_two : Row
fu_pair_twice_at_two =
    scored (hand (mans 111456 ++ pins 789 ++ sous 345 ++ (East ∷ East ∷ []))) [] (in_room 2 (dealer_wins by_ron (sou 3) (riichi ∷ [])))
    (Riichi ∷ []) 1 40 Normal (Ron 2000)

-- by tsumo in the middle: 22, 4 for the triplet, 2 for the wait and 4 for the pair, 32, so 40; each pays 700
abbrev pub fu_pair_twice_tsumo : Row
fu_pair_twice_tsumo =
    scored (hand (mans 222 ++ pins 456 ++ sous 345678 ++ (East ∷ East ∷ []))) [] (dealer_wins by_tsumo (pin 5) [])
    (MenzenTsumo ∷ []) 1 40 Normal (DealerTsumo 700)

-- in a room that gives two it is 30, and each pays 500
abbrev pub fu_pair_twice_tsumo_at_two : Row
fu_pair_twice_tsumo_at_two =
    scored (hand (mans 222 ++ pins 456 ++ sous 345678 ++ (East ∷ East ∷ []))) [] (in_room 2 (dealer_wins by_tsumo (pin 5) []))
    (MenzenTsumo ∷ []) 1 30 Normal (DealerTsumo 500)

-- a triplet of the double wind has two yakuhai there as well, and 8 fu: 22 and 8, 30
abbrev pub fu_triplet_twice_at_two : Row
fu_triplet_twice_at_two =
    scored (hand (mans 22 ++ pins 456 ++ sous 345678 ++ (East ∷ East ∷ East ∷ []))) [] (in_room 2 (dealer_wins by_tsumo (pin 4) []))
    (MenzenTsumo ∷ yakuhai_name East ∷ yakuhai_name East ∷ []) 3 30 Normal (DealerTsumo 2000)

-- the same in the round South, where East counts once: 30, 8 and 2: 40
abbrev pub fu_pair_once : Row
fu_pair_once =
    scored (hand (mans 111456 ++ pins 789 ++ sous 345 ++ (East ∷ East ∷ []))) [] (win by_ron (sou 3) South East (riichi ∷ []))
    (Riichi ∷ []) 1 40 Normal (Ron 2000)

-- a pair of West has none: 38, so 40
abbrev pub fu_pair_none : Row
fu_pair_none =
    scored (hand (mans 111456 ++ pins 789 ++ sous 345 ++ (West ∷ West ∷ []))) [] (dealer_wins by_ron (sou 3) (riichi ∷ []))
    (Riichi ∷ []) 1 40 Normal (Ron 2000)

-- the seat wind: 32, so 40
abbrev pub fu_pair_seat : Row
fu_pair_seat =
    scored (hand (mans 123456 ++ pins 789 ++ sous 345 ++ (South ∷ South ∷ []))) [] (south_wins by_ron (sou 3) (riichi ∷ []))
    (Riichi ∷ []) 1 40 Normal (Ron 1300)

-- the round wind: 32, so 40
abbrev pub fu_pair_round : Row
fu_pair_round =
    scored (hand (mans 123456 ++ pins 789 ++ sous 345 ++ (East ∷ East ∷ []))) [] (south_wins by_ron (sou 3) (riichi ∷ []))
    (Riichi ∷ []) 1 40 Normal (Ron 1300)

-- dragons: 32, so 40
abbrev pub fu_pair_dragons : Row
fu_pair_dragons =
    scored (hand (mans 123456 ++ pins 789 ++ sous 345 ++ (Red ∷ Red ∷ []))) [] (south_wins by_ron (sou 3) (riichi ∷ []))
    (Riichi ∷ []) 1 40 Normal (Ron 1300)

-- another wind has none: 30
abbrev pub fu_pair_other_wind : Row
fu_pair_other_wind =
    scored (hand (mans 123456 ++ pins 789 ++ sous 345 ++ (West ∷ West ∷ []))) [] (south_wins by_ron (sou 3) (riichi ∷ []))
    (Riichi ∷ Pinfu ∷ []) 2 30 Normal (Ron 2000)

-- ---- Pinfu by tsumo has 20, an open hand at least 30, seven pairs 25, thirteen orphans 30
-- 20, no 2 for the tsumo
abbrev pub fu_pinfu_tsumo : Row
fu_pinfu_tsumo =
    scored (hand (mans 234678 ++ pins 345 ++ sous 22567)) [] (tsumo (sou 7))
    (MenzenTsumo ∷ Tanyao ∷ Pinfu ∷ []) 3 20 Normal (Tsumo 1300 700)

-- an open hand of sequences by ron: 20 becomes 30
abbrev pub fu_open_ron : Row
fu_open_ron =
    scored (hand (mans 678 ++ pins 345 ++ sous 22567)) (chi (man 2) ∷ []) (ron (sou 7))
    (Tanyao ∷ []) 1 30 Normal (Ron 1000)

-- by tsumo: 22 becomes 30
abbrev pub fu_open_tsumo : Row
fu_open_tsumo =
    scored (hand (mans 678 ++ pins 345 ++ sous 22567)) (chi (man 2) ∷ []) (tsumo (sou 7))
    (Tanyao ∷ []) 1 30 Normal (Tsumo 500 300)

-- closed and no pinfu by tsumo: 20, 2 and 2 for the wait: 30
abbrev pub fu_tsumo_middle : Row
fu_tsumo_middle =
    scored (hand (mans 234567 ++ pins 345 ++ sous 22456)) [] (tsumo (sou 5))
    (MenzenTsumo ∷ Tanyao ∷ []) 2 30 Normal (Tsumo 1000 500)

-- seven pairs by the dealer's tsumo: 25
abbrev pub fu_seven_pairs : Row
fu_seven_pairs =
    scored (hand (mans 1122 ++ pins 3344 ++ sous 5566 ++ (Red ∷ Red ∷ []))) [] (dealer_wins by_tsumo Red [])
    (MenzenTsumo ∷ Chiitoitsu ∷ []) 3 25 Normal (DealerTsumo 1600)

-- orphans by tsumo: 30
abbrev pub fu_orphans : Row
fu_orphans =
    scored (hand (man 1 ∷ orphan_tiles)) [] (tsumo Red)
    (KokushiMusou ∷ []) 13 30 (Yakuman 1) (Tsumo 16000 8000)
