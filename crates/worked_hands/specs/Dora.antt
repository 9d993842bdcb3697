-- Dora, by worked hands. The winner is seat South in the round East, if nothing else is said. What is shown is the indicator, the tile before the
-- dora. These are definitions.
use Rattle.std.specs.Prelude.{[], ◌∷◌, ◌++◌, replicate}
use Rattle.tile.specs.Named.{man, pin, sou, East, South, North, Red, White, mans, pins, sous, orphan_tiles}
use Rattle.meld.specs.Named.{chi, pon, closed_kan}
use Rattle.context.specs.Named.{by_ron, by_tsumo, riichi, doubleRiichi, win, south_wins, ron, tsumo, showing}
use Rattle.hand.specs.Named.{hand}
use Rattle.yaku.specs.declared.names.Yaku.TheVariants.{Riichi, MenzenTsumo, Tanyao, Pinfu, Iipeikou, Suuankou, KokushiMusou, SuuankouTanki}
use Rattle.yaku.specs.Names.{yakuhai_name}
use Rattle.scoring.specs.declared.ScoreLevel.TheVariants.{Normal, Mangan, Haneman, Yakuman}
use Rattle.scoring.specs.declared.Payment.TheVariants.{Ron, Tsumo}
use Rattle.played.specs.Row.{Row, won, scored, worth, chooses, refuses}

-- ---- Which tile is dora, and how often it counts
-- man 1 shows man 2: one han more
abbrev pub dora_one : Row
dora_one =
    scored (hand (mans 234567 ++ pins 34588 ++ sous 678)) [] (showing (man 1 ∷ []) [] (ron (sou 8)))
    (Tanyao ∷ Pinfu ∷ []) 3 30 Normal (Ron 3900)

-- shown twice it counts twice
abbrev pub dora_shown_twice : Row
dora_shown_twice =
    scored (hand (mans 234567 ++ pins 34588 ++ sous 678)) [] (showing (man 1 ∷ man 1 ∷ []) [] (ron (sou 8)))
    (Tanyao ∷ Pinfu ∷ []) 4 30 Normal (Ron 7700)

-- both tiles of a pair count
abbrev pub dora_pair : Row
dora_pair =
    scored (hand (mans 234567 ++ pins 34588 ++ sous 678)) [] (showing (pin 7 ∷ []) [] (ron (sou 8)))
    (Tanyao ∷ Pinfu ∷ []) 4 30 Normal (Ron 7700)

-- the indicator itself is no dora
abbrev pub dora_not_shown_tile : Row
dora_not_shown_tile =
    scored (hand (mans 234567 ++ pins 34588 ++ sous 678)) [] (showing (man 7 ∷ []) [] (ron (sou 8)))
    (Tanyao ∷ Pinfu ∷ []) 2 30 Normal (Ron 2000)

-- 9 shows 1 of its own suit, not of the next: man 9 man 1
abbrev pub dora_nine_to_one : Row
dora_nine_to_one =
    scored (hand (mans 123456 ++ pins 55678 ++ sous 123)) [] (showing (man 9 ∷ []) [] (south_wins by_ron (sou 3) (riichi ∷ [])))
    (Riichi ∷ []) 2 40 Normal (Ron 2600)

-- North shows East
abbrev pub dora_north_to_east : Row
dora_north_to_east =
    scored (hand (mans 234567 ++ pins 88 ++ sous 678 ++ (East ∷ East ∷ East ∷ []))) [] (showing (North ∷ []) [] (ron (sou 8)))
    (yakuhai_name East ∷ []) 4 40 Mangan (Ron 8000)

-- Red shows White
abbrev pub dora_red_to_white : Row
dora_red_to_white =
    scored (hand (mans 234567 ++ pins 88 ++ sous 678 ++ (White ∷ White ∷ White ∷ []))) [] (showing (Red ∷ []) [] (ron (sou 8)))
    (yakuhai_name White ∷ []) 4 40 Mangan (Ron 8000)

-- ---- Called tiles count too
-- four of a kan
abbrev pub dora_kan : Row
dora_kan =
    scored (hand (mans 234567 ++ pins 88 ++ sous 678)) (closed_kan (pin 5) ∷ []) (showing (pin 4 ∷ []) [] (ron (sou 8)))
    (Tanyao ∷ []) 5 50 Mangan (Ron 8000)

-- one of a sequence and three of a triplet
abbrev pub dora_called : Row
dora_called =
    scored (hand (mans 234 ++ pins 88 ++ sous 678)) (chi (man 5) ∷ pon (pin 6) ∷ []) (showing (man 5 ∷ pin 5 ∷ []) [] (ron (sou 8)))
    (Tanyao ∷ []) 5 30 Mangan (Ron 8000)

-- ---- Ura, which count where riichi was declared
abbrev pub ura_riichi : Row
ura_riichi =
    scored (hand (mans 234567 ++ pins 34588 ++ sous 678)) [] (showing (man 1 ∷ []) (pin 7 ∷ []) (south_wins by_ron (sou 8) (riichi ∷ [])))
    (Riichi ∷ Tanyao ∷ Pinfu ∷ []) 6 30 Haneman (Ron 12000)

-- and not without
abbrev pub ura_no_riichi : Row
ura_no_riichi =
    scored (hand (mans 234567 ++ pins 34588 ++ sous 678)) [] (showing (man 1 ∷ []) (pin 7 ∷ []) (ron (sou 8)))
    (Tanyao ∷ Pinfu ∷ []) 3 30 Normal (Ron 3900)

-- the flag of double riichi alone is none
abbrev pub ura_double_riichi_alone : Row
ura_double_riichi_alone =
    scored (hand (mans 234567 ++ pins 34588 ++ sous 678)) [] (showing [] (pin 7 ∷ []) (south_wins by_ron (sou 8) (doubleRiichi ∷ [])))
    (Tanyao ∷ Pinfu ∷ []) 2 30 Normal (Ron 2000)

-- with the flag they count in an open hand too, where riichi itself does not
abbrev pub ura_open : Row
ura_open =
    scored (hand (mans 234 ++ pins 34588 ++ sous 678)) (chi (man 5) ∷ []) (showing [] (pin 7 ∷ []) (south_wins by_ron (sou 8) (riichi ∷ [])))
    (Tanyao ∷ []) 3 30 Normal (Ron 3900)

-- ---- A yakuman takes no dora
abbrev pub dora_yakuman : Row
dora_yakuman =
    scored (hand (man 1 ∷ orphan_tiles)) [] (showing (man 9 ∷ man 9 ∷ []) [] (ron (man 9))) (KokushiMusou ∷ []) 13 30 (Yakuman 1) (Ron 32000)

-- ---- Dora alone is no yaku: twenty han by its number, a counted yakuman, and the win is refused
abbrev pub dora_no_yaku : Row
dora_no_yaku =
    won (hand (mans 789 ++ pins 55678 ++ sous 345)) (chi (man 1) ∷ []) (showing (replicate 10 (pin 4)) [] (ron (sou 3)))
    (worth [] 20 30 (Yakuman 1) (Ron 32000) ∷ [])
    (refuses 11)

-- ---- The choice, where dora add more to han than to the total
-- a yakuman before a counted yakuman of the same total, which has more han
abbrev pub choice_yakuman_first : Row
choice_yakuman_first =
    won (hand (mans 222333444 ++ pins 666 ++ sous 88)) []
    (showing (replicate 4 (man 1) ++ replicate 3 (man 2) ++ replicate 3 (man 3)) [] (tsumo (pin 6)))
    (worth (MenzenTsumo ∷ Tanyao ∷ Iipeikou ∷ []) 33 30 (Yakuman 1) (Tsumo 16000 8000)
    ∷ worth (Suuankou ∷ []) 13 40 (Yakuman 1) (Tsumo 16000 8000)
    ∷ [])
    (chooses 1)

-- the greatest total before more han: two yakuman in a hand that by its sequences is a counted one with more han
abbrev pub choice_total_first : Row
choice_total_first =
    won (hand (mans 77799 ++ sous 777888999)) []
    (showing (replicate 4 (sou 6) ++ replicate 2 (sou 7) ++ replicate 4 (sou 8)) [] (win by_tsumo (man 9) South South []))
    (worth (MenzenTsumo ∷ Iipeikou ∷ []) 32 30 (Yakuman 1) (Tsumo 16000 8000)
    ∷ worth (SuuankouTanki ∷ []) 26 50 (Yakuman 2) (Tsumo 32000 16000)
    ∷ [])
    (chooses 1)
