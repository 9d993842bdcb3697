-- Three players, by worked hands: man 2 to 8 are absent, no sequence is called, nobody sits three seats onward and no indicator is shown. The winner is seat
-- South in the round East, if nothing else is said. These are definitions.
use Rattle.std.specs.Prelude.{[], ◌∷◌, ◌++◌}
use Rattle.tile.specs.Named.{man, pin, sou, North, White, mans, pins, sous, orphan_tiles}
use Rattle.meld.specs.Named.{chi, pon, from_right, from_across, from_left}
use Rattle.context.specs.Context.{in_room}
use Rattle.context.specs.Named.{by_ron, by_tsumo, riichi, ippatsu, win, south_wins, dealer_wins, ron, showing}
use Rattle.hand.specs.Named.{hand}
use Rattle.yaku.specs.declared.names.Yaku.TheVariants.{Riichi, Ippatsu, MenzenTsumo, Tanyao, Pinfu, Toitoi, Honroutou, KokushiMusou, Chinroutou}
use Rattle.yaku.specs.Names.{yakuhai_name}
use Rattle.scoring.specs.declared.ScoreLevel.TheVariants.{Normal, Mangan, Yakuman}
use Rattle.scoring.specs.declared.Payment.TheVariants.{Ron, DealerTsumo, Tsumo}
use Rattle.played.specs.Row.{Row, won, refuses, scored}

-- ---- Who pays: by tsumo two do
-- the dealer gets 4,000 from each
abbrev pub three_dealer_tsumo : Row
three_dealer_tsumo =
    scored (hand (pins 234678 ++ sous 22345567)) [] (dealer_wins by_tsumo (sou 7) (riichi ∷ ippatsu ∷ []))
    (Riichi ∷ Ippatsu ∷ MenzenTsumo ∷ Tanyao ∷ Pinfu ∷ []) 5 20 Mangan (DealerTsumo 4000)

-- another gets 4,000 from the dealer and 2,000 from the one who is left
abbrev pub three_tsumo : Row
three_tsumo =
    scored (hand (pins 234678 ++ sous 22345567)) [] (south_wins by_tsumo (sou 7) (riichi ∷ ippatsu ∷ []))
    (Riichi ∷ Ippatsu ∷ MenzenTsumo ∷ Tanyao ∷ Pinfu ∷ []) 5 20 Mangan (Tsumo 4000 2000)

-- by ron one pays, as with four players
abbrev pub three_ron : Row
three_ron =
    scored (hand (pins 234678 ++ sous 22345567)) [] (south_wins by_ron (sou 7) (riichi ∷ []))
    (Riichi ∷ Tanyao ∷ Pinfu ∷ []) 3 30 Normal (Ron 3900)

-- ---- Man 1 and man 9 are there
-- called from the next player and from the one after: 20, 4 and 4, 8 and 8, 2 for the wait: 50
abbrev pub three_terminals_and_honors : Row
three_terminals_and_honors =
    scored (hand (pins 99 ++ sous 111 ++ (White ∷ White ∷ White ∷ []))) (from_right (pon (man 1)) ∷ from_across (pon (man 9)) ∷ []) (ron (pin 9))
    (yakuhai_name White ∷ Toitoi ∷ Honroutou ∷ []) 5 50 Mangan (Ron 8000)

-- with no honor a yakuman
abbrev pub three_terminals : Row
three_terminals =
    scored (hand (pins 99 ++ sous 111999)) (from_right (pon (man 1)) ∷ from_across (pon (man 9)) ∷ []) (ron (pin 9))
    (Chinroutou ∷ []) 13 50 (Yakuman 1) (Ron 32000)

-- thirteen orphans
abbrev pub three_orphans : Row
three_orphans =
    scored (hand (man 1 ∷ orphan_tiles)) [] (ron (man 9))
    (KokushiMusou ∷ []) 13 30 (Yakuman 1) (Ron 32000)

-- ---- North is a wind like the others, also as round and seat
-- a triplet has two yakuhai where it is both: 30 and 8: 40
abbrev pub three_north : Row
three_north =
    scored (hand (pins 234567 ++ sous 55678 ++ (North ∷ North ∷ North ∷ []))) [] (win by_ron (sou 8) North North [])
    (yakuhai_name North ∷ yakuhai_name North ∷ []) 2 40 Normal (Ron 2600)

-- the pair has what the room gives: 30, 8 and 4: 50
abbrev pub three_north_pair : Row
three_north_pair =
    scored (hand (mans 111 ++ pins 456789 ++ sous 345 ++ (North ∷ North ∷ []))) [] (win by_ron (sou 3) North North (riichi ∷ []))
    (Riichi ∷ []) 1 50 Normal (Ron 1600)

-- the same in a room that gives two: 30, 8 and 2: 40
abbrev pub three_north_pair_at_two : Row
three_north_pair_at_two =
    scored (hand (mans 111 ++ pins 456789 ++ sous 345 ++ (North ∷ North ∷ []))) [] (in_room 2 (win by_ron (sou 3) North North (riichi ∷ [])))
    (Riichi ∷ []) 1 40 Normal (Ron 1300)

-- ---- 3 what is not called with three players
-- a sequence
abbrev pub three_sequence : Row
three_sequence =
    won (hand (pins 55678 ++ sous 234678)) (chi (pin 1) ∷ []) (ron (sou 8)) [] (refuses 3)

-- an absent tile
abbrev pub three_absent_called : Row
three_absent_called =
    won (hand (pins 55678 ++ sous 234678)) (from_right (pon (man 5)) ∷ []) (ron (sou 8)) [] (refuses 3)

-- from three seats onward
abbrev pub three_from_left : Row
three_from_left =
    won (hand (pins 55678 ++ sous 234678)) (from_left (pon White) ∷ []) (ron (sou 8)) [] (refuses 3)

-- ---- 4 an absent tile in the hand
abbrev pub three_absent_held : Row
three_absent_held =
    won (hand (mans 555 ++ pins 55678 ++ sous 234678)) [] (ron (sou 8)) [] (refuses 4)

-- ---- 14 an indicator is shown
abbrev pub three_indicator : Row
three_indicator =
    won (hand (pins 12355678 ++ sous 234678)) [] (showing (pin 1 ∷ []) [] (ron (sou 8))) [] (refuses 14)

-- below the others too
abbrev pub three_ura : Row
three_ura =
    won (hand (pins 12355678 ++ sous 234678)) [] (showing [] (pin 1 ∷ []) (ron (sou 8))) [] (refuses 14)

-- ---- 9 an absent tile, which no hand holds, as the winning tile
abbrev pub three_absent_won : Row
three_absent_won =
    won (hand (pins 12355678 ++ sous 234678)) [] (ron (man 5)) [] (refuses 9)
