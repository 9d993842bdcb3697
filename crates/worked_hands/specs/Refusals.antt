-- What is turned down, and with which number. The winner is seat South in the round East, if nothing else is said. These are definitions.
use Rattle.std.specs.Prelude.{[], ◌∷◌, ◌++◌}
use Rattle.tile.specs.Named.{man, sou, East, South, White, mans, pins, sous}
use Rattle.meld.specs.Named.{chi, pon, closed_kan, from_right, from_across, from_left}
use Rattle.context.specs.Context.{in_room}
use Rattle.context.specs.Named.{by_ron, riichi, win, south_wins, ron, showing}
use Rattle.hand.specs.Named.{hand}
use Rattle.scoring.specs.declared.Payment.TheVariants.{Ron}
use Rattle.scoring.specs.Payment.{Refused}
use Rattle.played.specs.Row.{non_dealer, Row, won, asked, refuses, yakuless}

-- ---- 2 more than four calls
abbrev pub five_calls : Row
five_calls =
    won (hand (White ∷ White ∷ [])) (chi (man 1) ∷ chi (man 1) ∷ chi (man 1) ∷ chi (man 1) ∷ chi (man 1) ∷ []) (ron White) [] (refuses 2)

-- before 4: five of a tile are there too
abbrev pub five_calls_five_tiles : Row
five_calls_five_tiles =
    won (hand (White ∷ White ∷ White ∷ White ∷ White ∷ [])) (chi (man 1) ∷ chi (man 1) ∷ chi (man 1) ∷ chi (man 1) ∷ chi (man 1) ∷ []) (ron White) [] (refuses 2)

-- ---- 3 a call's kind, tile or source is not that of a call
-- a sequence that would start at 8
abbrev pub sequence_from_eight : Row
sequence_from_eight =
    won (hand (mans 55 ++ pins 456 ++ sous 234678)) (chi (man 8) ∷ []) (ron (sou 8)) [] (refuses 3)

-- a sequence of honors
abbrev pub sequence_of_honors : Row
sequence_of_honors =
    won (hand (mans 55 ++ pins 456 ++ sous 234678)) (chi East ∷ []) (ron (sou 8)) [] (refuses 3)

-- a sequence from another player than the one on the left
abbrev pub sequence_from_right : Row
sequence_from_right =
    won (hand (mans 55 ++ pins 456 ++ sous 234678)) (from_right (chi (man 7)) ∷ []) (ron (sou 8)) [] (refuses 3)

abbrev pub sequence_from_across : Row
sequence_from_across =
    won (hand (mans 55 ++ pins 456 ++ sous 234678)) (from_across (chi (man 7)) ∷ []) (ron (sou 8)) [] (refuses 3)

-- a closed kan that came from somebody
abbrev pub closed_kan_from_left : Row
closed_kan_from_left =
    won (hand (mans 55 ++ pins 456 ++ sous 234678)) (from_left (closed_kan White) ∷ []) (ron (sou 8)) [] (refuses 3)

-- ---- 4 a count above four
abbrev pub five_in_hand : Row
five_in_hand =
    won (hand (mans 11111 ++ pins 234567 ++ sous 234)) [] (ron (sou 4)) [] (refuses 4)

-- ---- 5 more than four of a kind in hand and calls together
abbrev pub five_with_calls : Row
five_with_calls =
    won (hand (mans 11 ++ pins 456 ++ sous 234678)) (pon (man 1) ∷ []) (ron (sou 8)) [] (refuses 5)

-- a kan and a fifth one in a sequence
abbrev pub five_with_kan : Row
five_with_kan =
    won (hand (mans 123 ++ pins 55 ++ sous 234678)) (closed_kan (man 1) ∷ []) (ron (sou 8)) [] (refuses 5)

-- ---- 6 another number of tiles than 14 less 3 for each call
abbrev pub fifteen_tiles : Row
fifteen_tiles =
    won (hand (mans 123555 ++ pins 456 ++ sous 234678)) [] (ron (sou 8)) [] (refuses 6)

abbrev pub eleven_tiles : Row
eleven_tiles =
    won (hand (mans 55 ++ pins 456 ++ sous 234678)) [] (ron (sou 8)) [] (refuses 6)

-- a kan takes three places like any call: 10 tiles beside it are one too few
abbrev pub kan_three_places : Row
kan_three_places =
    won (hand (pins 23456 ++ sous 44678)) (closed_kan (man 1) ∷ []) (ron (sou 8)) [] (refuses 6)

-- before 8: the room's setting is none either
abbrev pub eleven_tiles_no_setting : Row
eleven_tiles_no_setting =
    won (hand (mans 55 ++ pins 456 ++ sous 234678)) [] (in_room 0 (ron (sou 8))) [] (refuses 6)

-- ---- 8 a win type, a wind or the room's setting out of range
abbrev pub no_such_win_type : Row
no_such_win_type =
    won (hand (mans 12355 ++ pins 456 ++ sous 234678)) [] (south_wins 2 (sou 8) []) [] (refuses 8)

abbrev pub white_as_seat : Row
white_as_seat =
    won (hand (mans 12355 ++ pins 456 ++ sous 234678)) [] (win by_ron (sou 8) East White []) [] (refuses 8)

abbrev pub white_as_round : Row
white_as_round =
    won (hand (mans 12355 ++ pins 456 ++ sous 234678)) [] (win by_ron (sou 8) White South []) [] (refuses 8)

-- a setting that is neither four nor two; 0 is what a table sends that forgets it
abbrev pub no_setting : Row
no_setting =
    won (hand (mans 12355 ++ pins 456 ++ sous 234678)) [] (in_room 0 (south_wins by_ron (sou 8) (riichi ∷ []))) [] (refuses 8)

abbrev pub setting_three : Row
setting_three =
    won (hand (mans 12355 ++ pins 456 ++ sous 234678)) [] (in_room 3 (south_wins by_ron (sou 8) (riichi ∷ []))) [] (refuses 8)

-- before 9: the winning tile is not in the hand either
abbrev pub setting_before_tile : Row
setting_before_tile =
    won (hand (mans 12355 ++ pins 456 ++ sous 234678)) [] (in_room 255 (ron (sou 9))) [] (refuses 8)

abbrev pub seat_before_tile : Row
seat_before_tile =
    won (hand (mans 12355 ++ pins 456 ++ sous 234678)) [] (win by_ron (sou 9) East White []) [] (refuses 8)

-- ---- 14 an indicator is above 33, or there are more than ten
abbrev pub indicator_above33 : Row
indicator_above33 =
    won (hand (mans 12355 ++ pins 456 ++ sous 234678)) [] (showing (man 1 ∷ 34 ∷ []) [] (ron (sou 8))) [] (refuses 14)

-- of those below too, though without riichi they do not count
abbrev pub ura_above33 : Row
ura_above33 =
    won (hand (mans 12355 ++ pins 456 ++ sous 234678)) [] (showing [] (34 ∷ []) (ron (sou 8))) [] (refuses 14)

-- before 9: the winning tile is not in the hand
abbrev pub indicator_before_tile : Row
indicator_before_tile =
    won (hand (mans 12355 ++ pins 456 ++ sous 234678)) [] (showing (255 ∷ []) [] (ron (man 9))) [] (refuses 14)

-- after 8: a dragon is no seat wind
abbrev pub seat_before_indicator : Row
seat_before_indicator =
    won (hand (mans 12355 ++ pins 456 ++ sous 234678)) [] (showing (34 ∷ []) [] (win by_ron (sou 8) East White [])) [] (refuses 8)

-- ---- 9 the winning tile is no tile or not in the hand
abbrev pub tile_not_in_hand : Row
tile_not_in_hand =
    won (hand (mans 12355 ++ pins 456 ++ sous 234678)) [] (ron (sou 9)) [] (refuses 9)

-- in a call alone
abbrev pub tile_in_call_only : Row
tile_in_call_only =
    won (hand (mans 55 ++ pins 456 ++ sous 234678)) (chi (man 1) ∷ []) (ron (man 1)) [] (refuses 9)

abbrev pub tile_above33 : Row
tile_above33 =
    won (hand (mans 12355 ++ pins 456 ++ sous 234678)) [] (ron 34) [] (refuses 9)

-- ---- 10 no reading: by number 0 it is refused with 12
abbrev pub no_reading : Row
no_reading =
    won (hand (mans 1379 ++ pins 1379 ++ sous 1379 ++ (East ∷ South ∷ []))) [] (ron East) [] (refuses 10)

-- one tile away from a win
abbrev pub one_tile_away : Row
one_tile_away =
    won (hand (mans 12356 ++ pins 456 ++ sous 234678)) [] (south_wins by_ron (sou 8) (riichi ∷ [])) [] (refuses 10)

-- ---- 11 no reading has a yaku: by number it is answered with 0 han, and the number after it is refused with 12
abbrev pub closed_without_yaku : Row
closed_without_yaku =
    yakuless (hand (mans 123456 ++ pins 789 ++ sous 22555)) [] (ron (man 1)) 40 (Ron 700)

-- ---- Payment alone: 8 for the win type, before 13 for basic points above 152,000
abbrev pub basic_win_type : Row
basic_win_type = asked 152001 2 non_dealer (Refused 8)
