-- What refuses a win, by examples: for 8, 14 and 9 an input with this fault and near misses, and two faults at once. Assumes nothing.
use mathlib.Core.Path.{◌≡◌, refl}
use mathlib.Core.List.{List, [], ◌∷◌, ◌++◌}
use Prim.Native.Nat.{ℕ}
use lib.ListN.{length, replicate}
use Rattle.tile.specs.Named.{man, sou, mans, pins, sous, East, South, North, White, Red}
use Rattle.rules.specs.Rules.{Game, four, three}
use Rattle.meld.specs.declared.Meld.{Meld}
use Rattle.meld.specs.Named.{pon}
use Rattle.context.specs.declared.GameContext.{GameContext}
use Rattle.context.specs.Context.{in_room, indicating}
use Rattle.context.specs.Named.{win, ron, tsumo, by_ron, indicators, showing}
use Rattle.hand.specs.Named.{hand}
use Rattle.checks.specs.Checks.{check, hand_check_in}
use Rattle.win.specs.Win.{or_then, win_check_in}

-- in the game g, and with four players
abbrev refuses_in : Game → List ℕ → List Meld → GameContext → ℕ
refuses_in g ts ms w = win_check_in g (hand ts) (record { count = length ms; melds = ms }) w

abbrev refuses : List ℕ → List Meld → GameContext → ℕ
refuses = refuses_in four

abbrev eleven : List ℕ
eleven = mans 55 ++ (pins 456 ++ sous 234678)

abbrev fourteen : List ℕ
fourteen = mans 123 ++ eleven

-- ---- 0: nothing is wrong
pub ron_passes : refuses fourteen [] (ron (sou 8)) ≡ 0
unfolding win_check_in or_then hand_check_in check
ron_passes = refl

pub tsumo_passes : refuses fourteen [] (tsumo (man 5)) ≡ 0
unfolding win_check_in or_then hand_check_in check
tsumo_passes = refl

-- North is the last of the winds
pub north_passes : refuses fourteen [] (win by_ron (sou 8) North North []) ≡ 0
unfolding win_check_in or_then hand_check_in check
north_passes = refl

-- four and two are settings of a room
pub two_passes : refuses fourteen [] (in_room 2 (ron (sou 8))) ≡ 0
unfolding win_check_in or_then hand_check_in check
two_passes = refl

-- ---- 8: the win type, a wind or the room's setting is out of range
pub third_type : refuses fourteen [] (win 2 (sou 8) East South []) ≡ 8
unfolding win_check_in or_then hand_check_in check
third_type = refl

pub round_white : refuses fourteen [] (win by_ron (sou 8) White South []) ≡ 8
unfolding win_check_in or_then hand_check_in check
round_white = refl

pub seat_of_a_suit : refuses fourteen [] (win by_ron (sou 8) East (sou 9) []) ≡ 8
unfolding win_check_in or_then hand_check_in check
seat_of_a_suit = refl

-- a table that forgets the setting is refused
pub no_setting_holds : refuses fourteen [] (in_room 0 (ron (sou 8))) ≡ 8
unfolding win_check_in or_then hand_check_in check
no_setting_holds = refl

pub setting_three_holds : refuses fourteen [] (in_room 3 (ron (sou 8))) ≡ 8
unfolding win_check_in or_then hand_check_in check
setting_three_holds = refl

-- ---- 14: more than ten indicators, or one that is shown is above 33
-- the ten places that follow a count
abbrev places : List ℕ
places = man 1 ∷ Red ∷ man 1 ∷ man 1 ∷ man 1 ∷ man 1 ∷ man 1 ∷ man 1 ∷ man 1 ∷ 34 ∷ []

-- so many are shown, of either sort
abbrev shows : ℕ → GameContext → GameContext
shows n w = indicating (record { count = n; tiles = places }) w.ura_dora_indicators w

abbrev shows_below : ℕ → GameContext → GameContext
shows_below n w = indicating w.dora_indicators (record { count = n; tiles = places }) w

-- what stands behind the count is no fault: nine are tiles
pub nine_pass : refuses fourteen [] (shows 9 (ron (sou 8))) ≡ 0
unfolding win_check_in or_then hand_check_in check
nine_pass = refl

-- the tenth is shown too
pub tenth_above : refuses fourteen [] (shows 10 (ron (sou 8))) ≡ 14
unfolding win_check_in or_then hand_check_in check
tenth_above = refl

-- ten pass where each is a tile, Red being the last
pub ten_pass : refuses fourteen [] (showing (replicate 10 Red) (replicate 10 Red) (ron (sou 8))) ≡ 0
unfolding win_check_in or_then hand_check_in check
ten_pass = refl

-- eleven do not, nor do 255
pub eleven_shown : refuses fourteen [] (indicating (record { count = 11; tiles = replicate 10 Red }) (indicators []) (ron (sou 8))) ≡ 14
unfolding win_check_in or_then hand_check_in check
eleven_shown = refl

pub most_shown : refuses fourteen [] (indicating (record { count = 255; tiles = replicate 10 Red }) (indicators []) (ron (sou 8))) ≡ 14
unfolding win_check_in or_then hand_check_in check
most_shown = refl

-- those below are looked at without riichi too
pub tenth_below : refuses fourteen [] (shows_below 10 (ron (sou 8))) ≡ 14
unfolding win_check_in or_then hand_check_in check
tenth_below = refl

-- ---- 8 comes before 14, and 14 before 9
pub eight_before_fourteen : refuses fourteen [] (shows 10 (win by_ron (sou 8) White South [])) ≡ 8
unfolding win_check_in or_then hand_check_in check
eight_before_fourteen = refl

pub fourteen_before_nine : refuses fourteen [] (shows 10 (ron (sou 9))) ≡ 14
unfolding win_check_in or_then hand_check_in check
fourteen_before_nine = refl

-- ---- 9: the winning tile is above 33 or not in the hand
pub no_tile : refuses fourteen [] (ron 34) ≡ 9
unfolding win_check_in or_then hand_check_in check
no_tile = refl

pub tile_elsewhere : refuses fourteen [] (ron (sou 9)) ≡ 9
unfolding win_check_in or_then hand_check_in check
tile_elsewhere = refl

-- the tiles of a call are not in the hand
pub tile_called : refuses eleven (pon Red ∷ []) (ron Red) ≡ 9
unfolding win_check_in or_then hand_check_in check
tile_called = refl

pub tile_called_and_held : refuses (mans 123 ++ (pins 456 ++ sous 23488)) (pon (man 3) ∷ []) (ron (man 3)) ≡ 0
unfolding win_check_in or_then hand_check_in check
tile_called_and_held = refl

-- ---- two faults: the lower number
pub six_before_eight : refuses eleven [] (win 2 (sou 8) East South []) ≡ 6
unfolding win_check_in or_then hand_check_in check
six_before_eight = refl

pub eight_before_nine : refuses fourteen [] (win 2 (sou 9) East South []) ≡ 8
unfolding win_check_in or_then hand_check_in check
eight_before_nine = refl

pub six_before_setting : refuses eleven [] (in_room 0 (ron (sou 8))) ≡ 6
unfolding win_check_in or_then hand_check_in check
six_before_setting = refl

pub setting_before_nine : refuses fourteen [] (in_room 0 (ron (sou 9))) ≡ 8
unfolding win_check_in or_then hand_check_in check
setting_before_nine = refl

-- ---- with three players: no indicator is shown, of either sort
-- 123 of sou beside 11 tiles with man 11
abbrev of_three : List ℕ
of_three = mans 11 ++ (pins 456 ++ (sous 123 ++ sous 234678))

pub three_ron_passes : refuses_in three of_three [] (ron (sou 8)) ≡ 0
unfolding win_check_in or_then hand_check_in check
three_ron_passes = refl

pub three_north_passes : refuses_in three of_three [] (win by_ron (sou 8) North North []) ≡ 0
unfolding win_check_in or_then hand_check_in check
three_north_passes = refl

pub three_shown : refuses_in three of_three [] (showing (sou 1 ∷ []) [] (ron (sou 8))) ≡ 14
unfolding win_check_in or_then hand_check_in check
three_shown = refl

pub three_below : refuses_in three of_three [] (showing [] (sou 1 ∷ []) (ron (sou 8))) ≡ 14
unfolding win_check_in or_then hand_check_in check
three_below = refl

-- 9: an absent tile is not in the hand; 14 comes before it, and 8 before both
pub three_absent_won_holds : refuses_in three of_three [] (ron (man 5)) ≡ 9
unfolding win_check_in or_then hand_check_in check
three_absent_won_holds = refl

pub three_shown_before_nine : refuses_in three of_three [] (showing (sou 1 ∷ []) [] (ron (man 5))) ≡ 14
unfolding win_check_in or_then hand_check_in check
three_shown_before_nine = refl

pub three_eight_before_shown : refuses_in three of_three [] (showing (sou 1 ∷ []) [] (win 2 (sou 8) East South [])) ≡ 8
unfolding win_check_in or_then hand_check_in check
three_eight_before_shown = refl
