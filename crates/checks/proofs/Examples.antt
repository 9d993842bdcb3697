-- What refuses a hand, by examples: for each number an input with this fault and near misses, and two faults at once. Assumes nothing.
use mathlib.Core.Path.{◌≡◌, refl}
use mathlib.Core.List.{List, [], ◌∷◌, ◌++◌}
use Prim.Native.Nat.{ℕ}
use lib.ListN.{length, take}
use Rattle.tile.specs.Named.{man, pin, mans, pins, sous, East, Red}
use Rattle.rules.specs.Rules.{Game, four, three}
use Rattle.meld.specs.declared.Meld.{Meld}
use Rattle.meld.specs.Meld.{from_seat}
use Rattle.meld.specs.Named.{run, triplet, chi, pon, closed_kan, open_kan, added_kan, from_right, from_across, from_left}
use Rattle.hand.specs.Named.{hand}
use Rattle.checks.specs.declared.Calls.{Calls}
use Rattle.checks.specs.Checks.{check, hand_check_in, hand_check}

abbrev calling : List Meld → Calls
calling ms = record { count = length ms; melds = ms }

-- in the game g, and with four players
abbrev refuses_in : Game → List ℕ → List Meld → ℕ
refuses_in g ts ms = hand_check_in g (hand ts) (calling ms)

abbrev refuses : List ℕ → List Meld → ℕ
refuses = refuses_in four

-- 11 tiles, and with man 123 14
abbrev eleven : List ℕ
eleven = mans 55 ++ (pins 456 ++ sous 234678)

abbrev fourteen : List ℕ
fourteen = mans 123 ++ eleven

-- ---- 0: nothing is wrong
pub uncalled_passes : refuses fourteen [] ≡ 0
unfolding hand_check_in check
uncalled_passes = refl

-- beside a called meld of three, or of four, the hand has 11
pub chi_passes : refuses eleven (chi (man 1) ∷ []) ≡ 0
unfolding hand_check_in check
chi_passes = refl

pub kan_passes : refuses eleven (closed_kan Red ∷ []) ≡ 0
unfolding hand_check_in check
kan_passes = refl

-- four calls, and the pair
pub four_calls_pass : refuses (mans 55) (chi (man 7) ∷ pon East ∷ open_kan Red ∷ added_kan (man 1) ∷ []) ≡ 0
unfolding hand_check_in check
four_calls_pass = refl

-- ---- 1: the counts are not 34 long
pub one_count_short : hand_check (take 33 (hand fourteen)) (calling []) ≡ 1
unfolding hand_check_in check
one_count_short = refl

pub one_count_long : hand_check (hand fourteen ++ (0 ∷ [])) (calling []) ≡ 1
unfolding hand_check_in check
one_count_long = refl

-- ---- 2: more than four calls
pub five_calls_holds : refuses [] (pon (man 1) ∷ pon (man 2) ∷ pon (man 3) ∷ pon (man 4) ∷ pon (man 5) ∷ []) ≡ 2
unfolding hand_check_in check
five_calls_holds = refl

-- ---- 3: a call's kind, tile or source is not one that can be called
pub closed_run_called : refuses eleven (run (man 1) ∷ []) ≡ 3
unfolding hand_check_in check
closed_run_called = refl

pub closed_triplet_called : refuses eleven (triplet Red ∷ []) ≡ 3
unfolding hand_check_in check
closed_triplet_called = refl

-- 789 is a sequence, 8 9 1 of the next suit is none
pub chi_from_seven : refuses eleven (chi (man 7) ∷ []) ≡ 0
unfolding hand_check_in check
chi_from_seven = refl

pub chi_from_eight : refuses eleven (chi (man 8) ∷ []) ≡ 3
unfolding hand_check_in check
chi_from_eight = refl

pub chi_of_winds : refuses eleven (chi East ∷ []) ≡ 3
unfolding hand_check_in check
chi_of_winds = refl

-- a sequence comes from the left alone, a closed kan from nobody, any other call from one of the three others
pub chi_from_right : refuses eleven (from_right (chi (man 7)) ∷ []) ≡ 3
unfolding hand_check_in check
chi_from_right = refl

pub chi_from_across : refuses eleven (from_across (chi (man 7)) ∷ []) ≡ 3
unfolding hand_check_in check
chi_from_across = refl

pub pon_from_right : refuses eleven (from_right (pon Red) ∷ []) ≡ 0
unfolding hand_check_in check
pon_from_right = refl

pub pon_from_nobody : refuses eleven (from_seat 0 (pon Red) ∷ []) ≡ 3
unfolding hand_check_in check
pon_from_nobody = refl

pub added_kan_from_fourth : refuses eleven (from_seat 4 (added_kan Red) ∷ []) ≡ 3
unfolding hand_check_in check
added_kan_from_fourth = refl

pub closed_kan_from_left_holds : refuses eleven (from_left (closed_kan Red) ∷ []) ≡ 3
unfolding hand_check_in check
closed_kan_from_left_holds = refl

-- Red is the last tile
pub pon_past_red : refuses eleven (pon 34 ∷ []) ≡ 3
unfolding hand_check_in check
pon_past_red = refl

-- ---- 4: a count above 4
pub four_of_a_tile : refuses (mans 11112355 ++ sous 234678) [] ≡ 0
unfolding hand_check_in check
four_of_a_tile = refl

pub five_of_a_tile : refuses (mans 11111355 ++ sous 234678) [] ≡ 4
unfolding hand_check_in check
five_of_a_tile = refl

-- ---- 5: hand and calls together hold more than four of one tile
pub fourth_beside_pon : refuses (mans 12355 ++ sous 234678) (pon (man 1) ∷ []) ≡ 0
unfolding hand_check_in check
fourth_beside_pon = refl

pub fifth_beside_pon : refuses (mans 11355 ++ sous 234678) (pon (man 1) ∷ []) ≡ 5
unfolding hand_check_in check
fifth_beside_pon = refl

pub fifth_beside_kan : refuses (mans 12355 ++ sous 234678) (closed_kan (man 1) ∷ []) ≡ 5
unfolding hand_check_in check
fifth_beside_kan = refl

-- ---- 6: the hand's tiles are not 14 - 3 × calls
pub thirteen_tiles_holds : refuses (mans 23 ++ eleven) [] ≡ 6
unfolding hand_check_in check
thirteen_tiles_holds = refl

pub fifteen_tiles_holds : refuses (mans 1233 ++ eleven) [] ≡ 6
unfolding hand_check_in check
fifteen_tiles_holds = refl

-- a kan takes three of the fourteen, as any meld
pub ten_beside_kan : refuses (mans 5 ++ (pins 456 ++ sous 234678)) (closed_kan Red ∷ []) ≡ 6
unfolding hand_check_in check
ten_beside_kan = refl

pub fourteen_beside_call : refuses fourteen (pon Red ∷ []) ≡ 6
unfolding hand_check_in check
fourteen_beside_call = refl

-- ---- two faults: the lower number
pub one_before_two : hand_check [] (calling (pon (man 1) ∷ pon (man 2) ∷ pon (man 3) ∷ pon (man 4) ∷ pon (man 5) ∷ [])) ≡ 1
unfolding hand_check_in check
one_before_two = refl

pub two_before_three : refuses [] (run (man 1) ∷ pon (man 2) ∷ pon (man 3) ∷ pon (man 4) ∷ pon (man 5) ∷ []) ≡ 2
unfolding hand_check_in check
two_before_three = refl

pub three_before_four : refuses (mans 11111 ++ sous 234678) (triplet Red ∷ []) ≡ 3
unfolding hand_check_in check
three_before_four = refl

pub four_before_five : refuses (mans 11111 ++ sous 234678) (pon (man 1) ∷ []) ≡ 4
unfolding hand_check_in check
four_before_five = refl

pub four_before_six : refuses (mans 11111) [] ≡ 4
unfolding hand_check_in check
four_before_six = refl

pub five_before_six : refuses (mans 11) (pon (man 1) ∷ []) ≡ 5
unfolding hand_check_in check
five_before_six = refl

-- ---- with three players: man 2 to 8 are absent
-- 11 tiles, and with man 999 14
abbrev eleven_of_three : List ℕ
eleven_of_three = mans 11 ++ (pins 456 ++ sous 234678)

abbrev fourteen_of_three : List ℕ
fourteen_of_three = mans 999 ++ eleven_of_three

pub three_uncalled_passes : refuses_in three fourteen_of_three [] ≡ 0
unfolding hand_check_in check
three_uncalled_passes = refl

pub three_pon_passes : refuses_in three eleven_of_three (from_seat 1 (pon (man 9)) ∷ []) ≡ 0
unfolding hand_check_in check
three_pon_passes = refl

pub three_kan_passes : refuses_in three eleven_of_three (from_seat 2 (open_kan Red) ∷ []) ≡ 0
unfolding hand_check_in check
three_kan_passes = refl

pub three_closed_kan_passes : refuses_in three eleven_of_three (closed_kan East ∷ []) ≡ 0
unfolding hand_check_in check
three_closed_kan_passes = refl

-- 3: an open sequence, whoever it came from
pub three_chi : refuses_in three eleven_of_three (chi (pin 1) ∷ []) ≡ 3
unfolding hand_check_in check
three_chi = refl

pub three_chi_from_before : refuses_in three eleven_of_three (from_seat 2 (chi (pin 1)) ∷ []) ≡ 3
unfolding hand_check_in check
three_chi_from_before = refl

-- 3: a call of an absent tile, and a source of 3
pub three_pon_absent : refuses_in three eleven_of_three (from_seat 1 (pon (man 5)) ∷ []) ≡ 3
unfolding hand_check_in check
three_pon_absent = refl

pub three_kan_absent : refuses_in three eleven_of_three (closed_kan (man 8) ∷ []) ≡ 3
unfolding hand_check_in check
three_kan_absent = refl

pub three_from_third : refuses_in three eleven_of_three (from_seat 3 (pon Red) ∷ []) ≡ 3
unfolding hand_check_in check
three_from_third = refl

-- 4: a count above 0 of an absent tile; man 1 and 9 are there
pub three_man_2 : refuses_in three (mans 23455 ++ (pins 456 ++ sous 234678)) [] ≡ 4
unfolding hand_check_in check
three_man_2 = refl

pub three_man_8 : refuses_in three (mans 8 ++ (mans 99 ++ eleven_of_three)) [] ≡ 4
unfolding hand_check_in check
three_man_8 = refl

pub three_five_of_a_tile : refuses_in three (mans 99999 ++ sous 234678) [] ≡ 4
unfolding hand_check_in check
three_five_of_a_tile = refl

-- two faults: the lower number
pub three_before_absent : refuses_in three (mans 5 ++ (pins 456 ++ sous 234678)) (chi (pin 1) ∷ []) ≡ 3
unfolding hand_check_in check
three_before_absent = refl

pub absent_before_five : refuses_in three (mans 511 ++ sous 234678) (from_seat 1 (pon (man 1)) ∷ []) ≡ 4
unfolding hand_check_in check
absent_before_five = refl

pub absent_before_six : refuses_in three (mans 5) [] ≡ 4
unfolding hand_check_in check
absent_before_six = refl
