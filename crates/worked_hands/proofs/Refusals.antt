-- The worked hands of specs/Refusals.antt hold: each row is computed from the definitions. Assumes nothing.
use lib.Dec.{T}
use Rattle.played.specs.Row.{holds}
use Rattle.played.proofs.Quick.{quick}
use Rattle.worked_hands.specs.Refusals.{five_calls, five_calls_five_tiles, sequence_from_eight, sequence_of_honors, sequence_from_right, sequence_from_across, closed_kan_from_left, five_in_hand, five_with_calls, five_with_kan, fifteen_tiles, eleven_tiles, kan_three_places, eleven_tiles_no_setting, no_such_win_type, white_as_seat, white_as_round, no_setting, setting_three, setting_before_tile, seat_before_tile, indicator_above33, ura_above33, indicator_before_tile, seat_before_indicator, tile_not_in_hand, tile_in_call_only, tile_above33, no_reading, one_tile_away, closed_without_yaku, basic_win_type}

-- ---- 2 more than four calls
pub five_calls_holds : T (holds five_calls)
unfolding holds
five_calls_holds = quick five_calls tt

pub five_calls_five_tiles_holds : T (holds five_calls_five_tiles)
unfolding holds
five_calls_five_tiles_holds = quick five_calls_five_tiles tt

-- ---- 3 a call's tile or source does not fit its kind
pub sequence_from_eight_holds : T (holds sequence_from_eight)
unfolding holds
sequence_from_eight_holds = quick sequence_from_eight tt

pub sequence_of_honors_holds : T (holds sequence_of_honors)
unfolding holds
sequence_of_honors_holds = quick sequence_of_honors tt

pub sequence_from_right_holds : T (holds sequence_from_right)
unfolding holds
sequence_from_right_holds = quick sequence_from_right tt

pub sequence_from_across_holds : T (holds sequence_from_across)
unfolding holds
sequence_from_across_holds = quick sequence_from_across tt

pub closed_kan_from_left_holds : T (holds closed_kan_from_left)
unfolding holds
closed_kan_from_left_holds = quick closed_kan_from_left tt

-- ---- 4 a count above four
pub five_in_hand_holds : T (holds five_in_hand)
unfolding holds
five_in_hand_holds = quick five_in_hand tt

-- ---- 5 more than four of a kind in hand and calls together
pub five_with_calls_holds : T (holds five_with_calls)
unfolding holds
five_with_calls_holds = quick five_with_calls tt

pub five_with_kan_holds : T (holds five_with_kan)
unfolding holds
five_with_kan_holds = quick five_with_kan tt

-- ---- 6 another number of tiles than 14 less 3 for each call
pub fifteen_tiles_holds : T (holds fifteen_tiles)
unfolding holds
fifteen_tiles_holds = quick fifteen_tiles tt

pub eleven_tiles_holds : T (holds eleven_tiles)
unfolding holds
eleven_tiles_holds = quick eleven_tiles tt

pub kan_three_places_holds : T (holds kan_three_places)
unfolding holds
kan_three_places_holds = quick kan_three_places tt

pub eleven_tiles_no_setting_holds : T (holds eleven_tiles_no_setting)
unfolding holds
eleven_tiles_no_setting_holds = quick eleven_tiles_no_setting tt

-- ---- 8 a win type, a wind or the room's setting out of range
pub no_such_win_type_holds : T (holds no_such_win_type)
unfolding holds
no_such_win_type_holds = quick no_such_win_type tt

pub white_as_seat_holds : T (holds white_as_seat)
unfolding holds
white_as_seat_holds = quick white_as_seat tt

pub white_as_round_holds : T (holds white_as_round)
unfolding holds
white_as_round_holds = quick white_as_round tt

pub no_setting_holds : T (holds no_setting)
unfolding holds
no_setting_holds = quick no_setting tt

pub setting_three_holds : T (holds setting_three)
unfolding holds
setting_three_holds = quick setting_three tt

pub setting_before_tile_holds : T (holds setting_before_tile)
unfolding holds
setting_before_tile_holds = quick setting_before_tile tt

pub seat_before_tile_holds : T (holds seat_before_tile)
unfolding holds
seat_before_tile_holds = quick seat_before_tile tt

-- ---- 14 an indicator is above 33, or there are more than ten
pub indicator_above33_holds : T (holds indicator_above33)
unfolding holds
indicator_above33_holds = quick indicator_above33 tt

pub ura_above33_holds : T (holds ura_above33)
unfolding holds
ura_above33_holds = quick ura_above33 tt

pub indicator_before_tile_holds : T (holds indicator_before_tile)
unfolding holds
indicator_before_tile_holds = quick indicator_before_tile tt

pub seat_before_indicator_holds : T (holds seat_before_indicator)
unfolding holds
seat_before_indicator_holds = quick seat_before_indicator tt

-- ---- 9 the winning tile is no tile or not in the hand
pub tile_not_in_hand_holds : T (holds tile_not_in_hand)
unfolding holds
tile_not_in_hand_holds = quick tile_not_in_hand tt

pub tile_in_call_only_holds : T (holds tile_in_call_only)
unfolding holds
tile_in_call_only_holds = quick tile_in_call_only tt

pub tile_above33_holds : T (holds tile_above33)
unfolding holds
tile_above33_holds = quick tile_above33 tt

-- ---- 10 no reading
pub no_reading_holds : T (holds no_reading)
unfolding holds
no_reading_holds = quick no_reading tt

pub one_tile_away_holds : T (holds one_tile_away)
unfolding holds
one_tile_away_holds = quick one_tile_away tt

-- ---- 11 no reading has a yaku
pub closed_without_yaku_holds : T (holds closed_without_yaku)
unfolding holds
closed_without_yaku_holds = quick closed_without_yaku tt

-- ---- Payment alone
pub basic_win_type_holds : T (holds basic_win_type)
unfolding holds
basic_win_type_holds = quick basic_win_type tt
