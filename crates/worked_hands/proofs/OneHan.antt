-- The worked hands of specs/OneHan.antt hold: each row is computed from the definitions. Assumes nothing.
use lib.Dec.{T}
use Rattle.played.specs.Row.{holds}
use Rattle.played.proofs.Quick.{quick}
use Rattle.worked_hands.specs.OneHan.{riichi_closed, riichi_with_closed_kan, riichi_open, riichi_not_declared, ippatsu_after_riichi, ippatsu_without_riichi, ippatsu_after_kan, tsumo_closed, tsumo_with_closed_kan, tsumo_open, tanyao_closed, tanyao_open, tanyao_terminal, tanyao_terminal_called, tanyao_honor_pair, pinfu_other_wind, pinfu_other_wind_tsumo, pinfu_seat_wind, pinfu_round_wind, pinfu_dragon_pair, pinfu_middle, pinfu_edge, pinfu_low_edge, pinfu_pair_wait, pinfu_triplet, pinfu_open, pinfu_edge_or_sides, pinfu_pair_or_sides, iipeikou_twice, iipeikou_with_closed_kan, iipeikou_open, iipeikou_two_suits, yakuhai_round_east, yakuhai_east_elsewhere, yakuhai_seat_south, yakuhai_round_south, yakuhai_south_elsewhere, yakuhai_seat_west, yakuhai_round_west, yakuhai_west_elsewhere, yakuhai_seat_north, yakuhai_round_north, yakuhai_north_elsewhere, yakuhai_east_twice, yakuhai_south_twice, yakuhai_west_twice, yakuhai_north_twice, yakuhai_white, yakuhai_white_across, yakuhai_white_right, yakuhai_green, yakuhai_red, yakuhai_closed_triplet, yakuhai_kan, yakuhai_white_pair, yakuhai_green_pair, yakuhai_red_pair, rinshan_closed, rinshan_open, rinshan_by_ron, chankan_alone, chankan_closed, chankan_by_tsumo, haitei_alone, haitei_closed, haitei_after_kan, houtei_alone, houtei_closed, houtei_and_chankan, houtei_earlier}

-- ---- Riichi
pub riichi_closed_holds : T (holds riichi_closed)
unfolding holds
riichi_closed_holds = quick riichi_closed tt

pub riichi_with_closed_kan_holds : T (holds riichi_with_closed_kan)
unfolding holds
riichi_with_closed_kan_holds = quick riichi_with_closed_kan tt

pub riichi_open_holds : T (holds riichi_open)
unfolding holds
riichi_open_holds = quick riichi_open tt

pub riichi_not_declared_holds : T (holds riichi_not_declared)
unfolding holds
riichi_not_declared_holds = quick riichi_not_declared tt

-- ---- Ippatsu
pub ippatsu_after_riichi_holds : T (holds ippatsu_after_riichi)
unfolding holds
ippatsu_after_riichi_holds = quick ippatsu_after_riichi tt

pub ippatsu_without_riichi_holds : T (holds ippatsu_without_riichi)
unfolding holds
ippatsu_without_riichi_holds = quick ippatsu_without_riichi tt

pub ippatsu_after_kan_holds : T (holds ippatsu_after_kan)
unfolding holds
ippatsu_after_kan_holds = quick ippatsu_after_kan tt

-- ---- MenzenTsumo
pub tsumo_closed_holds : T (holds tsumo_closed)
unfolding holds
tsumo_closed_holds = quick tsumo_closed tt

pub tsumo_with_closed_kan_holds : T (holds tsumo_with_closed_kan)
unfolding holds
tsumo_with_closed_kan_holds = quick tsumo_with_closed_kan tt

pub tsumo_open_holds : T (holds tsumo_open)
unfolding holds
tsumo_open_holds = quick tsumo_open tt

-- ---- Tanyao
pub tanyao_closed_holds : T (holds tanyao_closed)
unfolding holds
tanyao_closed_holds = quick tanyao_closed tt

pub tanyao_open_holds : T (holds tanyao_open)
unfolding holds
tanyao_open_holds = quick tanyao_open tt

pub tanyao_terminal_holds : T (holds tanyao_terminal)
unfolding holds
tanyao_terminal_holds = quick tanyao_terminal tt

pub tanyao_terminal_called_holds : T (holds tanyao_terminal_called)
unfolding holds
tanyao_terminal_called_holds = quick tanyao_terminal_called tt

pub tanyao_honor_pair_holds : T (holds tanyao_honor_pair)
unfolding holds
tanyao_honor_pair_holds = quick tanyao_honor_pair tt

-- ---- Pinfu
pub pinfu_other_wind_holds : T (holds pinfu_other_wind)
unfolding holds
pinfu_other_wind_holds = quick pinfu_other_wind tt

pub pinfu_other_wind_tsumo_holds : T (holds pinfu_other_wind_tsumo)
unfolding holds
pinfu_other_wind_tsumo_holds = quick pinfu_other_wind_tsumo tt

pub pinfu_seat_wind_holds : T (holds pinfu_seat_wind)
unfolding holds
pinfu_seat_wind_holds = quick pinfu_seat_wind tt

pub pinfu_round_wind_holds : T (holds pinfu_round_wind)
unfolding holds
pinfu_round_wind_holds = quick pinfu_round_wind tt

pub pinfu_dragon_pair_holds : T (holds pinfu_dragon_pair)
unfolding holds
pinfu_dragon_pair_holds = quick pinfu_dragon_pair tt

pub pinfu_middle_holds : T (holds pinfu_middle)
unfolding holds
pinfu_middle_holds = quick pinfu_middle tt

pub pinfu_edge_holds : T (holds pinfu_edge)
unfolding holds
pinfu_edge_holds = quick pinfu_edge tt

pub pinfu_low_edge_holds : T (holds pinfu_low_edge)
unfolding holds
pinfu_low_edge_holds = quick pinfu_low_edge tt

pub pinfu_pair_wait_holds : T (holds pinfu_pair_wait)
unfolding holds
pinfu_pair_wait_holds = quick pinfu_pair_wait tt

pub pinfu_triplet_holds : T (holds pinfu_triplet)
unfolding holds
pinfu_triplet_holds = quick pinfu_triplet tt

pub pinfu_open_holds : T (holds pinfu_open)
unfolding holds
pinfu_open_holds = quick pinfu_open tt

pub pinfu_edge_or_sides_holds : T (holds pinfu_edge_or_sides)
unfolding holds
pinfu_edge_or_sides_holds = quick pinfu_edge_or_sides tt

pub pinfu_pair_or_sides_holds : T (holds pinfu_pair_or_sides)
unfolding holds
pinfu_pair_or_sides_holds = quick pinfu_pair_or_sides tt

-- ---- Iipeikou
pub iipeikou_twice_holds : T (holds iipeikou_twice)
unfolding holds
iipeikou_twice_holds = quick iipeikou_twice tt

pub iipeikou_with_closed_kan_holds : T (holds iipeikou_with_closed_kan)
unfolding holds
iipeikou_with_closed_kan_holds = quick iipeikou_with_closed_kan tt

pub iipeikou_open_holds : T (holds iipeikou_open)
unfolding holds
iipeikou_open_holds = quick iipeikou_open tt

pub iipeikou_two_suits_holds : T (holds iipeikou_two_suits)
unfolding holds
iipeikou_two_suits_holds = quick iipeikou_two_suits tt

-- ---- Yakuhai
pub yakuhai_round_east_holds : T (holds yakuhai_round_east)
unfolding holds
yakuhai_round_east_holds = quick yakuhai_round_east tt

pub yakuhai_east_elsewhere_holds : T (holds yakuhai_east_elsewhere)
unfolding holds
yakuhai_east_elsewhere_holds = quick yakuhai_east_elsewhere tt

pub yakuhai_seat_south_holds : T (holds yakuhai_seat_south)
unfolding holds
yakuhai_seat_south_holds = quick yakuhai_seat_south tt

pub yakuhai_round_south_holds : T (holds yakuhai_round_south)
unfolding holds
yakuhai_round_south_holds = quick yakuhai_round_south tt

pub yakuhai_south_elsewhere_holds : T (holds yakuhai_south_elsewhere)
unfolding holds
yakuhai_south_elsewhere_holds = quick yakuhai_south_elsewhere tt

pub yakuhai_seat_west_holds : T (holds yakuhai_seat_west)
unfolding holds
yakuhai_seat_west_holds = quick yakuhai_seat_west tt

pub yakuhai_round_west_holds : T (holds yakuhai_round_west)
unfolding holds
yakuhai_round_west_holds = quick yakuhai_round_west tt

pub yakuhai_west_elsewhere_holds : T (holds yakuhai_west_elsewhere)
unfolding holds
yakuhai_west_elsewhere_holds = quick yakuhai_west_elsewhere tt

pub yakuhai_seat_north_holds : T (holds yakuhai_seat_north)
unfolding holds
yakuhai_seat_north_holds = quick yakuhai_seat_north tt

pub yakuhai_round_north_holds : T (holds yakuhai_round_north)
unfolding holds
yakuhai_round_north_holds = quick yakuhai_round_north tt

pub yakuhai_north_elsewhere_holds : T (holds yakuhai_north_elsewhere)
unfolding holds
yakuhai_north_elsewhere_holds = quick yakuhai_north_elsewhere tt

pub yakuhai_east_twice_holds : T (holds yakuhai_east_twice)
unfolding holds
yakuhai_east_twice_holds = quick yakuhai_east_twice tt

pub yakuhai_south_twice_holds : T (holds yakuhai_south_twice)
unfolding holds
yakuhai_south_twice_holds = quick yakuhai_south_twice tt

pub yakuhai_west_twice_holds : T (holds yakuhai_west_twice)
unfolding holds
yakuhai_west_twice_holds = quick yakuhai_west_twice tt

pub yakuhai_north_twice_holds : T (holds yakuhai_north_twice)
unfolding holds
yakuhai_north_twice_holds = quick yakuhai_north_twice tt

pub yakuhai_white_holds : T (holds yakuhai_white)
unfolding holds
yakuhai_white_holds = quick yakuhai_white tt

pub yakuhai_white_across_holds : T (holds yakuhai_white_across)
unfolding holds
yakuhai_white_across_holds = quick yakuhai_white_across tt

pub yakuhai_white_right_holds : T (holds yakuhai_white_right)
unfolding holds
yakuhai_white_right_holds = quick yakuhai_white_right tt

pub yakuhai_green_holds : T (holds yakuhai_green)
unfolding holds
yakuhai_green_holds = quick yakuhai_green tt

pub yakuhai_red_holds : T (holds yakuhai_red)
unfolding holds
yakuhai_red_holds = quick yakuhai_red tt

pub yakuhai_closed_triplet_holds : T (holds yakuhai_closed_triplet)
unfolding holds
yakuhai_closed_triplet_holds = quick yakuhai_closed_triplet tt

pub yakuhai_kan_holds : T (holds yakuhai_kan)
unfolding holds
yakuhai_kan_holds = quick yakuhai_kan tt

pub yakuhai_white_pair_holds : T (holds yakuhai_white_pair)
unfolding holds
yakuhai_white_pair_holds = quick yakuhai_white_pair tt

pub yakuhai_green_pair_holds : T (holds yakuhai_green_pair)
unfolding holds
yakuhai_green_pair_holds = quick yakuhai_green_pair tt

pub yakuhai_red_pair_holds : T (holds yakuhai_red_pair)
unfolding holds
yakuhai_red_pair_holds = quick yakuhai_red_pair tt

-- ---- RinshanKaihou
pub rinshan_closed_holds : T (holds rinshan_closed)
unfolding holds
rinshan_closed_holds = quick rinshan_closed tt

pub rinshan_open_holds : T (holds rinshan_open)
unfolding holds
rinshan_open_holds = quick rinshan_open tt

pub rinshan_by_ron_holds : T (holds rinshan_by_ron)
unfolding holds
rinshan_by_ron_holds = quick rinshan_by_ron tt

-- ---- Chankan
pub chankan_alone_holds : T (holds chankan_alone)
unfolding holds
chankan_alone_holds = quick chankan_alone tt

pub chankan_closed_holds : T (holds chankan_closed)
unfolding holds
chankan_closed_holds = quick chankan_closed tt

pub chankan_by_tsumo_holds : T (holds chankan_by_tsumo)
unfolding holds
chankan_by_tsumo_holds = quick chankan_by_tsumo tt

-- ---- HaiteiRaoyue
pub haitei_alone_holds : T (holds haitei_alone)
unfolding holds
haitei_alone_holds = quick haitei_alone tt

pub haitei_closed_holds : T (holds haitei_closed)
unfolding holds
haitei_closed_holds = quick haitei_closed tt

pub haitei_after_kan_holds : T (holds haitei_after_kan)
unfolding holds
haitei_after_kan_holds = quick haitei_after_kan tt

-- ---- HouteiRaoyui
pub houtei_alone_holds : T (holds houtei_alone)
unfolding holds
houtei_alone_holds = quick houtei_alone tt

pub houtei_closed_holds : T (holds houtei_closed)
unfolding holds
houtei_closed_holds = quick houtei_closed tt

pub houtei_and_chankan_holds : T (holds houtei_and_chankan)
unfolding holds
houtei_and_chankan_holds = quick houtei_and_chankan tt

pub houtei_earlier_holds : T (holds houtei_earlier)
unfolding holds
houtei_earlier_holds = quick houtei_earlier tt
