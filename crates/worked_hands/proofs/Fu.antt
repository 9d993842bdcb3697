-- The worked hands of specs/Fu.antt hold: each row is computed from the definitions. Assumes nothing.
use lib.Dec.{T}
use Rattle.played.specs.Row.{holds}
use Rattle.played.proofs.Quick.{quick}
use Rattle.worked_hands.specs.Fu.{fu_middle, fu_edge, fu_pair, fu_pair_or_sides, fu_sides, fu_middle_open, fu_called_sequence, fu_triplet_ron, fu_triplet_tsumo, fu_triplet_terminals, fu_triplet_honors, fu_two_open, fu_three_open, fu_spared, fu_open_kan, fu_added_kan, fu_closed_kan, fu_closed_kan_terminals, fu_closed_kan_tsumo, fu_two_kans, fu_kans_and_triplet, fu_most, fu_pair_twice, fu_pair_twice_at_two, fu_pair_twice_tsumo, fu_pair_twice_tsumo_at_two, fu_triplet_twice_at_two, fu_pair_once, fu_pair_none, fu_pair_seat, fu_pair_round, fu_pair_dragons, fu_pair_other_wind, fu_pinfu_tsumo, fu_open_ron, fu_open_tsumo, fu_tsumo_middle, fu_seven_pairs, fu_orphans}

-- ---- The wait
pub fu_middle_holds : T (holds fu_middle)
unfolding holds
fu_middle_holds = quick fu_middle tt

pub fu_edge_holds : T (holds fu_edge)
unfolding holds
fu_edge_holds = quick fu_edge tt

pub fu_pair_holds : T (holds fu_pair)
unfolding holds
fu_pair_holds = quick fu_pair tt

pub fu_pair_or_sides_holds : T (holds fu_pair_or_sides)
unfolding holds
fu_pair_or_sides_holds = quick fu_pair_or_sides tt

pub fu_sides_holds : T (holds fu_sides)
unfolding holds
fu_sides_holds = quick fu_sides tt

pub fu_middle_open_holds : T (holds fu_middle_open)
unfolding holds
fu_middle_open_holds = quick fu_middle_open tt

pub fu_called_sequence_holds : T (holds fu_called_sequence)
unfolding holds
fu_called_sequence_holds = quick fu_called_sequence tt

-- ---- Triplets
pub fu_triplet_ron_holds : T (holds fu_triplet_ron)
unfolding holds
fu_triplet_ron_holds = quick fu_triplet_ron tt

pub fu_triplet_tsumo_holds : T (holds fu_triplet_tsumo)
unfolding holds
fu_triplet_tsumo_holds = quick fu_triplet_tsumo tt

pub fu_triplet_terminals_holds : T (holds fu_triplet_terminals)
unfolding holds
fu_triplet_terminals_holds = quick fu_triplet_terminals tt

pub fu_triplet_honors_holds : T (holds fu_triplet_honors)
unfolding holds
fu_triplet_honors_holds = quick fu_triplet_honors tt

pub fu_two_open_holds : T (holds fu_two_open)
unfolding holds
fu_two_open_holds = quick fu_two_open tt

pub fu_three_open_holds : T (holds fu_three_open)
unfolding holds
fu_three_open_holds = quick fu_three_open tt

pub fu_spared_holds : T (holds fu_spared)
unfolding holds
fu_spared_holds = quick fu_spared tt

-- ---- Kans
pub fu_open_kan_holds : T (holds fu_open_kan)
unfolding holds
fu_open_kan_holds = quick fu_open_kan tt

pub fu_added_kan_holds : T (holds fu_added_kan)
unfolding holds
fu_added_kan_holds = quick fu_added_kan tt

pub fu_closed_kan_holds : T (holds fu_closed_kan)
unfolding holds
fu_closed_kan_holds = quick fu_closed_kan tt

pub fu_closed_kan_terminals_holds : T (holds fu_closed_kan_terminals)
unfolding holds
fu_closed_kan_terminals_holds = quick fu_closed_kan_terminals tt

pub fu_closed_kan_tsumo_holds : T (holds fu_closed_kan_tsumo)
unfolding holds
fu_closed_kan_tsumo_holds = quick fu_closed_kan_tsumo tt

pub fu_two_kans_holds : T (holds fu_two_kans)
unfolding holds
fu_two_kans_holds = quick fu_two_kans tt

pub fu_kans_and_triplet_holds : T (holds fu_kans_and_triplet)
unfolding holds
fu_kans_and_triplet_holds = quick fu_kans_and_triplet tt

pub fu_most_holds : T (holds fu_most)
unfolding holds
fu_most_holds = quick fu_most tt

-- ---- The pair
pub fu_pair_twice_holds : T (holds fu_pair_twice)
unfolding holds
fu_pair_twice_holds = quick fu_pair_twice tt

pub fu_pair_twice_at_two_holds : T (holds fu_pair_twice_at_two)
unfolding holds
fu_pair_twice_at_two_holds = quick fu_pair_twice_at_two tt

pub fu_pair_twice_tsumo_holds : T (holds fu_pair_twice_tsumo)
unfolding holds
fu_pair_twice_tsumo_holds = quick fu_pair_twice_tsumo tt

pub fu_pair_twice_tsumo_at_two_holds : T (holds fu_pair_twice_tsumo_at_two)
unfolding holds
fu_pair_twice_tsumo_at_two_holds = quick fu_pair_twice_tsumo_at_two tt

pub fu_triplet_twice_at_two_holds : T (holds fu_triplet_twice_at_two)
unfolding holds
fu_triplet_twice_at_two_holds = quick fu_triplet_twice_at_two tt

pub fu_pair_once_holds : T (holds fu_pair_once)
unfolding holds
fu_pair_once_holds = quick fu_pair_once tt

pub fu_pair_none_holds : T (holds fu_pair_none)
unfolding holds
fu_pair_none_holds = quick fu_pair_none tt

pub fu_pair_seat_holds : T (holds fu_pair_seat)
unfolding holds
fu_pair_seat_holds = quick fu_pair_seat tt

pub fu_pair_round_holds : T (holds fu_pair_round)
unfolding holds
fu_pair_round_holds = quick fu_pair_round tt

pub fu_pair_dragons_holds : T (holds fu_pair_dragons)
unfolding holds
fu_pair_dragons_holds = quick fu_pair_dragons tt

pub fu_pair_other_wind_holds : T (holds fu_pair_other_wind)
unfolding holds
fu_pair_other_wind_holds = quick fu_pair_other_wind tt

-- ---- Pinfu by tsumo has 20, an open hand at least 30, seven pairs 25, thirteen orphans 30
pub fu_pinfu_tsumo_holds : T (holds fu_pinfu_tsumo)
unfolding holds
fu_pinfu_tsumo_holds = quick fu_pinfu_tsumo tt

pub fu_open_ron_holds : T (holds fu_open_ron)
unfolding holds
fu_open_ron_holds = quick fu_open_ron tt

pub fu_open_tsumo_holds : T (holds fu_open_tsumo)
unfolding holds
fu_open_tsumo_holds = quick fu_open_tsumo tt

pub fu_tsumo_middle_holds : T (holds fu_tsumo_middle)
unfolding holds
fu_tsumo_middle_holds = quick fu_tsumo_middle tt

pub fu_seven_pairs_holds : T (holds fu_seven_pairs)
unfolding holds
fu_seven_pairs_holds = quick fu_seven_pairs tt

pub fu_orphans_holds : T (holds fu_orphans)
unfolding holds
fu_orphans_holds = quick fu_orphans tt
