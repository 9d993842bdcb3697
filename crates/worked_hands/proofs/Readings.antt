-- The worked hands of specs/Readings.antt hold: each row is computed from the definitions. Assumes nothing.
use lib.Dec.{T}
use Rattle.played.specs.Row.{holds}
use Rattle.played.proofs.Quick.{quick}
use Rattle.worked_hands.specs.Readings.{choice_triplets, choice_pairs_dealer, choice_more_han, choice_more_fu, choice_earlier, choice_counted, choice_yakuman, choice_yakuman_or_none, choice_with_yaku, choice_order, four_as_triplet_and_sequence, four_as_pair, four_as_kan, calls_four, calls_no_pairs, calls_no_orphans, waits_two_sides, waits_middle, waits_high_edge, waits_low_edge, waits_triplet, waits_pair, waits_several, waits_twice, waits_of_two_readings, waits_called, waits_called_triplet, waits_seven_pairs, waits_orphans_pair, waits_orphans_other}

-- ---- The reading that pays most is chosen; then one with more han, then with more fu, then the earlier
pub choice_triplets_holds : T (holds choice_triplets)
unfolding holds
choice_triplets_holds = quick choice_triplets tt

pub choice_pairs_dealer_holds : T (holds choice_pairs_dealer)
unfolding holds
choice_pairs_dealer_holds = quick choice_pairs_dealer tt

pub choice_more_han_holds : T (holds choice_more_han)
unfolding holds
choice_more_han_holds = quick choice_more_han tt

pub choice_more_fu_holds : T (holds choice_more_fu)
unfolding holds
choice_more_fu_holds = quick choice_more_fu tt

pub choice_earlier_holds : T (holds choice_earlier)
unfolding holds
choice_earlier_holds = quick choice_earlier tt

pub choice_counted_holds : T (holds choice_counted)
unfolding holds
choice_counted_holds = quick choice_counted tt

pub choice_yakuman_holds : T (holds choice_yakuman)
unfolding holds
choice_yakuman_holds = quick choice_yakuman tt

pub choice_yakuman_or_none_holds : T (holds choice_yakuman_or_none)
unfolding holds
choice_yakuman_or_none_holds = quick choice_yakuman_or_none tt

pub choice_with_yaku_holds : T (holds choice_with_yaku)
unfolding holds
choice_with_yaku_holds = quick choice_with_yaku tt

pub choice_order_holds : T (holds choice_order)
unfolding holds
choice_order_holds = quick choice_order tt

-- ---- Four of one tile
pub four_as_triplet_and_sequence_holds : T (holds four_as_triplet_and_sequence)
unfolding holds
four_as_triplet_and_sequence_holds = quick four_as_triplet_and_sequence tt

pub four_as_pair_holds : T (holds four_as_pair)
unfolding holds
four_as_pair_holds = quick four_as_pair tt

pub four_as_kan_holds : T (holds four_as_kan)
unfolding holds
four_as_kan_holds = quick four_as_kan tt

-- ---- Calls
pub calls_four_holds : T (holds calls_four)
unfolding holds
calls_four_holds = quick calls_four tt

pub calls_no_pairs_holds : T (holds calls_no_pairs)
unfolding holds
calls_no_pairs_holds = quick calls_no_pairs tt

pub calls_no_orphans_holds : T (holds calls_no_orphans)
unfolding holds
calls_no_orphans_holds = quick calls_no_orphans tt

-- ---- Waits
pub waits_two_sides_holds : T (holds waits_two_sides)
unfolding holds
waits_two_sides_holds = quick waits_two_sides tt

pub waits_middle_holds : T (holds waits_middle)
unfolding holds
waits_middle_holds = quick waits_middle tt

pub waits_high_edge_holds : T (holds waits_high_edge)
unfolding holds
waits_high_edge_holds = quick waits_high_edge tt

pub waits_low_edge_holds : T (holds waits_low_edge)
unfolding holds
waits_low_edge_holds = quick waits_low_edge tt

pub waits_triplet_holds : T (holds waits_triplet)
unfolding holds
waits_triplet_holds = quick waits_triplet tt

pub waits_pair_holds : T (holds waits_pair)
unfolding holds
waits_pair_holds = quick waits_pair tt

pub waits_several_holds : T (holds waits_several)
unfolding holds
waits_several_holds = quick waits_several tt

pub waits_twice_holds : T (holds waits_twice)
unfolding holds
waits_twice_holds = quick waits_twice tt

pub waits_of_two_readings_holds : T (holds waits_of_two_readings)
unfolding holds
waits_of_two_readings_holds = quick waits_of_two_readings tt

pub waits_called_holds : T (holds waits_called)
unfolding holds
waits_called_holds = quick waits_called tt

pub waits_called_triplet_holds : T (holds waits_called_triplet)
unfolding holds
waits_called_triplet_holds = quick waits_called_triplet tt

pub waits_seven_pairs_holds : T (holds waits_seven_pairs)
unfolding holds
waits_seven_pairs_holds = quick waits_seven_pairs tt

pub waits_orphans_pair_holds : T (holds waits_orphans_pair)
unfolding holds
waits_orphans_pair_holds = quick waits_orphans_pair tt

pub waits_orphans_other_holds : T (holds waits_orphans_other)
unfolding holds
waits_orphans_other_holds = quick waits_orphans_other tt
