-- The worked hands of specs/Three.antt hold with three players: each row is computed from the definitions. Assumes nothing.
use mathlib.Core.Path.{◌≡◌, refl}
use lib.Dec.{T}
use Rattle.rules.specs.Rules.{three}
use Rattle.scoring.specs.declared.Payment.TheVariants.{DealerTsumo, Tsumo}
use Rattle.scoring.specs.Payment.{total_at}
use Rattle.played.specs.Row.{holds_in, holds}
use Rattle.played.proofs.Quick.{quick_in, quick}
use Rattle.worked_hands.specs.Three.{three_dealer_tsumo, three_tsumo, three_ron, three_terminals_and_honors, three_terminals, three_orphans, three_north, three_north_pair, three_north_pair_at_two, three_sequence, three_absent_called, three_from_left, three_absent_held, three_indicator, three_ura, three_absent_won}

-- ---- Who pays
pub three_dealer_tsumo_holds : T (holds_in three three_dealer_tsumo)
unfolding holds_in
three_dealer_tsumo_holds = quick_in three three_dealer_tsumo tt

-- all that the winner receives
pub three_dealer_tsumo_total : total_at 3 (DealerTsumo 4000) ≡ 8000
three_dealer_tsumo_total = refl

pub three_tsumo_holds : T (holds_in three three_tsumo)
unfolding holds_in
three_tsumo_holds = quick_in three three_tsumo tt

pub three_tsumo_total : total_at 3 (Tsumo 4000 2000) ≡ 6000
three_tsumo_total = refl

pub three_ron_holds : T (holds_in three three_ron)
unfolding holds_in
three_ron_holds = quick_in three three_ron tt

pub four_ron : T (holds three_ron)
unfolding holds
four_ron = quick three_ron tt

-- ---- Man 1 and man 9 are there
pub three_terminals_and_honors_holds : T (holds_in three three_terminals_and_honors)
unfolding holds_in
three_terminals_and_honors_holds = quick_in three three_terminals_and_honors tt

pub three_terminals_holds : T (holds_in three three_terminals)
unfolding holds_in
three_terminals_holds = quick_in three three_terminals tt

pub three_orphans_holds : T (holds_in three three_orphans)
unfolding holds_in
three_orphans_holds = quick_in three three_orphans tt

-- ---- North is a wind like the others
pub three_north_holds : T (holds_in three three_north)
unfolding holds_in
three_north_holds = quick_in three three_north tt

pub three_north_pair_holds : T (holds_in three three_north_pair)
unfolding holds_in
three_north_pair_holds = quick_in three three_north_pair tt

pub three_north_pair_at_two_holds : T (holds_in three three_north_pair_at_two)
unfolding holds_in
three_north_pair_at_two_holds = quick_in three three_north_pair_at_two tt

-- ---- 3 what is not called with three players
pub three_sequence_holds : T (holds_in three three_sequence)
unfolding holds_in
three_sequence_holds = quick_in three three_sequence tt

pub three_absent_called_holds : T (holds_in three three_absent_called)
unfolding holds_in
three_absent_called_holds = quick_in three three_absent_called tt

pub three_from_left_holds : T (holds_in three three_from_left)
unfolding holds_in
three_from_left_holds = quick_in three three_from_left tt

-- ---- 4 an absent tile in the hand
pub three_absent_held_holds : T (holds_in three three_absent_held)
unfolding holds_in
three_absent_held_holds = quick_in three three_absent_held tt

-- ---- 14 an indicator is shown
pub three_indicator_holds : T (holds_in three three_indicator)
unfolding holds_in
three_indicator_holds = quick_in three three_indicator tt

pub three_ura_holds : T (holds_in three three_ura)
unfolding holds_in
three_ura_holds = quick_in three three_ura tt

-- ---- 9 an absent tile as the winning tile
pub three_absent_won_holds : T (holds_in three three_absent_won)
unfolding holds_in
three_absent_won_holds = quick_in three three_absent_won tt
