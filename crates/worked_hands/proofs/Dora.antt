-- The worked hands of specs/Dora.antt hold: each row is computed from the definitions. Assumes nothing.
use lib.Dec.{T}
use Rattle.played.specs.Row.{holds}
use Rattle.played.proofs.Quick.{quick}
use Rattle.worked_hands.specs.Dora.{dora_one, dora_shown_twice, dora_pair, dora_not_shown_tile, dora_nine_to_one, dora_north_to_east, dora_red_to_white, dora_kan, dora_called, ura_riichi, ura_no_riichi, ura_double_riichi_alone, ura_open, dora_yakuman, dora_no_yaku, choice_yakuman_first, choice_total_first}

-- ---- Which tile is dora, and how often it counts
pub dora_one_holds : T (holds dora_one)
unfolding holds
dora_one_holds = quick dora_one tt

pub dora_shown_twice_holds : T (holds dora_shown_twice)
unfolding holds
dora_shown_twice_holds = quick dora_shown_twice tt

pub dora_pair_holds : T (holds dora_pair)
unfolding holds
dora_pair_holds = quick dora_pair tt

pub dora_not_shown_tile_holds : T (holds dora_not_shown_tile)
unfolding holds
dora_not_shown_tile_holds = quick dora_not_shown_tile tt

pub dora_nine_to_one_holds : T (holds dora_nine_to_one)
unfolding holds
dora_nine_to_one_holds = quick dora_nine_to_one tt

pub dora_north_to_east_holds : T (holds dora_north_to_east)
unfolding holds
dora_north_to_east_holds = quick dora_north_to_east tt

pub dora_red_to_white_holds : T (holds dora_red_to_white)
unfolding holds
dora_red_to_white_holds = quick dora_red_to_white tt

-- ---- Called tiles count too
pub dora_kan_holds : T (holds dora_kan)
unfolding holds
dora_kan_holds = quick dora_kan tt

pub dora_called_holds : T (holds dora_called)
unfolding holds
dora_called_holds = quick dora_called tt

-- ---- Ura, which count where riichi was declared
pub ura_riichi_holds : T (holds ura_riichi)
unfolding holds
ura_riichi_holds = quick ura_riichi tt

pub ura_no_riichi_holds : T (holds ura_no_riichi)
unfolding holds
ura_no_riichi_holds = quick ura_no_riichi tt

pub ura_double_riichi_alone_holds : T (holds ura_double_riichi_alone)
unfolding holds
ura_double_riichi_alone_holds = quick ura_double_riichi_alone tt

pub ura_open_holds : T (holds ura_open)
unfolding holds
ura_open_holds = quick ura_open tt

-- ---- A yakuman takes no dora
pub dora_yakuman_holds : T (holds dora_yakuman)
unfolding holds
dora_yakuman_holds = quick dora_yakuman tt

-- ---- Dora alone is no yaku: twenty han by its number, a counted yakuman, and the win is refused
pub dora_no_yaku_holds : T (holds dora_no_yaku)
unfolding holds
dora_no_yaku_holds = quick dora_no_yaku tt

-- ---- The choice, where dora add more to han than to the total
pub choice_yakuman_first_holds : T (holds choice_yakuman_first)
unfolding holds
choice_yakuman_first_holds = quick choice_yakuman_first tt

pub choice_total_first_holds : T (holds choice_total_first)
unfolding holds
choice_total_first_holds = quick choice_total_first tt
