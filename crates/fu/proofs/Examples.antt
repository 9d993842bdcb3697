-- Fu by examples, as a rulebook lists them: each sort of meld, the pair, the wait, the win, rounding, and whole readings. Assumes nothing.
use mathlib.Core.Path.{◌≡◌, refl}
use mathlib.Core.Bool.{true, false}
use mathlib.Core.List.{[], ◌∷◌}
use Rattle.tile.specs.Named.{man, pin, sou, East, South, West, North, White, Red}
use Rattle.meld.specs.Named.{run, triplet, chi, pon, closed_kan, open_kan, added_kan}
use Rattle.context.specs.Context.{in_room}
use Rattle.context.specs.Named.{win, dealer_wins, ron, tsumo, by_ron, by_tsumo}
use Rattle.hand.specs.Reading.{pairs, orphans, standard}
use Rattle.wait.specs.Wait.{pinfu}
use Rattle.wait.specs.Concealed.{spared}
use Rattle.fu.specs.Fu.{meld_fu, pair_fu, wait_fu, base_fu, round_up_to10, at_least30, standard_fu, fu}

-- ---- melds. The win is on man 9, which none of them has, unless said
-- a sequence has none, called or not
pub sequence_none : meld_fu (ron (man 9)) false (run (man 1)) ≡ 0
sequence_none = refl

pub called_sequence_none : meld_fu (ron (man 9)) false (chi (man 7)) ≡ 0
called_sequence_none = refl

-- a called triplet: 2 of simples, 4 of terminals and honors
pub pon_of_simples : meld_fu (ron (man 9)) false (pon (man 2)) ≡ 2
pon_of_simples = refl

pub pon_of_terminals : meld_fu (ron (man 9)) false (pon (pin 9)) ≡ 4
pon_of_terminals = refl

pub pon_of_honors : meld_fu (ron (man 9)) false (pon White) ≡ 4
pon_of_honors = refl

-- a concealed triplet: 4 of simples, 8 of terminals and honors
pub triplet_of_simples : meld_fu (ron (man 9)) false (triplet (sou 8)) ≡ 4
triplet_of_simples = refl

pub triplet_of_terminals : meld_fu (ron (man 9)) false (triplet (sou 1)) ≡ 8
triplet_of_terminals = refl

pub triplet_of_honors : meld_fu (ron (man 9)) false (triplet North) ≡ 8
triplet_of_honors = refl

-- a called kan, open or added: 8 of simples, 16 of terminals and honors
pub open_kan_of_simples : meld_fu (ron (man 9)) false (open_kan (man 5)) ≡ 8
open_kan_of_simples = refl

pub added_kan_of_simples : meld_fu (tsumo (man 9)) false (added_kan (man 5)) ≡ 8
added_kan_of_simples = refl

pub open_kan_of_terminals : meld_fu (tsumo (man 9)) false (open_kan (pin 1)) ≡ 16
open_kan_of_terminals = refl

pub added_kan_of_honors : meld_fu (ron (man 9)) false (added_kan East) ≡ 16
added_kan_of_honors = refl

-- a concealed kan: 16 of simples, 32 of terminals and honors
pub closed_kan_of_simples : meld_fu (ron (man 9)) false (closed_kan (pin 2)) ≡ 16
closed_kan_of_simples = refl

pub closed_kan_of_terminals : meld_fu (ron (man 9)) false (closed_kan (pin 9)) ≡ 32
closed_kan_of_terminals = refl

pub closed_kan_of_honors : meld_fu (tsumo (man 9)) false (closed_kan Red) ≡ 32
closed_kan_of_honors = refl

-- the triplet that the winning tile completed: concealed by tsumo, by ron as if called
pub triplet_by_tsumo : meld_fu (tsumo (sou 8)) false (triplet (sou 8)) ≡ 4
triplet_by_tsumo = refl

pub triplet_by_ron : meld_fu (ron (sou 8)) false (triplet (sou 8)) ≡ 2
triplet_by_ron = refl

pub honors_by_ron : meld_fu (ron North) false (triplet North) ≡ 4
honors_by_ron = refl

pub other_triplet_by_ron : meld_fu (ron (sou 8)) false (triplet (sou 7)) ≡ 4
other_triplet_by_ron = refl

-- with a closed sequence that has the tile, the ron completed that: 111 and 123, won on the 1
pub triplet_spared : meld_fu (ron (man 1)) (spared (ron (man 1)) (run (man 1) ∷ triplet (man 1) ∷ [])) (triplet (man 1)) ≡ 8
triplet_spared = refl

pub triplet_beside_called_sequence : meld_fu (ron (man 1)) (spared (ron (man 1)) (chi (man 1) ∷ triplet (man 1) ∷ [])) (triplet (man 1)) ≡ 4
triplet_beside_called_sequence = refl

pub triplet_beside_other_sequence : meld_fu (ron (man 1)) (spared (ron (man 1)) (run (man 2) ∷ triplet (man 1) ∷ [])) (triplet (man 1)) ≡ 4
triplet_beside_other_sequence = refl

-- ---- the pair: 2 for a dragon, 2 for the round wind, 2 for the seat wind; for both winds what the room gives
pub dragon_pair : pair_fu (ron (man 9)) Red ≡ 2
dragon_pair = refl

pub round_wind_pair : pair_fu (ron (man 9)) East ≡ 2
round_wind_pair = refl

pub seat_wind_pair : pair_fu (ron (man 9)) South ≡ 2
seat_wind_pair = refl

pub double_wind_pair : pair_fu (dealer_wins by_ron (man 9) []) East ≡ 4
double_wind_pair = refl

pub double_south_pair : pair_fu (win by_tsumo (man 9) South South []) South ≡ 4
double_south_pair = refl

-- 2 in a room that gives two
pub double_wind_at_two : pair_fu (in_room 2 (dealer_wins by_ron (man 9) [])) East ≡ 2
double_wind_at_two = refl

pub double_south_at_two : pair_fu (in_room 2 (win by_tsumo (man 9) South South [])) South ≡ 2
double_south_at_two = refl

-- the others have there what they have elsewhere
pub dragon_pair_at_two : pair_fu (in_room 2 (dealer_wins by_ron (man 9) [])) Red ≡ 2
dragon_pair_at_two = refl

pub seat_wind_at_two : pair_fu (in_room 2 (ron (man 9))) South ≡ 2
seat_wind_at_two = refl

pub other_wind_pair : pair_fu (ron (man 9)) West ≡ 0
other_wind_pair = refl

pub suited_pair : pair_fu (ron (man 9)) (man 9) ≡ 0
suited_pair = refl

-- ---- the wait: 2 on the pair, in the middle or on an edge; none from both sides or on two pairs
pub tanki : wait_fu (ron (pin 5)) (pin 5) (run (man 1) ∷ run (sou 1) ∷ []) ≡ 2
tanki = refl

pub kanchan : wait_fu (ron (man 3)) (pin 5) (run (man 2) ∷ run (sou 1) ∷ []) ≡ 2
kanchan = refl

pub penchan_3 : wait_fu (ron (man 3)) (pin 5) (run (man 1) ∷ run (sou 1) ∷ []) ≡ 2
penchan_3 = refl

pub penchan_7 : wait_fu (tsumo (sou 7)) (pin 5) (run (man 1) ∷ run (sou 7) ∷ []) ≡ 2
penchan_7 = refl

pub ryanmen : wait_fu (ron (man 4)) (pin 5) (run (man 2) ∷ run (sou 1) ∷ []) ≡ 0
ryanmen = refl

pub ryanmen_below : wait_fu (ron (man 6)) (pin 5) (run (man 6) ∷ run (sou 1) ∷ []) ≡ 0
ryanmen_below = refl

pub outer_of_terminal_sequence : wait_fu (ron (man 1)) (pin 5) (run (man 1) ∷ run (sou 1) ∷ []) ≡ 0
outer_of_terminal_sequence = refl

pub shanpon : wait_fu (ron (man 4)) (pin 5) (triplet (man 4) ∷ run (sou 1) ∷ []) ≡ 0
shanpon = refl

-- a called sequence was complete before the win
pub called_middle_no_wait : wait_fu (ron (man 3)) (pin 5) (chi (man 2) ∷ run (sou 1) ∷ []) ≡ 0
called_middle_no_wait = refl

-- 3455 won on the 5 is 34 and a 5 for 345, or 345 and a 5 for the pair: the close wait counts
pub two_ways_to_wait : wait_fu (ron (man 5)) (man 5) (run (man 3) ∷ run (sou 1) ∷ []) ≡ 2
two_ways_to_wait = refl

-- ---- the win: 20, and 2 by tsumo or 10 by ron with a closed hand
pub closed_ron : base_fu (ron (man 9)) false ≡ 30
closed_ron = refl

pub open_ron : base_fu (ron (man 9)) true ≡ 20
open_ron = refl

pub closed_tsumo : base_fu (tsumo (man 9)) false ≡ 22
closed_tsumo = refl

pub open_tsumo : base_fu (tsumo (man 9)) true ≡ 22
open_tsumo = refl

-- ---- rounding up to 10
pub ten_stays : round_up_to10 30 ≡ 30
ten_stays = refl

pub one_over : round_up_to10 31 ≡ 40
one_over = refl

pub two_over : round_up_to10 32 ≡ 40
two_over = refl

pub eight_over : round_up_to10 38 ≡ 40
eight_over = refl

pub nine_over : round_up_to10 39 ≡ 40
nine_over = refl

-- an open hand has at least 30, a closed one what it has
pub open_20 : at_least30 true 20 ≡ 30
open_20 = refl

pub open_40 : at_least30 true 40 ≡ 40
open_40 = refl

pub closed_20 : at_least30 false 20 ≡ 20
closed_20 = refl

-- ---- whole readings
-- pinfu: 20 by tsumo, 30 by ron
pub pinfu_tsumo : fu (tsumo (sou 8)) false (standard (man 5) (run (man 1) ∷ run (pin 4) ∷ run (sou 2) ∷ run (sou 6) ∷ [])) ≡ 20
unfolding fu standard_fu pinfu
pinfu_tsumo = refl

pub pinfu_ron : fu (ron (sou 8)) false (standard (man 5) (run (man 1) ∷ run (pin 4) ∷ run (sou 2) ∷ run (sou 6) ∷ [])) ≡ 30
unfolding fu standard_fu pinfu
pinfu_ron = refl

-- the same with a pair of the seat wind is no pinfu: 22 and 2, 30 and 2
pub wind_pair_tsumo : fu (tsumo (sou 8)) false (standard South (run (man 1) ∷ run (pin 4) ∷ run (sou 2) ∷ run (sou 6) ∷ [])) ≡ 30
unfolding fu standard_fu pinfu
wind_pair_tsumo = refl

pub wind_pair_ron : fu (ron (sou 8)) false (standard South (run (man 1) ∷ run (pin 4) ∷ run (sou 2) ∷ run (sou 6) ∷ [])) ≡ 40
unfolding fu standard_fu pinfu
wind_pair_ron = refl

-- nor with a wait in the middle: 30 and 2
pub kanchan_ron : fu (ron (sou 7)) false (standard (man 5) (run (man 1) ∷ run (pin 4) ∷ run (sou 2) ∷ run (sou 6) ∷ [])) ≡ 40
unfolding fu standard_fu pinfu
kanchan_ron = refl

-- man 222, pin 456, sou 345678 and a pair of East, the dealer's tsumo in the round East on pin 5: 22, 4 for the triplet, 2 for the wait, and
-- for the pair 4 or 2: 32 are 40, and 30 are 30
pub double_wind_tsumo : fu (dealer_wins by_tsumo (pin 5) []) false (standard East (triplet (man 2) ∷ run (pin 4) ∷ run (sou 3) ∷ run (sou 6) ∷ [])) ≡ 40
unfolding fu standard_fu pinfu
double_wind_tsumo = refl

pub double_wind_tsumo_at_two :
    fu (in_room 2 (dealer_wins by_tsumo (pin 5) [])) false (standard East (triplet (man 2) ∷ run (pin 4) ∷ run (sou 3) ∷ run (sou 6) ∷ [])) ≡ 30
unfolding fu standard_fu pinfu
double_wind_tsumo_at_two = refl

-- by ron 40 and 38, both 40: rounding hides it
pub double_wind_ron_at_two :
    fu (in_room 2 (dealer_wins by_ron (pin 5) [])) false (standard East (triplet (man 2) ∷ run (pin 4) ∷ run (sou 3) ∷ run (sou 6) ∷ [])) ≡ 40
unfolding fu standard_fu pinfu
double_wind_ron_at_two = refl

-- with a pair of the double wind alone, an open hand has 22 or 24, taken for 30
pub double_wind_open_at_two :
    fu (in_room 2 (dealer_wins by_ron (sou 8) [])) true (standard East (chi (man 1) ∷ run (pin 4) ∷ run (sou 2) ∷ run (sou 6) ∷ [])) ≡ 30
unfolding fu standard_fu pinfu
double_wind_open_at_two = refl

-- four sequences, one of them called: 20 are taken for 30
pub open_sequences : fu (ron (sou 8)) true (standard (man 5) (chi (man 1) ∷ run (pin 4) ∷ run (sou 2) ∷ run (sou 6) ∷ [])) ≡ 30
unfolding fu standard_fu pinfu
open_sequences = refl

-- 20, 2 for tsumo, 8 for the triplet of terminals: 30
pub terminals_tsumo : fu (tsumo (sou 8)) false (standard (man 5) (triplet (man 1) ∷ run (pin 4) ∷ run (sou 2) ∷ run (sou 6) ∷ [])) ≡ 30
unfolding fu standard_fu pinfu
terminals_tsumo = refl

-- 20, 10 for the closed ron, 8 for the triplet of terminals, 2 for the pair of Red: 40
pub red_pair_ron : fu (ron (sou 8)) false (standard Red (triplet (man 1) ∷ run (pin 4) ∷ run (sou 2) ∷ run (sou 6) ∷ [])) ≡ 40
unfolding fu standard_fu pinfu
red_pair_ron = refl

-- one fu-giving part more, the wait in the middle, and it is 50
pub red_pair_kanchan : fu (ron (sou 7)) false (standard Red (triplet (man 1) ∷ run (pin 4) ∷ run (sou 2) ∷ run (sou 6) ∷ [])) ≡ 50
unfolding fu standard_fu pinfu
red_pair_kanchan = refl

-- man 222333444, pin 567, sou 88, won by ron on sou 8: three concealed triplets and the wait on the pair, 30 + 12 + 2
pub three_triplets : fu (ron (sou 8)) false (standard (sou 8) (triplet (man 2) ∷ triplet (man 3) ∷ triplet (man 4) ∷ run (pin 5) ∷ [])) ≡ 50
unfolding fu standard_fu pinfu
three_triplets = refl

-- the same as three sequences: the wait on the pair alone, 30 + 2
pub three_sequences : fu (ron (sou 8)) false (standard (sou 8) (run (man 2) ∷ run (man 2) ∷ run (man 2) ∷ run (pin 5) ∷ [])) ≡ 40
unfolding fu standard_fu pinfu
three_sequences = refl

-- a called triplet of White, won from both sides by ron: 20 + 4, and by tsumo 22 + 4
pub called_dragons_ron : fu (ron (sou 8)) true (standard (man 5) (pon White ∷ run (pin 4) ∷ run (sou 2) ∷ run (sou 6) ∷ [])) ≡ 30
unfolding fu standard_fu pinfu
called_dragons_ron = refl

pub called_dragons_tsumo : fu (tsumo (sou 8)) true (standard (man 5) (pon White ∷ run (pin 4) ∷ run (sou 2) ∷ run (sou 6) ∷ [])) ≡ 30
unfolding fu standard_fu pinfu
called_dragons_tsumo = refl

-- three called triplets and one completed by ron, of simples, simples, terminals and winds: 20 + 2 + 2 + 4 + 4
pub all_triplets_ron : fu (ron (sou 3)) true (standard (man 5) (pon (man 2) ∷ pon (pin 9) ∷ triplet (sou 3) ∷ pon North ∷ [])) ≡ 40
unfolding fu standard_fu pinfu
all_triplets_ron = refl

-- a concealed kan of terminals, won by tsumo on the pair: 22 + 32 + 2
pub concealed_kan_tsumo : fu (tsumo (man 5)) false (standard (man 5) (closed_kan (man 1) ∷ run (pin 4) ∷ run (sou 2) ∷ run (sou 6) ∷ [])) ≡ 60
unfolding fu standard_fu pinfu
concealed_kan_tsumo = refl

-- the dealer in the round East with four concealed kans of terminals and honors and a pair of East, by ron: 30 + 128 + 4 + 2
pub most_fu : fu (dealer_wins by_ron East []) false (standard East (closed_kan (man 1) ∷ closed_kan (pin 9) ∷ closed_kan White ∷ closed_kan Red ∷ [])) ≡ 170
unfolding fu standard_fu pinfu
most_fu = refl

-- seven pairs have 25, by ron and by tsumo, even with yakuhai pairs
pub seven_pairs_holds : fu (ron (man 1)) false (pairs (man 1 ∷ man 3 ∷ pin 5 ∷ pin 6 ∷ sou 2 ∷ sou 9 ∷ East ∷ [])) ≡ 25
unfolding fu standard_fu pinfu
seven_pairs_holds = refl

pub seven_pairs_tsumo : fu (tsumo Red) false (pairs (man 1 ∷ man 3 ∷ pin 5 ∷ pin 6 ∷ sou 2 ∷ East ∷ Red ∷ [])) ≡ 25
unfolding fu standard_fu pinfu
seven_pairs_tsumo = refl

-- thirteen orphans have 30
pub thirteen_orphans_holds : fu (tsumo Red) false (orphans East) ≡ 30
unfolding fu standard_fu pinfu
thirteen_orphans_holds = refl
