-- Worked examples of waits, yakuhai, pinfu and concealed triplets: of each rule a case that has it and near misses. Assumes nothing.
use mathlib.Core.Path.{◌≡◌, refl}
use mathlib.Core.Bool.{true, false, not}
use mathlib.Core.List.{List, [], ◌∷◌}
use Prim.Native.Nat.{ℕ}
use lib.Dec.{T}
use Rattle.tile.specs.Named.{man, pin, sou, East, South, West, North, White, Green, Red}
use Rattle.meld.specs.declared.Meld.{Meld}
use Rattle.meld.specs.Named.{run, triplet, chi, pon, closed_kan, open_kan, added_kan}
use Rattle.context.specs.Context.{in_room}
use Rattle.context.specs.Named.{win, dealer_wins, ron, tsumo, by_ron}
use Rattle.hand.specs.Reading.{Reading, pairs, orphans, standard}
use Rattle.wait.specs.Wait.{two_sided, edge, middle, waits, weight, pinfu}
use Rattle.wait.specs.Concealed.{spared, concealed}

-- ---- the place of the winning tile in a sequence; the sequence is named by its lowest tile
-- Ryanmen: 56 waits for 4 and for 7, 23 for 1 and for 4, 78 for 6 and for 9
pub ryanmen_low : T (two_sided (man 4) (man 4))
ryanmen_low = tt

pub ryanmen_high : T (two_sided (man 7) (man 5))
ryanmen_high = tt

pub ryanmen_1_of_123 : T (two_sided (pin 1) (pin 1))
ryanmen_1_of_123 = tt

pub ryanmen_9_of_789 : T (two_sided (sou 9) (sou 7))
ryanmen_9_of_789 = tt

-- not the middle tile, nor a tile of an edge wait, nor the tile after the sequence
pub ryanmen_not_middle : T (not (two_sided (man 5) (man 4)))
ryanmen_not_middle = tt

pub ryanmen_not_3_of_123 : T (not (two_sided (man 3) (man 1)))
ryanmen_not_3_of_123 = tt

pub ryanmen_not_7_of_789 : T (not (two_sided (pin 7) (pin 7)))
ryanmen_not_7_of_789 = tt

pub ryanmen_not_outside : T (not (two_sided (man 7) (man 4)))
ryanmen_not_outside = tt

-- Penchan: 12 waits for 3 alone, 89 for 7 alone
pub penchan_3_of_123 : T (edge (man 3) (man 1))
penchan_3_of_123 = tt

pub penchan_7_of_789 : T (edge (sou 7) (sou 7))
penchan_7_of_789 = tt

-- not the other end, nor the 3 of 345
pub penchan_not_1_of_123 : T (not (edge (man 1) (man 1)))
penchan_not_1_of_123 = tt

pub penchan_not_9_of_789 : T (not (edge (sou 9) (sou 7)))
penchan_not_9_of_789 = tt

pub penchan_not_3_of_345 : T (not (edge (pin 3) (pin 3)))
penchan_not_3_of_345 = tt

-- Kanchan: 2 and 4 wait for the 3 between them, 1 and 3 for the 2
pub kanchan_between : T (middle (man 3) (man 2))
kanchan_between = tt

pub kanchan_2_of_123 : T (middle (pin 2) (pin 1))
kanchan_2_of_123 = tt

-- not an end, nor the 3 of 123
pub kanchan_not_end : T (not (middle (man 4) (man 2)))
kanchan_not_end = tt

pub kanchan_not_3_of_123 : T (not (middle (man 3) (man 1)))
kanchan_not_3_of_123 = tt

-- ---- the tally of a reading, in this order
abbrev tally : ℕ → ℕ → ℕ → ℕ → ℕ → ℕ → List ℕ
tally ryanmen kanchan penchan shanpon tanki kokushi13 = ryanmen ∷ kanchan ∷ penchan ∷ shanpon ∷ tanki ∷ kokushi13 ∷ []

-- 234 man, 456 pin, 789 sou, three White and a pair of 5 sou
abbrev mixed : Reading
mixed = standard (sou 5) (run (man 2) ∷ run (pin 4) ∷ run (sou 7) ∷ triplet White ∷ [])

pub tally_ryanmen : waits (man 2) mixed ≡ tally 1 0 0 0 0 0
unfolding waits
tally_ryanmen = refl

pub tally_kanchan : waits (pin 5) mixed ≡ tally 0 1 0 0 0 0
unfolding waits
tally_kanchan = refl

pub tally_penchan : waits (sou 7) mixed ≡ tally 0 0 1 0 0 0
unfolding waits
tally_penchan = refl

pub tally_shanpon : waits White mixed ≡ tally 0 0 0 1 0 0
unfolding waits
tally_shanpon = refl

pub tally_tanki : waits (sou 5) mixed ≡ tally 0 0 0 0 1 0
unfolding waits
tally_tanki = refl

-- a tile that the reading has not completes nothing: 5 man beside 234, White's neighbour Green
pub tally_next_tile : waits (man 5) mixed ≡ tally 0 0 0 0 0 0
unfolding waits
tally_next_tile = refl

pub tally_next_honor : waits Green mixed ≡ tally 0 0 0 0 0 0
unfolding waits
tally_next_honor = refl

-- what was called was complete before the win: an open sequence, an open triplet and kans give no wait
abbrev called_hand : Reading
called_hand = standard (sou 5) (chi (man 2) ∷ pon (pin 4) ∷ closed_kan White ∷ open_kan Red ∷ [])

pub no_wait_chi : waits (man 2) called_hand ≡ tally 0 0 0 0 0 0
unfolding waits
no_wait_chi = refl

pub no_wait_pon : waits (pin 4) called_hand ≡ tally 0 0 0 0 0 0
unfolding waits
no_wait_pon = refl

pub no_wait_closed_kan : waits White called_hand ≡ tally 0 0 0 0 0 0
unfolding waits
no_wait_closed_kan = refl

pub no_wait_open_kan : waits Red called_hand ≡ tally 0 0 0 0 0 0
unfolding waits
no_wait_open_kan = refl

-- several ways at once: the 3 of 123, of 234 and of 345
pub tally_three_places : waits (man 3) (standard Red (run (man 1) ∷ run (man 2) ∷ run (man 3) ∷ triplet White ∷ [])) ≡ tally 1 1 1 0 0 0
unfolding waits
tally_three_places = refl

-- the 5 of 345 and of 567, and of the pair
pub tally_ends_and_pair : waits (pin 5) (standard (pin 5) (run (pin 3) ∷ run (pin 5) ∷ pon East ∷ run (sou 1) ∷ [])) ≡ tally 2 0 0 0 1 0
unfolding waits
tally_ends_and_pair = refl

-- the 1 of 111 and of 123
pub tally_triplet_and_run : waits (sou 1) (standard Red (run (sou 1) ∷ triplet (sou 1) ∷ pon East ∷ run (man 1) ∷ [])) ≡ tally 1 0 0 1 0 0
unfolding waits
tally_triplet_and_run = refl

-- seven pairs: Tanki, on a tile of a pair
abbrev seven_pairs : Reading
seven_pairs = pairs (man 1 ∷ man 3 ∷ pin 4 ∷ pin 5 ∷ sou 6 ∷ East ∷ Red ∷ [])

pub pairs_tanki : waits (pin 5) seven_pairs ≡ tally 0 0 0 0 1 0
unfolding waits
pairs_tanki = refl

pub pairs_tanki_last : waits Red seven_pairs ≡ tally 0 0 0 0 1 0
unfolding waits
pairs_tanki_last = refl

pub pairs_no_kanchan : waits (man 2) seven_pairs ≡ tally 0 0 0 0 0 0
unfolding waits
pairs_no_kanchan = refl

-- thirteen orphans: Kokushi13 where the winning tile is the doubled one, else Tanki
pub orphans_doubled : waits East (orphans East) ≡ tally 0 0 0 0 0 1
unfolding waits
orphans_doubled = refl

pub orphans_other : waits (man 1) (orphans East) ≡ tally 0 0 0 0 1 0
unfolding waits
orphans_other = refl

-- ---- yakuhai: how often a tile is of value. The seat is South and the round East, if nothing else is said
pub value_white : weight (ron (man 1)) White ≡ 1
value_white = refl

pub value_green : weight (ron (man 1)) Green ≡ 1
value_green = refl

pub value_red : weight (ron (man 1)) Red ≡ 1
value_red = refl

pub value_round_wind : weight (ron (man 1)) East ≡ 1
value_round_wind = refl

pub value_seat_wind : weight (ron (man 1)) South ≡ 1
value_seat_wind = refl

-- the dealer's East in the round East, and North's North in the round North, count twice
pub value_double_east : weight (dealer_wins by_ron (man 1) []) East ≡ 2
value_double_east = refl

-- also in a room that gives two fu for a pair of it
pub value_double_at_two : weight (in_room 2 (dealer_wins by_ron (man 1) [])) East ≡ 2
value_double_at_two = refl

pub value_double_north : weight (win by_ron (man 1) North North []) North ≡ 2
value_double_north = refl

-- a wind that is neither, and numbers, count nothing
pub value_guest_west : weight (ron (man 1)) West ≡ 0
value_guest_west = refl

pub value_guest_north : weight (ron (man 1)) North ≡ 0
value_guest_north = refl

pub value_dealer_south : weight (dealer_wins by_ron (man 1) []) South ≡ 0
value_dealer_south = refl

pub value_number : weight (ron (man 1)) (man 1) ≡ 0
value_number = refl

-- ---- Pinfu: 123 man, 456 man, 345 pin, 678 sou and a pair; won by South in the round East
abbrev sequences : List Meld
sequences = run (man 1) ∷ run (man 4) ∷ run (pin 3) ∷ run (sou 6) ∷ []

-- on an end of 456, of 345 and on the 1 of 123, by ron and by tsumo
pub pinfu_ron : T (pinfu (ron (man 4)) false (standard (pin 8) sequences))
unfolding pinfu
pinfu_ron = tt

pub pinfu_tsumo : T (pinfu (tsumo (pin 5)) false (standard (pin 8) sequences))
unfolding pinfu
pinfu_tsumo = tt

pub pinfu_1_of_123 : T (pinfu (ron (man 1)) false (standard (pin 8) sequences))
unfolding pinfu
pinfu_1_of_123 = tt

-- a pair of a wind that is neither round nor seat wind will do
pub pinfu_guest_wind : T (pinfu (ron (man 4)) false (standard West sequences))
unfolding pinfu
pinfu_guest_wind = tt

-- several waits, of which one is Ryanmen: the 3 of 123 and of 345; the 4 of 456 and of the pair
pub pinfu_one_of_two_waits : T (pinfu (ron (man 3)) false (standard (pin 8) (run (man 1) ∷ run (man 3) ∷ run (pin 3) ∷ run (sou 6) ∷ [])))
unfolding pinfu
pinfu_one_of_two_waits = tt

pub pinfu_beside_tanki : T (pinfu (ron (man 4)) false (standard (man 4) sequences))
unfolding pinfu
pinfu_beside_tanki = tt

-- not in an open hand
pub pinfu_not_open : T (not (pinfu (ron (man 4)) true (standard (pin 8) (run (man 1) ∷ run (man 4) ∷ chi (pin 3) ∷ run (sou 6) ∷ []))))
unfolding pinfu
pinfu_not_open = tt

-- not with a triplet or a closed kan
pub pinfu_not_triplet : T (not (pinfu (ron (man 4)) false (standard (pin 8) (run (man 1) ∷ run (man 4) ∷ run (pin 3) ∷ triplet (sou 2) ∷ []))))
unfolding pinfu
pinfu_not_triplet = tt

pub pinfu_not_kan : T (not (pinfu (ron (man 4)) false (standard (pin 8) (run (man 1) ∷ run (man 4) ∷ run (pin 3) ∷ closed_kan West ∷ []))))
unfolding pinfu
pinfu_not_kan = tt

-- not with a pair of a dragon, of the round wind or of the seat wind
pub pinfu_not_dragon_pair : T (not (pinfu (ron (man 4)) false (standard Green sequences)))
unfolding pinfu
pinfu_not_dragon_pair = tt

pub pinfu_not_round_wind_pair : T (not (pinfu (ron (man 4)) false (standard East sequences)))
unfolding pinfu
pinfu_not_round_wind_pair = tt

pub pinfu_not_seat_wind_pair : T (not (pinfu (ron (man 4)) false (standard South sequences)))
unfolding pinfu
pinfu_not_seat_wind_pair = tt

-- not where the wait is only Kanchan, only Penchan or only Tanki
pub pinfu_not_kanchan : T (not (pinfu (ron (man 5)) false (standard (pin 8) sequences)))
unfolding pinfu
pinfu_not_kanchan = tt

pub pinfu_not_penchan : T (not (pinfu (ron (man 3)) false (standard (pin 8) sequences)))
unfolding pinfu
pinfu_not_penchan = tt

pub pinfu_not_tanki : T (not (pinfu (ron (pin 8)) false (standard (pin 8) sequences)))
unfolding pinfu
pinfu_not_tanki = tt

-- not of seven pairs
pub pinfu_not_pairs : T (not (pinfu (ron (pin 5)) false seven_pairs))
unfolding pinfu
pinfu_not_pairs = tt

-- ---- concealed: three 3 man in the hand, with 345 man or without; `spared` says that the ron tile went to the sequence
abbrev with_run : List Meld
with_run = triplet (man 3) ∷ run (man 3) ∷ triplet East ∷ pon Red ∷ []

abbrev with_chi : List Meld
with_chi = triplet (man 3) ∷ chi (man 3) ∷ run (man 4) ∷ pon Red ∷ []

-- by tsumo, also of its own tile; by ron of another tile
pub concealed_by_tsumo : T (concealed (tsumo (man 3)) false (triplet (man 3)))
concealed_by_tsumo = tt

pub concealed_by_ron_elsewhere : T (concealed (ron (man 4)) false (triplet (man 3)))
concealed_by_ron_elsewhere = tt

-- not by ron of its tile, unless a closed sequence has that tile too, at whichever place
pub not_concealed_by_ron : T (not (concealed (ron (man 3)) (spared (ron (man 3)) with_chi) (triplet (man 3))))
not_concealed_by_ron = tt

pub concealed_spared : T (concealed (ron (man 3)) (spared (ron (man 3)) with_run) (triplet (man 3)))
concealed_spared = tt

pub spared_in_the_middle : T (spared (ron (man 4)) with_run)
spared_in_the_middle = tt

pub spared_at_the_end : T (spared (ron (man 5)) with_run)
spared_at_the_end = tt

-- not by a tile next to the sequence, nor by a triplet
pub not_spared_before : T (not (spared (ron (man 2)) with_run))
not_spared_before = tt

pub not_spared_after : T (not (spared (ron (man 6)) with_run))
not_spared_after = tt

pub not_spared_by_triplet : T (not (spared (ron East) with_run))
not_spared_by_triplet = tt

-- a closed kan always, even of the tile itself; an open triplet, open and added kans and sequences never
pub concealed_kan : T (concealed (ron (man 3)) false (closed_kan (man 3)))
concealed_kan = tt

pub not_concealed_pon : T (not (concealed (tsumo (man 4)) true (pon (man 3))))
not_concealed_pon = tt

pub not_concealed_open_kan : T (not (concealed (tsumo (man 4)) true (open_kan (man 3))))
not_concealed_open_kan = tt

pub not_concealed_added_kan : T (not (concealed (tsumo (man 4)) true (added_kan (man 3))))
not_concealed_added_kan = tt

pub not_concealed_run : T (not (concealed (tsumo (man 9)) true (run (man 3))))
not_concealed_run = tt
