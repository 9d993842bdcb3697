-- Melds by the names that players use: of which kinds each question is true, which tiles a meld holds, and how many melds there are.
-- Assumes nothing.
use mathlib.Core.Path.{◌≡◌, refl}
use mathlib.Core.Bool.{Bool, ◌&&◌, ◌||◌, not, beq}
use mathlib.Core.List.{List, [], ◌∷◌}
use Prim.Native.Nat.{ℕ}
use lib.Dec.{T, eqb, ltb}
use lib.ListN.{length}
use Rattle.lists.specs.Fold.{all_below, all, any, count}
use Rattle.tile.specs.Tile.{is_honor, tiles}
use Rattle.tile.specs.Named.{man, pin, sou, East, Red}
use Rattle.meld.specs.declared.Meld.{Meld}
use Rattle.meld.specs.Meld.{is_sequence, is_triplet_or_kan, is_kan, is_concealed, is_open, is_meld, is_hand_meld, is_call, key, uses, eq_meld, meld_from, meld, hand_melds, melds}
use Rattle.meld.specs.Named.{run, triplet, chi, pon, closed_kan, open_kan, added_kan, from_right, from_across, from_left}
use Rattle.meld.proofs.Melds.{all_melds}

-- the question p is true of melds of the kinds in the list, and of no other melds
abbrev pub are_kinds : (Meld → Bool) → List (ℕ → Meld) → Bool
are_kinds p ks = all_melds (λ m. beq (p m) (any (λ k. eq_meld (k m.tile) m) ks))

-- ---- Kinds
pub sequences : T (are_kinds is_sequence (run ∷ chi ∷ []))
sequences = tt

pub triplets_and_kans : T (are_kinds is_triplet_or_kan (triplet ∷ pon ∷ closed_kan ∷ open_kan ∷ added_kan ∷ []))
triplets_and_kans = tt

pub kans : T (are_kinds is_kan (closed_kan ∷ open_kan ∷ added_kan ∷ []))
kans = tt

-- a closed kan is concealed: no tile of it was called from another player
pub concealed : T (are_kinds is_concealed (run ∷ triplet ∷ closed_kan ∷ []))
concealed = tt

-- an added kan is open, as the triplet was to which a tile was added
pub open_melds : T (are_kinds is_open (chi ∷ pon ∷ open_kan ∷ added_kan ∷ []))
open_melds = tt

pub hand_melds_holds : T (are_kinds is_hand_meld (run ∷ triplet ∷ []))
hand_melds_holds = tt

-- a closed kan is declared, and so it is a call
pub calls : T (are_kinds is_call (chi ∷ pon ∷ closed_kan ∷ open_kan ∷ added_kan ∷ []))
calls = tt

-- ---- A sequence starts at 1 to 7 of a suit
pub run_from_1 : T (is_meld (run (man 1)))
run_from_1 = tt

pub run_from_7 : T (is_meld (run (sou 7)))
run_from_7 = tt

pub chi_from_7 : T (is_meld (chi (pin 7)))
chi_from_7 = tt

-- not at 8 or 9
pub run_not_from_8 : T (not (is_meld (run (man 8))))
run_not_from_8 = tt

pub chi_not_from_8 : T (not (is_meld (chi (sou 8))))
chi_not_from_8 = tt

pub run_not_from_9 : T (not (is_meld (run (pin 9))))
run_not_from_9 = tt

-- not at an honor: East, South, West are no sequence
pub run_not_of_winds : T (not (is_meld (run East)))
run_not_of_winds = tt

pub chi_not_of_honors : T (all_below 34 (λ t. not (is_honor t) || not (is_meld (chi t))))
chi_not_of_honors = tt

-- ---- A triplet or a kan may be of any tile
pub sets_of_all : T (all (λ k. all (λ t. is_meld (k t)) tiles) (triplet ∷ pon ∷ closed_kan ∷ open_kan ∷ added_kan ∷ []))
sets_of_all = tt

-- not of a number that is no tile
pub no_tile_34 : T (not (is_meld (triplet 34)))
no_tile_34 = tt

-- there are seven kinds
pub no_kind_7 : T (not (is_meld (meld (man 1) 7)))
no_kind_7 = tt

-- ---- The tiles of a meld
-- man 345 holds one each of man 3, 4 and 5
pub run_first : uses (run (man 3)) (man 3) ≡ 1
run_first = refl

pub run_middle : uses (run (man 3)) (man 4) ≡ 1
run_middle = refl

pub chi_last : uses (chi (man 3)) (man 5) ≡ 1
chi_last = refl

-- no man 2 and no man 6
pub run_not_below : uses (run (man 3)) (man 2) ≡ 0
run_not_below = refl

pub run_not_above : uses (run (man 3)) (man 6) ≡ 0
run_not_above = refl

-- no tile of another suit
pub run_not_pin : uses (run (man 3)) (pin 3) ≡ 0
run_not_pin = refl

pub triplet_three : uses (triplet Red) Red ≡ 3
triplet_three = refl

pub pon_three : uses (pon (sou 9)) (sou 9) ≡ 3
pon_three = refl

pub triplet_not_next : uses (triplet (man 3)) (man 4) ≡ 0
triplet_not_next = refl

-- a kan holds four, also one that was added to a triplet
pub closed_kan_four : uses (closed_kan (man 1)) (man 1) ≡ 4
closed_kan_four = refl

pub open_kan_four : uses (open_kan (man 1)) (man 1) ≡ 4
open_kan_four = refl

pub added_kan_four : uses (added_kan (man 1)) (man 1) ≡ 4
added_kan_four = refl

-- ---- How many melds there are
pub melds_416 : length melds ≡ 416
melds_416 = refl

pub hand_melds_55 : length hand_melds ≡ 55
hand_melds_55 = refl

pub sequences_42 : count is_sequence melds ≡ 42
sequences_42 = refl

pub sets_374 : count is_triplet_or_kan melds ≡ 374
sets_374 = refl

pub kans_238 : count is_kan melds ≡ 238
kans_238 = refl

pub calls_361 : count is_call melds ≡ 361
calls_361 = refl

-- ---- Where a called tile comes from
-- a sequence from the player on the left alone, a triplet or a kan from each of the others
pub chi_from_left : T (is_meld (from_left (chi (man 1))))
chi_from_left = tt

pub chi_not_from_across : T (not (is_meld (from_across (chi (man 1)))))
chi_not_from_across = tt

pub chi_not_from_right : T (not (is_meld (from_right (chi (man 1)))))
chi_not_from_right = tt

pub sets_from_each :
    T (all (λ k. all (λ from. is_meld (from (k East))) (from_right ∷ from_across ∷ from_left ∷ [])) (pon ∷ open_kan ∷ added_kan ∷ []))
sets_from_each = tt

-- of each byte these are the sources of a kind, and no others
abbrev are_sources : ℕ → List ℕ → Bool
are_sources k ss = all_below 256 (λ s. beq (is_meld (meld_from (man 1) k s)) (any (eqb s) ss))

pub sources_of_sequences : T (are_sources 0 (0 ∷ []) && are_sources 1 (3 ∷ []))
sources_of_sequences = tt

pub sources_of_triplets : T (are_sources 2 (0 ∷ []) && are_sources 3 (1 ∷ 2 ∷ 3 ∷ []))
sources_of_triplets = tt

pub sources_of_kans : T (are_sources 4 (0 ∷ []) && (are_sources 5 (1 ∷ 2 ∷ 3 ∷ []) && are_sources 6 (1 ∷ 2 ∷ 3 ∷ [])))
sources_of_kans = tt

-- ---- The order of melds: by tile, then by kind, then by source
pub order_by_tile : T (ltb (key (added_kan (man 1))) (key (run (man 2))))
order_by_tile = tt

pub order_by_kind : T (ltb (key (chi (man 2))) (key (triplet (man 2))))
order_by_kind = tt

pub order_of_suits : T (ltb (key (triplet (man 9))) (key (run (pin 1))))
order_of_suits = tt

-- the kind before the source: a triplet from the left is before a kan from the right
pub order_by_kind_first : T (ltb (key (from_left (pon (man 2)))) (key (from_right (open_kan (man 2)))))
order_by_kind_first = tt

pub order_by_source : T (ltb (key (from_right (pon (man 2)))) (key (from_across (pon (man 2)))))
order_by_source = tt
