-- Tiles by the names that players use: of which tiles each question is true, and examples of suits, numbers and renamings. Assumes nothing.
use mathlib.Core.Path.{◌≡◌, refl}
use mathlib.Core.Bool.{Bool, true, false, ◌&&◌, beq}
use mathlib.Core.List.{List, [], ◌∷◌, ◌++◌, map}
use Prim.Native.Nat.{ℕ, ◌+◌, ◌<◌}
use lib.Dec.{T, eqb, eqb→eq}
use Rattle.lists.specs.Fold.{all_below, all, any, one, count, up_from}
use Rattle.lists.proofs.Finite.{at}
use Rattle.tile.specs.declared.Order.TheVariants.{Abc, Acb, Bca, Cba}
use Rattle.tile.specs.Tile.{is_suited, is_honor, is_wind, is_after_east, is_dragon, is_terminal, is_simple, is_terminal_or_honor, is_green, suit_of, value_of, is_start, tiles}
use Rattle.tile.specs.Named.{man, pin, sou, East, South, West, North, White, Green, Red, mans, pins, sous, orphan_tiles}
use Rattle.tile.specs.Renaming.{ren}
use Rattle.tile.proofs.Renamings.{renaming}

-- the question p is true of the tiles in the list, and of no other byte: of no other tile, and of no number above 33
abbrev pub are_just : (ℕ → Bool) → List ℕ → Bool
are_just p l = all_below 256 (λ t. beq (p t) (any (eqb t) l))

-- ---- Numbering: man 1 to 9 are 0 to 8, then pin, sou and the honors
pub man_first : man 1 ≡ 0
man_first = refl

pub pin_first : pin 1 ≡ 9
pin_first = refl

pub sou_first : sou 1 ≡ 18
sou_first = refl

pub honors_last : (East ∷ South ∷ West ∷ North ∷ White ∷ Green ∷ Red ∷ []) ≡ (27 ∷ 28 ∷ 29 ∷ 30 ∷ 31 ∷ 32 ∷ 33 ∷ [])
honors_last = refl

-- ---- Suits and numbers: man is suit 0, pin 1, sou 2; an honor has neither suit nor number
pub man_suit : T (all (λ t. eqb (suit_of t) 0) (mans 123456789))
man_suit = tt

pub pin_suit : T (all (λ t. eqb (suit_of t) 1) (pins 123456789))
pin_suit = tt

pub sou_suit : T (all (λ t. eqb (suit_of t) 2) (sous 123456789))
sou_suit = tt

pub east_suit : suit_of East ≡ 3
east_suit = refl

-- the number of each tile n of a suit is n
pub numbers : T (all_below 9 (λ n. all (λ t. eqb (value_of t) (n + 1)) (man (n + 1) ∷ pin (n + 1) ∷ sou (n + 1) ∷ [])))
numbers = tt

pub red_number : value_of Red ≡ 0
red_number = refl

-- nor has a number above 33, which is no tile
pub no_tile_suit : T (all (λ t. eqb (suit_of t) 3 && eqb (value_of t) 0) (up_from 222 34))
no_tile_suit = tt

-- ---- Tiles of a suit, and honors
pub suited_tiles : T (are_just is_suited (mans 123456789 ++ pins 123456789 ++ sous 123456789))
suited_tiles = tt

pub honor_tiles : T (are_just is_honor (East ∷ South ∷ West ∷ North ∷ White ∷ Green ∷ Red ∷ []))
honor_tiles = tt

-- ---- Winds and dragons
pub wind_tiles : T (are_just is_wind (East ∷ South ∷ West ∷ North ∷ []))
wind_tiles = tt

-- the winds of the seats that are not the dealer's
pub after_east_tiles : T (are_just is_after_east (South ∷ West ∷ North ∷ []))
after_east_tiles = tt

pub dragon_tiles : T (are_just is_dragon (White ∷ Green ∷ Red ∷ []))
dragon_tiles = tt

-- ---- Terminals are 1 and 9, simples 2 to 8
pub terminal_tiles : T (are_just is_terminal (mans 19 ++ pins 19 ++ sous 19))
terminal_tiles = tt

pub simple_tiles : T (are_just is_simple (mans 2345678 ++ pins 2345678 ++ sous 2345678))
simple_tiles = tt

pub terminal_or_honor_tiles : T (are_just is_terminal_or_honor orphan_tiles)
terminal_or_honor_tiles = tt

-- ---- Green: sou 2, 3, 4, 6, 8 and Green; not sou 1, 5, 7 or 9, of which a part is red, and not man or pin
pub green_tiles : T (are_just is_green (Green ∷ sous 23468))
green_tiles = tt

-- ---- A sequence starts at 1 to 7 of a suit, not at 8 or 9, and at no honor
pub start_tiles : T (are_just is_start (mans 1234567 ++ pins 1234567 ++ sous 1234567))
start_tiles = tt

-- ---- How many there are of each sort
pub tiles_34 : count (λ t. true) tiles ≡ 34
tiles_34 = refl

pub suited_27 : count is_suited tiles ≡ 27
suited_27 = refl

pub honors_7 : count is_honor tiles ≡ 7
honors_7 = refl

pub winds_4 : count is_wind tiles ≡ 4
winds_4 = refl

pub dragons_3 : count is_dragon tiles ≡ 3
dragons_3 = refl

pub terminals_6 : count is_terminal tiles ≡ 6
terminals_6 = refl

pub simples_21 : count is_simple tiles ≡ 21
simples_21 = refl

pub orphans_13 : count is_terminal_or_honor tiles ≡ 13
orphans_13 = refl

pub greens_6 : count is_green tiles ≡ 6
greens_6 = refl

pub starts_21 : count is_start tiles ≡ 21
starts_21 = refl

-- ---- Each tile is of one sort: a simple, a terminal, a wind or a dragon
sorts_test : T (all_below 34 (λ t. eqb (one (is_simple t) + (one (is_terminal t) + (one (is_wind t) + one (is_dragon t)))) 1))
sorts_test = tt

pub one_sort : (t : ℕ) → t < 34 → one (is_simple t) + (one (is_terminal t) + (one (is_wind t) + one (is_dragon t))) ≡ 1
one_sort t h = eqb→eq _ _ (at 34 (λ t. eqb (one (is_simple t) + (one (is_terminal t) + (one (is_wind t) + one (is_dragon t)))) 1) sorts_test t h)

-- ---- Renamings
-- man, pin and sou change places: man 3 becomes pin 3
pub suits_move : ren (renaming Bca false false Abc) (man 3) ≡ pin 3
suits_move = refl

-- mirrored, 3 becomes 7
pub mirror_3 : ren (renaming Abc true false Abc) (sou 3) ≡ sou 7
mirror_3 = refl

-- 5 stays the middle
pub mirror_5 : ren (renaming Acb true false Abc) (pin 5) ≡ sou 5
mirror_5 = refl

-- White becomes Red
pub white_red : ren (renaming Abc false true Abc) White ≡ Red
white_red = refl

-- Green stays
pub green_stays : ren (renaming Bca true true Bca) Green ≡ Green
green_stays = refl

-- South, West and North change places: South becomes West, West North, North South
pub winds_move : map (ren (renaming Abc false false Bca)) (South ∷ West ∷ North ∷ []) ≡ West ∷ North ∷ South ∷ []
winds_move = refl

-- South and North change places, West stays
pub two_winds : map (ren (renaming Abc false false Cba)) (South ∷ West ∷ North ∷ []) ≡ North ∷ West ∷ South ∷ []
two_winds = refl

-- East stays
pub east_stays : ren (renaming Bca true true Bca) East ≡ East
east_stays = refl
