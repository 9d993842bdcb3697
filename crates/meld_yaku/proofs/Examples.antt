-- Examples of what the yaku ask of the melds. Computed. Assumes nothing.
use mathlib.Core.Path.{◌≡◌, refl}
use mathlib.Core.Bool.{true, not}
use mathlib.Core.List.{[], ◌∷◌}
use lib.Dec.{T, eqb}
use Rattle.tile.specs.Tile.{is_dragon}
use Rattle.tile.specs.Named.{man, pin, sou, East, White, Red}
use Rattle.meld.specs.Named.{run, chi, triplet, pon, open_kan}
use Rattle.hand.specs.Reading.{pairs, orphans}
use Rattle.meld_yaku.specs.Melds.{run_from, set_of, three_suits}
use Rattle.meld_yaku.specs.Standard.{of_standard}

-- ---- a sequence from 2: 234, called or not; not 345, not 222
pub run_from_holds : T (run_from (man 2) (chi (man 2)))
run_from_holds = tt

pub run_not_shifted : T (not (run_from (man 2) (run (man 3))))
run_not_shifted = tt

pub run_not_triplet : T (not (run_from (man 2) (triplet (man 2))))
run_not_triplet = tt

-- ---- a triplet or kan of a dragon, called or not; not of a wind
pub set_of_dragon : T (set_of is_dragon (open_kan Red))
set_of_dragon = tt

pub set_not_wind : T (not (set_of is_dragon (triplet East)))
set_not_wind = tt

-- a triplet of 2; not the sequence 234
pub set_of_tile : T (set_of (eqb (man 2)) (pon (man 2)))
set_of_tile = tt

pub set_not_run : T (not (set_of (eqb (man 2)) (run (man 2))))
set_not_run = tt

-- ---- the same number in three suits
pub suits_of_5 : three_suits (man 5) ≡ (man 5 ∷ pin 5 ∷ sou 5 ∷ [])
suits_of_5 = refl

-- ---- seven pairs and thirteen orphans have no melds to ask
pub pairs_none : T (not (of_standard (λ p ms. true) (pairs (man 1 ∷ man 2 ∷ pin 3 ∷ sou 4 ∷ East ∷ White ∷ Red ∷ []))))
pairs_none = tt

pub orphans_none : T (not (of_standard (λ p ms. true) (orphans East)))
orphans_none = tt
