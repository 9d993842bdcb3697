-- Melds as players name them, by their lowest tile. These are definitions.
use Rattle.std.specs.Prelude.{ℕ}
use Rattle.meld.specs.declared.Meld.{Meld}
use Rattle.meld.specs.Meld.{from_seat, meld}

-- in the hand: a closed sequence, a closed triplet
abbrev pub run : ℕ → Meld
run t = meld t 0

abbrev pub triplet : ℕ → Meld
triplet t = meld t 2

-- called, from the player before where nothing else is said: an open sequence, an open triplet, and the three kans
abbrev pub chi : ℕ → Meld
chi t = meld t 1

abbrev pub pon : ℕ → Meld
pon t = meld t 3

abbrev pub closed_kan : ℕ → Meld
closed_kan t = meld t 4

abbrev pub open_kan : ℕ → Meld
open_kan t = meld t 5

abbrev pub added_kan : ℕ → Meld
added_kan t = meld t 6

-- who the tile was called from: the next player, on the right; the one across; the one before, on the left
abbrev pub from_right : Meld → Meld
from_right m = from_seat 1 m

abbrev pub from_across : Meld → Meld
from_across m = from_seat 2 m

abbrev pub from_left : Meld → Meld
from_left m = from_seat 3 m
