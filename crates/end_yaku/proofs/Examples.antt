-- Examples of Chanta and Junchan: for each a case that has it and cases that just miss it. Computed. Assumes nothing.
use mathlib.Core.Bool.{not}
use mathlib.Core.List.{[], ◌∷◌}
use lib.Dec.{T}
use Rattle.tile.specs.Named.{man, pin, sou, East, White}
use Rattle.meld.specs.Named.{run, chi, triplet, pon, closed_kan}
use Rattle.end_yaku.specs.Ends.{end_run, chanta, junchan}

-- ---- a sequence with a terminal is 123 or 789, called or not
pub end_123 : T (end_run (run (pin 1)))
end_123 = tt

pub end_789 : T (end_run (chi (sou 7)))
end_789 = tt

pub end_not_234 : T (not (end_run (run (man 2))))
end_not_234 = tt

pub end_not_678 : T (not (end_run (run (man 6))))
end_not_678 = tt

pub end_not_triplet : T (not (end_run (triplet (man 1))))
end_not_triplet = tt

-- ---- Chanta
-- 123 789 111 and East with a pair of White, open or closed
pub chanta_four : T (chanta White (run (man 1) ∷ chi (pin 7) ∷ triplet (sou 1) ∷ pon East ∷ []))
unfolding chanta
chanta_four = tt

-- one sequence is enough
pub chanta_one_run : T (chanta (man 9) (triplet (man 1) ∷ closed_kan East ∷ pon (sou 9) ∷ run (pin 7) ∷ []))
unfolding chanta
chanta_one_run = tt

-- not with a pair of 5, not with 234, not with a triplet of 2
pub chanta_not_simple_pair : T (not (chanta (man 5) (run (man 1) ∷ run (pin 7) ∷ triplet (sou 1) ∷ pon East ∷ [])))
unfolding chanta
chanta_not_simple_pair = tt

pub chanta_not_234 : T (not (chanta White (run (man 1) ∷ run (pin 2) ∷ triplet (sou 1) ∷ pon East ∷ [])))
unfolding chanta
chanta_not_234 = tt

pub chanta_not_simple_triplet : T (not (chanta White (run (man 1) ∷ run (pin 7) ∷ triplet (sou 2) ∷ pon East ∷ [])))
unfolding chanta
chanta_not_simple_triplet = tt

-- not without a sequence: that is Honroutou
pub chanta_not_triplets : T (not (chanta White (triplet (man 1) ∷ triplet (pin 9) ∷ triplet (sou 1) ∷ pon East ∷ [])))
unfolding chanta
chanta_not_triplets = tt

-- ---- Junchan
-- 123 789 999 123 with a pair of 1, open or closed
pub junchan_four : T (junchan (man 1) (run (man 1) ∷ chi (pin 7) ∷ triplet (sou 9) ∷ run (sou 1) ∷ []))
unfolding junchan
junchan_four = tt

-- not with a pair or a triplet of an honor, not with a pair of 2, not with 678
pub junchan_not_honor_pair : T (not (junchan East (run (man 1) ∷ chi (pin 7) ∷ triplet (sou 9) ∷ run (sou 1) ∷ [])))
unfolding junchan
junchan_not_honor_pair = tt

pub junchan_not_honor_triplet : T (not (junchan (man 1) (run (man 1) ∷ chi (pin 7) ∷ triplet East ∷ run (sou 1) ∷ [])))
unfolding junchan
junchan_not_honor_triplet = tt

pub junchan_not_simple_pair : T (not (junchan (man 2) (run (man 1) ∷ chi (pin 7) ∷ triplet (sou 9) ∷ run (sou 1) ∷ [])))
unfolding junchan
junchan_not_simple_pair = tt

pub junchan_not_678 : T (not (junchan (man 1) (run (man 1) ∷ chi (pin 6) ∷ triplet (sou 9) ∷ run (sou 1) ∷ [])))
unfolding junchan
junchan_not_678 = tt

-- not without a sequence: that is Chinroutou
pub junchan_not_triplets : T (not (junchan (man 1) (triplet (man 9) ∷ triplet (pin 9) ∷ triplet (sou 1) ∷ pon (pin 1) ∷ [])))
unfolding junchan
junchan_not_triplets = tt
