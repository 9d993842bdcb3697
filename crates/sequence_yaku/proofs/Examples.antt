-- Examples of the yaku of sequences: for each a case that has it and cases that just miss it. Computed. Assumes nothing.
use mathlib.Core.Path.{◌≡◌, refl}
use mathlib.Core.Bool.{not}
use mathlib.Core.List.{[], ◌∷◌}
use lib.Dec.{T}
use Rattle.tile.specs.Named.{man, pin, sou, East, Red}
use Rattle.meld.specs.Named.{run, chi, triplet, pon, closed_kan}
use Rattle.sequence_yaku.specs.Sequences.{ittsu, sanshoku_doujun, peikou}

-- ---- Iipeikou and Ryanpeikou: pairs of identical sequences
-- 234 234 of man
pub peikou_one : peikou (run (man 2) ∷ run (man 2) ∷ run (pin 5) ∷ triplet East ∷ []) ≡ 1
unfolding peikou
peikou_one = refl

-- 789 789 of sou, apart
pub peikou_apart : peikou (run (sou 7) ∷ run (man 2) ∷ triplet (pin 7) ∷ run (sou 7) ∷ []) ≡ 1
unfolding peikou
peikou_apart = refl

-- not 234 of man and 234 of pin, not 234 and 345, not a sequence and a triplet from the same tile, not two triplets (which no hand has of one tile)
pub peikou_not_suits : peikou (run (man 2) ∷ run (pin 2) ∷ run (sou 2) ∷ triplet East ∷ []) ≡ 0
unfolding peikou
peikou_not_suits = refl

pub peikou_not_shifted : peikou (run (man 2) ∷ run (man 3) ∷ run (man 4) ∷ triplet East ∷ []) ≡ 0
unfolding peikou
peikou_not_shifted = refl

pub peikou_not_triplet : peikou (run (man 2) ∷ triplet (man 2) ∷ run (pin 5) ∷ triplet East ∷ []) ≡ 0
unfolding peikou
peikou_not_triplet = refl

pub peikou_not_triplets : peikou (triplet (man 2) ∷ triplet (man 2) ∷ run (pin 5) ∷ triplet East ∷ []) ≡ 0
unfolding peikou
peikou_not_triplets = refl

-- 234 234 of man and 678 678 of sou are two
pub peikou_two : peikou (run (man 2) ∷ run (sou 6) ∷ run (man 2) ∷ run (sou 6) ∷ []) ≡ 2
unfolding peikou
peikou_two = refl

-- three alike are one pair, four alike are two
pub peikou_three_alike : peikou (run (man 2) ∷ run (man 2) ∷ run (man 2) ∷ run (sou 6) ∷ []) ≡ 1
unfolding peikou
peikou_three_alike = refl

pub peikou_four_alike : peikou (run (man 2) ∷ run (man 2) ∷ run (man 2) ∷ run (man 2) ∷ []) ≡ 2
unfolding peikou
peikou_four_alike = refl

-- ---- Ittsu
-- 123 456 789 of pin, in any order, one of them called
pub ittsu_pin : T (ittsu (run (pin 7) ∷ triplet East ∷ chi (pin 1) ∷ run (pin 4) ∷ []))
unfolding ittsu
ittsu_pin = tt

-- not across two suits, not 123 456 678, not 123 345 789, not 123 456 and a triplet of 7
pub ittsu_not_two_suits : T (not (ittsu (run (man 1) ∷ run (pin 4) ∷ run (man 7) ∷ triplet East ∷ [])))
unfolding ittsu
ittsu_not_two_suits = tt

pub ittsu_not_678 : T (not (ittsu (run (man 1) ∷ run (man 4) ∷ run (man 6) ∷ triplet East ∷ [])))
unfolding ittsu
ittsu_not_678 = tt

pub ittsu_not_345 : T (not (ittsu (run (sou 1) ∷ run (sou 3) ∷ run (sou 7) ∷ triplet East ∷ [])))
unfolding ittsu
ittsu_not_345 = tt

pub ittsu_not_triplet : T (not (ittsu (run (man 1) ∷ run (man 4) ∷ triplet (man 7) ∷ triplet East ∷ [])))
unfolding ittsu
ittsu_not_triplet = tt

-- ---- SanshokuDoujun
-- 234 of man, pin and sou, in any order, called or not
pub doujun_234 : T (sanshoku_doujun (run (sou 2) ∷ chi (man 2) ∷ triplet East ∷ run (pin 2) ∷ []))
unfolding sanshoku_doujun
doujun_234 = tt

-- 123 and 789 too
pub doujun_123 : T (sanshoku_doujun (run (man 1) ∷ run (pin 1) ∷ run (sou 1) ∷ run (sou 4) ∷ []))
unfolding sanshoku_doujun
doujun_123 = tt

pub doujun_789 : T (sanshoku_doujun (run (man 7) ∷ run (pin 7) ∷ run (sou 7) ∷ pon Red ∷ []))
unfolding sanshoku_doujun
doujun_789 = tt

-- not of two suits, not with 345 in the third, not with a triplet in the third, not of three triplets
pub doujun_not_two_suits : T (not (sanshoku_doujun (run (man 2) ∷ run (pin 2) ∷ run (pin 2) ∷ triplet East ∷ [])))
unfolding sanshoku_doujun
doujun_not_two_suits = tt

pub doujun_not_shifted : T (not (sanshoku_doujun (run (man 2) ∷ run (pin 2) ∷ run (sou 3) ∷ triplet East ∷ [])))
unfolding sanshoku_doujun
doujun_not_shifted = tt

pub doujun_not_triplet : T (not (sanshoku_doujun (run (man 2) ∷ run (pin 2) ∷ triplet (sou 2) ∷ triplet East ∷ [])))
unfolding sanshoku_doujun
doujun_not_triplet = tt

pub doujun_not_triplets : T (not (sanshoku_doujun (triplet (man 2) ∷ pon (pin 2) ∷ closed_kan (sou 2) ∷ run (man 2) ∷ [])))
unfolding sanshoku_doujun
doujun_not_triplets = tt
