-- Examples of the yaku of triplets and kans: for each a case that has it and cases that just miss it. Computed. Assumes nothing.
use mathlib.Core.Path.{◌≡◌, refl}
use mathlib.Core.Bool.{not}
use mathlib.Core.List.{[], ◌∷◌}
use lib.Dec.{T}
use Rattle.tile.specs.Named.{man, pin, sou, East, South, West, North, Red}
use Rattle.meld.specs.Named.{run, chi, triplet, pon, closed_kan, open_kan, added_kan}
use Rattle.context.specs.Named.{ron, tsumo}
use Rattle.set_yaku.specs.Sets.{toitoi, kans, san_ankou, sanshoku_doukou, suuankou, suu_kantsu}

-- ---- Toitoi
-- triplets and kans, called or not
pub toitoi_four : T (toitoi (triplet (man 2) ∷ pon (pin 5) ∷ closed_kan (sou 9) ∷ added_kan East ∷ []))
unfolding toitoi
toitoi_four = tt

-- not beside one sequence, in the hand or called
pub toitoi_not_run : T (not (toitoi (triplet (man 2) ∷ pon (pin 5) ∷ open_kan (sou 9) ∷ run (man 4) ∷ [])))
unfolding toitoi
toitoi_not_run = tt

pub toitoi_not_chi : T (not (toitoi (chi (man 4) ∷ triplet (man 2) ∷ triplet (pin 5) ∷ triplet (sou 9) ∷ [])))
unfolding toitoi
toitoi_not_chi = tt

-- ---- SanKantsu, SuuKantsu: how many kans
-- closed, open and added kans alike; a triplet is none
pub kans_three : kans (closed_kan (man 2) ∷ open_kan (pin 5) ∷ added_kan Red ∷ triplet (sou 9) ∷ []) ≡ 3
unfolding kans
kans_three = refl

pub kans_none : kans (triplet (man 2) ∷ pon (pin 5) ∷ run (sou 1) ∷ chi (sou 7) ∷ []) ≡ 0
unfolding kans
kans_none = refl

pub suu_kantsu_four_holds : T (suu_kantsu (closed_kan (man 2) ∷ open_kan (pin 5) ∷ added_kan Red ∷ closed_kan (sou 9) ∷ []))
unfolding suu_kantsu kans
suu_kantsu_four_holds = tt

pub suu_kantsu_not_three_holds : T (not (suu_kantsu (closed_kan (man 2) ∷ open_kan (pin 5) ∷ added_kan Red ∷ triplet (sou 9) ∷ [])))
unfolding suu_kantsu kans
suu_kantsu_not_three_holds = tt

-- ---- SanAnkou
-- 222 man, 555 pin and a closed kan of East, ron on 3 sou
pub san_ankou_three_holds : T (san_ankou (ron (sou 3)) (triplet (man 2) ∷ triplet (pin 5) ∷ closed_kan East ∷ run (sou 2) ∷ []))
unfolding san_ankou
san_ankou_three_holds = tt

-- not with two of them, nor with one of the three called
pub san_ankou_not_two_holds : T (not (san_ankou (ron (sou 3)) (triplet (man 2) ∷ triplet (pin 5) ∷ run (sou 1) ∷ run (sou 2) ∷ [])))
unfolding san_ankou
san_ankou_not_two_holds = tt

pub san_ankou_not_pon_holds : T (not (san_ankou (ron (sou 3)) (triplet (man 2) ∷ triplet (pin 5) ∷ pon East ∷ run (sou 2) ∷ [])))
unfolding san_ankou
san_ankou_not_pon_holds = tt

pub san_ankou_not_open_kan_holds : T (not (san_ankou (ron (sou 3)) (triplet (man 2) ∷ triplet (pin 5) ∷ open_kan East ∷ run (sou 2) ∷ [])))
unfolding san_ankou
san_ankou_not_open_kan_holds = tt

-- not by ron on the third triplet; by tsumo on it
pub san_ankou_not_ron_holds : T (not (san_ankou (ron (man 2)) (triplet (man 2) ∷ triplet (pin 5) ∷ triplet East ∷ run (sou 2) ∷ [])))
unfolding san_ankou
san_ankou_not_ron_holds = tt

pub san_ankou_tsumo_holds : T (san_ankou (tsumo (man 2)) (triplet (man 2) ∷ triplet (pin 5) ∷ triplet East ∷ run (sou 2) ∷ []))
unfolding san_ankou
san_ankou_tsumo_holds = tt

-- by ron on the 2 of 222 where 123 in the hand has the tile too; not where that 123 was called
pub san_ankou_spared_holds : T (san_ankou (ron (man 2)) (run (man 1) ∷ triplet (man 2) ∷ triplet (pin 5) ∷ triplet East ∷ []))
unfolding san_ankou
san_ankou_spared_holds = tt

pub san_ankou_not_spared_holds : T (not (san_ankou (ron (man 2)) (chi (man 1) ∷ triplet (man 2) ∷ triplet (pin 5) ∷ triplet East ∷ [])))
unfolding san_ankou
san_ankou_not_spared_holds = tt

-- four concealed triplets are Suuankou, not SanAnkou; but by ron on one of the four there are three
pub san_ankou_not_four_holds : T (not (san_ankou (tsumo (man 2)) (triplet (man 2) ∷ triplet (pin 5) ∷ triplet (sou 9) ∷ triplet East ∷ [])))
unfolding san_ankou
san_ankou_not_four_holds = tt

pub san_ankou_ron_of_four_holds : T (san_ankou (ron (man 2)) (triplet (man 2) ∷ triplet (pin 5) ∷ triplet (sou 9) ∷ triplet East ∷ []))
unfolding san_ankou
san_ankou_ron_of_four_holds = tt

-- ---- Suuankou
-- by tsumo on a triplet, and by ron on the pair, a closed kan among the four
pub suuankou_tsumo_holds : T (suuankou (tsumo (man 2)) (triplet (man 2) ∷ triplet (pin 5) ∷ closed_kan (sou 9) ∷ triplet East ∷ []))
unfolding suuankou
suuankou_tsumo_holds = tt

pub suuankou_ron_on_pair : T (suuankou (ron Red) (triplet (man 2) ∷ triplet (pin 5) ∷ triplet (sou 9) ∷ triplet East ∷ []))
unfolding suuankou
suuankou_ron_on_pair = tt

-- not by ron on a triplet, not with one triplet called
pub suuankou_not_ron : T (not (suuankou (ron (man 2)) (triplet (man 2) ∷ triplet (pin 5) ∷ triplet (sou 9) ∷ triplet East ∷ [])))
unfolding suuankou
suuankou_not_ron = tt

pub suuankou_not_pon : T (not (suuankou (tsumo (man 2)) (triplet (man 2) ∷ triplet (pin 5) ∷ triplet (sou 9) ∷ pon East ∷ [])))
unfolding suuankou
suuankou_not_pon = tt

-- ---- SanshokuDoukou
-- 555 of man, pin and sou, called, a kan, or in the hand
pub doukou_three_suits : T (sanshoku_doukou (triplet (man 5) ∷ pon (pin 5) ∷ run (man 1) ∷ closed_kan (sou 5) ∷ []))
unfolding sanshoku_doukou
doukou_three_suits = tt

-- 999 too
pub doukou_terminals : T (sanshoku_doukou (triplet (man 9) ∷ triplet (pin 9) ∷ triplet (sou 9) ∷ pon (sou 1) ∷ []))
unfolding sanshoku_doukou
doukou_terminals = tt

-- not of two suits, not with another number, not with a sequence from 5, not of winds
pub doukou_not_two_suits : T (not (sanshoku_doukou (triplet (man 5) ∷ triplet (pin 5) ∷ triplet East ∷ triplet Red ∷ [])))
unfolding sanshoku_doukou
doukou_not_two_suits = tt

pub doukou_not_other_number : T (not (sanshoku_doukou (triplet (man 5) ∷ triplet (pin 5) ∷ triplet (sou 6) ∷ triplet Red ∷ [])))
unfolding sanshoku_doukou
doukou_not_other_number = tt

pub doukou_not_run : T (not (sanshoku_doukou (triplet (man 5) ∷ triplet (pin 5) ∷ run (sou 5) ∷ triplet Red ∷ [])))
unfolding sanshoku_doukou
doukou_not_run = tt

pub doukou_not_winds : T (not (sanshoku_doukou (triplet East ∷ triplet South ∷ triplet West ∷ triplet North ∷ [])))
unfolding sanshoku_doukou
doukou_not_winds = tt
