-- Payments by examples, as the tables of a rulebook have them: what each pays for han and fu. Assumes nothing.
use mathlib.Core.Path.{◌≡◌, refl}
use mathlib.Core.Bool.{Bool, true, false}
use Prim.Native.Nat.{ℕ}
use Rattle.scoring.specs.declared.Payment.TheVariants.{Ron, DealerTsumo, Tsumo}
use Rattle.scoring.specs.Payment.{Refused, Paid}
use Rattle.scoring.specs.Level.{basic_points}
use Rattle.scoring.specs.Payment.{round_up_to100, payment, payment_answer, total_at}
use Rattle.scoring.specs.Payers.{owed_in_all}

-- han and fu without a yakuman cost the discarder so much, or so much where the dealer wins
abbrev ByRon : ℕ → ℕ → ℕ → ℕ → Type 0
ByRon han fu other dealer =
    (payment false false (basic_points han fu false) ≡ Ron other) × (payment false true (basic_points han fu false) ≡ Ron dealer)

-- by tsumo they cost the dealer so much and each of the others so much
abbrev ByTsumo : ℕ → ℕ → ℕ → ℕ → Type 0
ByTsumo han fu dealer other = payment true false (basic_points han fu false) ≡ Tsumo dealer other

-- and each of the others so much where the dealer wins
abbrev ByDealerTsumo : ℕ → ℕ → ℕ → Type 0
ByDealerTsumo han fu each = payment true true (basic_points han fu false) ≡ DealerTsumo each

-- ---- by ron: what the discarder pays to a winner who is not the dealer, and to the dealer
pub one_han_30_fu_ron : ByRon 1 30 1000 1500
unfolding payment basic_points
one_han_30_fu_ron = (refl, refl)

pub one_han_40_fu_ron : ByRon 1 40 1300 2000
unfolding payment basic_points
one_han_40_fu_ron = (refl, refl)

pub one_han_50_fu_ron : ByRon 1 50 1600 2400
unfolding payment basic_points
one_han_50_fu_ron = (refl, refl)

pub two_han_25_fu_ron : ByRon 2 25 1600 2400
unfolding payment basic_points
two_han_25_fu_ron = (refl, refl)

pub two_han_30_fu_ron : ByRon 2 30 2000 2900
unfolding payment basic_points
two_han_30_fu_ron = (refl, refl)

pub two_han_40_fu_ron : ByRon 2 40 2600 3900
unfolding payment basic_points
two_han_40_fu_ron = (refl, refl)

pub three_han_25_fu_ron : ByRon 3 25 3200 4800
unfolding payment basic_points
three_han_25_fu_ron = (refl, refl)

pub three_han_30_fu_ron : ByRon 3 30 3900 5800
unfolding payment basic_points
three_han_30_fu_ron = (refl, refl)

pub three_han_40_fu_ron : ByRon 3 40 5200 7700
unfolding payment basic_points
three_han_40_fu_ron = (refl, refl)

pub three_han_60_fu_ron : ByRon 3 60 7700 11600
unfolding payment basic_points
three_han_60_fu_ron = (refl, refl)

pub four_han_25_fu_ron : ByRon 4 25 6400 9600
unfolding payment basic_points
four_han_25_fu_ron = (refl, refl)

pub four_han_30_fu_ron : ByRon 4 30 7700 11600
unfolding payment basic_points
four_han_30_fu_ron = (refl, refl)

-- the limits: mangan, haneman, baiman, sanbaiman, yakuman
pub mangan_ron : ByRon 5 30 8000 12000
unfolding payment basic_points
mangan_ron = (refl, refl)

pub haneman_ron : ByRon 6 30 12000 18000
unfolding payment basic_points
haneman_ron = (refl, refl)

pub baiman_ron : ByRon 8 30 16000 24000
unfolding payment basic_points
baiman_ron = (refl, refl)

pub sanbaiman_ron : ByRon 11 30 24000 36000
unfolding payment basic_points
sanbaiman_ron = (refl, refl)

pub yakuman_ron : ByRon 13 30 32000 48000
unfolding payment basic_points
yakuman_ron = (refl, refl)

-- ---- by tsumo: the dealer pays twice what each of the others pays, before rounding
pub one_han_30_fu_tsumo : ByTsumo 1 30 500 300
unfolding payment basic_points
one_han_30_fu_tsumo = refl

pub two_han_20_fu_tsumo : ByTsumo 2 20 700 400
unfolding payment basic_points
two_han_20_fu_tsumo = refl

pub two_han_30_fu_tsumo : ByTsumo 2 30 1000 500
unfolding payment basic_points
two_han_30_fu_tsumo = refl

pub three_han_20_fu_tsumo : ByTsumo 3 20 1300 700
unfolding payment basic_points
three_han_20_fu_tsumo = refl

pub three_han_30_fu_tsumo : ByTsumo 3 30 2000 1000
unfolding payment basic_points
three_han_30_fu_tsumo = refl

pub three_han_40_fu_tsumo : ByTsumo 3 40 2600 1300
unfolding payment basic_points
three_han_40_fu_tsumo = refl

pub four_han_30_fu_tsumo : ByTsumo 4 30 3900 2000
unfolding payment basic_points
four_han_30_fu_tsumo = refl

pub mangan_tsumo : ByTsumo 5 30 4000 2000
unfolding payment basic_points
mangan_tsumo = refl

pub haneman_tsumo : ByTsumo 6 30 6000 3000
unfolding payment basic_points
haneman_tsumo = refl

pub baiman_tsumo : ByTsumo 8 30 8000 4000
unfolding payment basic_points
baiman_tsumo = refl

pub sanbaiman_tsumo : ByTsumo 11 30 12000 6000
unfolding payment basic_points
sanbaiman_tsumo = refl

pub yakuman_tsumo : ByTsumo 13 30 16000 8000
unfolding payment basic_points
yakuman_tsumo = refl

-- to the dealer all pay twice the basic points
pub one_han_30_fu_dealer_tsumo : ByDealerTsumo 1 30 500
unfolding payment basic_points
one_han_30_fu_dealer_tsumo = refl

pub two_han_20_fu_dealer_tsumo : ByDealerTsumo 2 20 700
unfolding payment basic_points
two_han_20_fu_dealer_tsumo = refl

pub two_han_30_fu_dealer_tsumo : ByDealerTsumo 2 30 1000
unfolding payment basic_points
two_han_30_fu_dealer_tsumo = refl

pub three_han_30_fu_dealer_tsumo : ByDealerTsumo 3 30 2000
unfolding payment basic_points
three_han_30_fu_dealer_tsumo = refl

pub mangan_dealer_tsumo : ByDealerTsumo 5 30 4000
unfolding payment basic_points
mangan_dealer_tsumo = refl

pub haneman_dealer_tsumo : ByDealerTsumo 6 30 6000
unfolding payment basic_points
haneman_dealer_tsumo = refl

pub baiman_dealer_tsumo : ByDealerTsumo 8 30 8000
unfolding payment basic_points
baiman_dealer_tsumo = refl

pub sanbaiman_dealer_tsumo : ByDealerTsumo 11 30 12000
unfolding payment basic_points
sanbaiman_dealer_tsumo = refl

pub yakuman_dealer_tsumo : ByDealerTsumo 13 30 16000
unfolding payment basic_points
yakuman_dealer_tsumo = refl

-- ---- rounding up to 100
pub hundreds_stay : round_up_to100 3900 ≡ 3900
hundreds_stay = refl

pub one_more : round_up_to100 3901 ≡ 4000
one_more = refl

pub one_less : round_up_to100 3899 ≡ 3900
one_less = refl

pub nothing_stays : round_up_to100 0 ≡ 0
nothing_stays = refl

-- after the doubling and not before: of 320 the dealer pays 700, not 800
pub doubled_then_rounded : payment true false 320 ≡ Tsumo 700 400
unfolding payment
doubled_then_rounded = refl

-- ---- what the winner receives at a table of four
pub ron_total : total_at 4 (Ron 3900) ≡ 3900
ron_total = refl

pub dealer_tsumo_total : total_at 4 (DealerTsumo 4000) ≡ 12000
dealer_tsumo_total = refl

pub tsumo_total : total_at 4 (Tsumo 4000 2000) ≡ 8000
tsumo_total = refl

-- and at a table of three, where by tsumo two pay
pub ron_total_of_three : total_at 3 (Ron 3900) ≡ 3900
ron_total_of_three = refl

pub dealer_tsumo_total_of_three : total_at 3 (DealerTsumo 4000) ≡ 8000
dealer_tsumo_total_of_three = refl

pub tsumo_total_of_three : total_at 3 (Tsumo 4000 2000) ≡ 6000
tsumo_total_of_three = refl

-- how often the basic points are owed in all: at a table of four 4 times, to the dealer 6 times, by ron and by tsumo alike
pub owed_at_four : (by_tsumo : Bool) → (owed_in_all 4 by_tsumo false ≡ 4) × (owed_in_all 4 by_tsumo true ≡ 6)
owed_at_four true = (refl, refl)
owed_at_four false = (refl, refl)

-- at a table of three by tsumo 3 times, to the dealer 4 times
pub owed_at_three : (owed_in_all 3 true false ≡ 3) × (owed_in_all 3 true true ≡ 4)
owed_at_three = (refl, refl)

-- ---- what is refused: basic points above 152,000 with 13, a win type that is neither ron nor tsumo with 8, and 8 before 13
pub most_is_paid : payment_answer 152000 true 0 ≡ Paid (Ron 912000)
unfolding payment_answer payment
most_is_paid = refl

pub beyond_is_refused : payment_answer 152001 true 0 ≡ Refused 13
unfolding payment_answer
beyond_is_refused = refl

pub tsumo_is_paid : payment_answer 2000 false 1 ≡ Paid (Tsumo 4000 2000)
unfolding payment_answer payment
tsumo_is_paid = refl

pub win_type_is_refused : payment_answer 2000 false 2 ≡ Refused 8
unfolding payment_answer
win_type_is_refused = refl

pub win_type_is_refused_first : payment_answer 152001 false 2 ≡ Refused 8
unfolding payment_answer
win_type_is_refused_first = refl
