-- Levels and basic points by examples: each border from both sides. Assumes nothing.
use mathlib.Core.Path.{◌≡◌, refl}
use mathlib.Core.Bool.{true, false}
use Prim.Native.Nat.{ℕ, ◌*◌}
use Rattle.scoring.specs.declared.ScoreLevel.{ScoreLevel}
use Rattle.scoring.specs.declared.ScoreLevel.TheVariants.{Normal, Mangan, Haneman, Baiman, Sanbaiman, Yakuman}
use Rattle.scoring.specs.Level.{level, basic_points}

-- han and fu without a yakuman have the level and the basic points
abbrev Worth : ℕ → ℕ → ScoreLevel → ℕ → Type 0
Worth han fu l n = (level han fu false ≡ l) × (basic_points han fu false ≡ n)

-- han of yakuman make so many yakuman, each of 8,000
abbrev Makes : ℕ → ℕ → Type 0
Makes han k = (level han 30 true ≡ Yakuman k) × (basic_points han 30 true ≡ 8000 * k)

-- ---- below mangan: fu doubled han + 2 times
pub one_han_30_fu : Worth 1 30 Normal 240
unfolding basic_points
one_han_30_fu = (refl, refl)

pub one_han_40_fu : Worth 1 40 Normal 320
unfolding basic_points
one_han_40_fu = (refl, refl)

pub one_han_110_fu : Worth 1 110 Normal 880
unfolding basic_points
one_han_110_fu = (refl, refl)

pub two_han_20_fu : Worth 2 20 Normal 320
unfolding basic_points
two_han_20_fu = (refl, refl)

pub two_han_25_fu : Worth 2 25 Normal 400
unfolding basic_points
two_han_25_fu = (refl, refl)

pub two_han_30_fu : Worth 2 30 Normal 480
unfolding basic_points
two_han_30_fu = (refl, refl)

pub three_han_25_fu : Worth 3 25 Normal 800
unfolding basic_points
three_han_25_fu = (refl, refl)

pub three_han_30_fu : Worth 3 30 Normal 960
unfolding basic_points
three_han_30_fu = (refl, refl)

pub four_han_20_fu : Worth 4 20 Normal 1280
unfolding basic_points
four_han_20_fu = (refl, refl)

pub four_han_25_fu : Worth 4 25 Normal 1600
unfolding basic_points
four_han_25_fu = (refl, refl)

-- 0 han has the level Normal and is priced all the same
pub no_han_30_fu : Worth 0 30 Normal 120
unfolding basic_points
no_han_30_fu = (refl, refl)

-- ---- mangan: 3 han from 70 fu, 4 han from 40 fu, 5 han with any
pub three_han_60_fu : Worth 3 60 Normal 1920
unfolding basic_points
three_han_60_fu = (refl, refl)

pub three_han_70_fu : Worth 3 70 Mangan 2000
unfolding basic_points
three_han_70_fu = (refl, refl)

pub three_han_110_fu : Worth 3 110 Mangan 2000
unfolding basic_points
three_han_110_fu = (refl, refl)

pub four_han_30_fu : Worth 4 30 Normal 1920
unfolding basic_points
four_han_30_fu = (refl, refl)

pub four_han_40_fu : Worth 4 40 Mangan 2000
unfolding basic_points
four_han_40_fu = (refl, refl)

pub five_han_20_fu : Worth 5 20 Mangan 2000
unfolding basic_points
five_han_20_fu = (refl, refl)

pub five_han_70_fu : Worth 5 70 Mangan 2000
unfolding basic_points
five_han_70_fu = (refl, refl)

-- fewer han never reach it by fu: the basic points stop at 2,000, the level stays Normal
pub two_han_120_fu : Worth 2 120 Normal 1920
unfolding basic_points
two_han_120_fu = (refl, refl)

pub two_han_130_fu : Worth 2 130 Normal 2000
unfolding basic_points
two_han_130_fu = (refl, refl)

pub two_han_170_fu : Worth 2 170 Normal 2000
unfolding basic_points
two_han_170_fu = (refl, refl)

pub one_han_170_fu : Worth 1 170 Normal 1360
unfolding basic_points
one_han_170_fu = (refl, refl)

pub one_han_250_fu : Worth 1 250 Normal 2000
unfolding basic_points
one_han_250_fu = (refl, refl)

-- ---- haneman from 6 han, baiman from 8, sanbaiman from 11, a counted yakuman from 13
pub six_han : Worth 6 30 Haneman 3000
unfolding basic_points
six_han = (refl, refl)

pub seven_han : Worth 7 30 Haneman 3000
unfolding basic_points
seven_han = (refl, refl)

pub eight_han : Worth 8 30 Baiman 4000
unfolding basic_points
eight_han = (refl, refl)

pub ten_han : Worth 10 30 Baiman 4000
unfolding basic_points
ten_han = (refl, refl)

pub eleven_han : Worth 11 30 Sanbaiman 6000
unfolding basic_points
eleven_han = (refl, refl)

pub twelve_han : Worth 12 30 Sanbaiman 6000
unfolding basic_points
twelve_han = (refl, refl)

pub thirteen_han : Worth 13 30 (Yakuman 1) 8000
unfolding basic_points
thirteen_han = (refl, refl)

-- counted han are never more than one yakuman
pub twenty_six_han : Worth 26 30 (Yakuman 1) 8000
unfolding basic_points
twenty_six_han = (refl, refl)

pub forty_han : Worth 40 30 (Yakuman 1) 8000
unfolding basic_points
forty_han = (refl, refl)

-- ---- with a yakuman one for each full 13 han
pub single_yakuman : Makes 13 1
unfolding basic_points
single_yakuman = (refl, refl)

pub short_of_double : Makes 25 1
unfolding basic_points
short_of_double = (refl, refl)

pub double_yakuman : Makes 26 2
unfolding basic_points
double_yakuman = (refl, refl)

pub short_of_triple : Makes 38 2
unfolding basic_points
short_of_triple = (refl, refl)

pub triple_yakuman : Makes 39 3
unfolding basic_points
triple_yakuman = (refl, refl)

-- a yakuman of fewer han is one all the same
pub yakuman_of_no_han : Makes 0 1
unfolding basic_points
yakuman_of_no_han = (refl, refl)
