-- The numbers of the levels, and levels and payments of worked scores, as they are answered. Assumes nothing.
use mathlib.Core.Path.{◌≡◌, refl}
use mathlib.Core.Bool.{true, false}
use mathlib.Core.List.{[]}
use Prim.Native.Nat.{ℕ}
use Rattle.scoring.specs.declared.ScoreLevel.TheVariants.{Normal, Mangan, Haneman, Baiman, Sanbaiman, Yakuman}
use Rattle.scoring.specs.declared.Payment.TheVariants.{Tsumo}
use Rattle.scoring.specs.Level.{level}
use Rattle.scoring.specs.Payment.{payment, payment_answer}
use Rattle.reading_score.specs.declared.ScoringResult.{ScoringResult}
use Rattle.choice.specs.Choice.{refused, scored}
use Rattle.answers.specs.declared.LevelAnswer.{LevelAnswer}
use Rattle.answers.specs.declared.PaymentValues.{PaymentValues}
use Rattle.answers.specs.Answers.{level_answer, payment_values, score_values}

abbrev leveled : ℕ → ℕ → LevelAnswer
leveled l n = record { level = l; count = n }

abbrev pays : ℕ → ℕ → ℕ → ℕ → ℕ → PaymentValues
pays settlement other dealer discarder total = record { number = 0; settlement = settlement; from_non_dealer = other; from_dealer = dealer; from_discarder = discarder; total = total }

-- ---- the six levels by their names; only a yakuman has a count
pub normal_is_0 : level_answer Normal ≡ leveled 0 0
normal_is_0 = refl

pub mangan_is_1 : level_answer Mangan ≡ leveled 1 0
mangan_is_1 = refl

pub haneman_is_2 : level_answer Haneman ≡ leveled 2 0
haneman_is_2 = refl

pub baiman_is_3 : level_answer Baiman ≡ leveled 3 0
baiman_is_3 = refl

pub sanbaiman_is_4 : level_answer Sanbaiman ≡ leveled 4 0
sanbaiman_is_4 = refl

pub yakuman_is_5 : (n : ℕ) → level_answer (Yakuman n) ≡ leveled 5 n
yakuman_is_5 n = refl

-- ---- the level of han and fu, at the limits
-- 4 han 30 fu is no mangan
pub level_4_han_30_fu : level_answer (level 4 30 false) ≡ leveled 0 0
unfolding level
level_4_han_30_fu = refl

-- 4 han 40 fu is
pub level_4_han_40_fu : level_answer (level 4 40 false) ≡ leveled 1 0
unfolding level
level_4_han_40_fu = refl

-- 3 han 60 fu is no mangan
pub level_3_han_60_fu : level_answer (level 3 60 false) ≡ leveled 0 0
unfolding level
level_3_han_60_fu = refl

-- 3 han 70 fu is
pub level_3_han_70_fu : level_answer (level 3 70 false) ≡ leveled 1 0
unfolding level
level_3_han_70_fu = refl

-- 5 han are a mangan at any fu
pub level_5_han_30_fu : level_answer (level 5 30 false) ≡ leveled 1 0
unfolding level
level_5_han_30_fu = refl

-- 6 han a haneman
pub level_6_han_30_fu : level_answer (level 6 30 false) ≡ leveled 2 0
unfolding level
level_6_han_30_fu = refl

-- and 7
pub level_7_han_30_fu : level_answer (level 7 30 false) ≡ leveled 2 0
unfolding level
level_7_han_30_fu = refl

-- 8 han a baiman
pub level_8_han_30_fu : level_answer (level 8 30 false) ≡ leveled 3 0
unfolding level
level_8_han_30_fu = refl

-- and 10
pub level_10_han_30_fu : level_answer (level 10 30 false) ≡ leveled 3 0
unfolding level
level_10_han_30_fu = refl

-- 11 han a sanbaiman
pub level_11_han_30_fu : level_answer (level 11 30 false) ≡ leveled 4 0
unfolding level
level_11_han_30_fu = refl

-- and 12
pub level_12_han_30_fu : level_answer (level 12 30 false) ≡ leveled 4 0
unfolding level
level_12_han_30_fu = refl

-- 13 han without a yakuman are one yakuman
pub level_13_han_30_fu : level_answer (level 13 30 false) ≡ leveled 5 1
unfolding level
level_13_han_30_fu = refl

-- and so are 26
pub level_26_han_30_fu : level_answer (level 26 30 false) ≡ leveled 5 1
unfolding level
level_26_han_30_fu = refl

-- a yakuman counts once
pub level_13_han_30_fu_yakuman : level_answer (level 13 30 true) ≡ leveled 5 1
unfolding level
level_13_han_30_fu_yakuman = refl

-- a double one twice
pub level_26_han_30_fu_yakuman : level_answer (level 26 30 true) ≡ leveled 5 2
unfolding level
level_26_han_30_fu_yakuman = refl

-- three yakuman three times
pub level_39_han_30_fu_yakuman : level_answer (level 39 30 true) ≡ leveled 5 3
unfolding level
level_39_han_30_fu_yakuman = refl

-- ---- who pays what: the settlement, each other player, the dealer, the discarder, and the total
-- 4 han 30 fu by ron
pub pays_ron : payment_values (payment_answer 1920 false 0) ≡ pays 1 0 0 7700 7700
unfolding payment_answer payment
pays_ron = refl

-- by ron of the dealer
pub pays_dealer_ron : payment_values (payment_answer 1920 true 0) ≡ pays 1 0 0 11600 11600
unfolding payment_answer payment
pays_dealer_ron = refl

-- by tsumo: 3,840 from the dealer and 1,920 from others, each rounded up
pub pays_tsumo : payment_values (payment_answer 1920 false 1) ≡ pays 3 2000 3900 0 7900
unfolding payment_answer payment
pays_tsumo = refl

-- by tsumo of the dealer: each pays as much
pub pays_dealer_tsumo : payment_values (payment_answer 1920 true 1) ≡ pays 2 3900 0 0 11700
unfolding payment_answer payment
pays_dealer_tsumo = refl

-- a mangan by ron
pub pays_mangan_ron : payment_values (payment_answer 2000 false 0) ≡ pays 1 0 0 8000 8000
unfolding payment_answer payment
pays_mangan_ron = refl

-- a mangan by tsumo
pub pays_mangan_tsumo : payment_values (payment_answer 2000 false 1) ≡ pays 3 2000 4000 0 8000
unfolding payment_answer payment
pays_mangan_tsumo = refl

-- a mangan by tsumo of the dealer
pub pays_mangan_dealer_tsumo : payment_values (payment_answer 2000 true 1) ≡ pays 2 4000 0 0 12000
unfolding payment_answer payment
pays_mangan_dealer_tsumo = refl

-- ---- the same in a score: 4 han 30 fu by tsumo, 3,900 from the dealer and 2,000 from each of two others; two of the han are dora, one ura
abbrev four_han : ScoringResult
four_han =
    record {
      tallies = [];
      han = 4;
      fu = 30;
      is_yakuman = false;
      score_level = Normal;
      basic_points = 1920;
      payment = Tsumo 3900 2000;
      dora = record { regular = 2; ura = 1 };
    }

-- its settlement is the tsumo of another than the dealer; there is none beside a refusal, whatever fills the place of its payment
pub score_settlement : (score_values (scored 0 four_han)).settlement ≡ 3
score_settlement = refl

pub refused_settlement : (score_values (refused 11)).settlement ≡ 0
refused_settlement = refl

pub score_total : (score_values (scored 0 four_han)).total ≡ 7900
score_total = refl

pub score_from_dealer : (score_values (scored 0 four_han)).from_dealer ≡ 3900
score_from_dealer = refl

pub score_from_others : (score_values (scored 0 four_han)).from_non_dealer ≡ 2000
score_from_others = refl

pub score_dora : (score_values (scored 0 four_han)).regular_dora ≡ 2
score_dora = refl

pub score_ura : (score_values (scored 0 four_han)).ura_dora ≡ 1
score_ura = refl

-- ---- refused: a win type that is neither ron nor tsumo with 8, basic points above 152,000 with 13
pub pays_no_such_type : (payment_values (payment_answer 2000 false 2)).number ≡ 8
unfolding payment_answer
pays_no_such_type = refl

pub pays_too_many_points : (payment_values (payment_answer 152001 false 0)).number ≡ 13
unfolding payment_answer
pays_too_many_points = refl
