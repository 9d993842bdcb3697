-- The choice among scores, by examples. Assumes nothing.
use mathlib.Core.Path.{◌≡◌, refl}
use mathlib.Core.Bool.{false}
use mathlib.Core.List.{List, [], ◌∷◌}
use Prim.Native.Nat.{ℕ}
use Rattle.tile.specs.Named.{man}
use Rattle.context.specs.Named.{ron}
use Rattle.scoring.specs.Level.{basic_points}
use Rattle.scoring.specs.Payment.{payment}
use Rattle.dora.specs.Dora.{no_dora}
use Rattle.reading_score.specs.declared.ScoringResult.{ScoringResult}
use Rattle.reading_score.specs.Score.{result, rank}
use Rattle.choice.specs.Choice.{refused, scored, choose_by, choice, numbered}

-- a score by ron of so many han and fu, with the first yaku, with the second, and without any
abbrev first_yaku : ℕ → ℕ → ScoringResult
first_yaku han fu = result (ron (man 1)) (1 ∷ 0 ∷ []) han fu false no_dora

abbrev second_yaku : ℕ → ℕ → ScoringResult
second_yaku han fu = result (ron (man 1)) (0 ∷ 1 ∷ []) han fu false no_dora

abbrev no_yaku_holds : ℕ → ℕ → ScoringResult
no_yaku_holds han fu = result (ron (man 1)) (0 ∷ 0 ∷ []) han fu false no_dora

-- ---- 10 where there is no reading, 11 where none has a yaku
pub none_to_choose : (players : ℕ) → choice players [] ≡ refused 10
unfolding choice
none_to_choose players = refl

pub none_with_yaku : (players : ℕ) → choice players (no_yaku_holds 0 30 ∷ no_yaku_holds 0 40 ∷ []) ≡ refused 11
unfolding result payment basic_points rank choose_by choice
none_with_yaku players = refl

-- what has a yaku is chosen, even where what has none would pay more
pub one_with_yaku : (players : ℕ) → choice players (no_yaku_holds 5 40 ∷ first_yaku 1 30 ∷ []) ≡ scored 1 (first_yaku 1 30)
unfolding result payment basic_points rank choose_by choice
one_with_yaku players = refl

-- ---- the greatest, wherever it stands
pub greatest_first : (players : ℕ) → choice players (first_yaku 3 50 ∷ second_yaku 2 40 ∷ first_yaku 2 30 ∷ []) ≡ scored 0 (first_yaku 3 50)
unfolding result payment basic_points rank choose_by choice
greatest_first players = refl

pub greatest_last : (players : ℕ) → choice players (first_yaku 2 30 ∷ second_yaku 2 40 ∷ first_yaku 3 50 ∷ []) ≡ scored 2 (first_yaku 3 50)
unfolding result payment basic_points rank choose_by choice
greatest_last players = refl

-- ---- the first of equals
pub first_of_equals : (players : ℕ) → choice players (first_yaku 3 40 ∷ second_yaku 3 40 ∷ []) ≡ scored 0 (first_yaku 3 40)
unfolding result payment basic_points rank choose_by choice
first_of_equals players = refl

pub first_of_equals_behind : (players : ℕ) → choice players (first_yaku 1 30 ∷ second_yaku 3 40 ∷ first_yaku 3 40 ∷ []) ≡ scored 1 (second_yaku 3 40)
unfolding result payment basic_points rank choose_by choice
first_of_equals_behind players = refl

-- ---- the score of a number, counted from 0, with or without a yaku; 12 where there are not more
pub number_0 : numbered (no_yaku_holds 0 30 ∷ first_yaku 3 40 ∷ []) 0 ≡ scored 0 (no_yaku_holds 0 30)
unfolding numbered
number_0 = refl

pub number_1 : numbered (no_yaku_holds 0 30 ∷ first_yaku 3 40 ∷ []) 1 ≡ scored 1 (first_yaku 3 40)
unfolding numbered
number_1 = refl

pub number_2 : numbered (no_yaku_holds 0 30 ∷ first_yaku 3 40 ∷ []) 2 ≡ refused 12
unfolding numbered
number_2 = refl
