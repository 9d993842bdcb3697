-- The choice among scored readings, and the score of the reading with a number. These are definitions.
use Rattle.std.specs.Prelude.{false, cond, List, [], ◌∷◌, map, ℕ, suc, max, eqb, replicate}
use Rattle.scoring.specs.declared.ScoreLevel.TheVariants.{Normal}
use Rattle.scoring.specs.declared.Payment.TheVariants.{Ron}
use Rattle.dora.specs.Dora.{no_dora}
use Rattle.records.specs.Pick.{pick_at}
use Rattle.reading_score.specs.declared.ScoringResult.{ScoringResult}
use Rattle.reading_score.specs.Score.{rank}
use Rattle.choice.specs.declared.ScoreAnswer.{ScoreAnswer}

-- ---- what is answered: a refusal's number alone, or 0 with the number of a reading, counted from 0, and its score
-- what fills the place of the score beside a refusal: zeros, Normal, a ron of 0, no dora
abbrev pub no_score : ScoringResult
no_score =
    record {
      tallies = replicate 47 0;
      han = 0;
      fu = 0;
      is_yakuman = false;
      score_level = Normal;
      basic_points = 0;
      payment = Ron 0;
      dora = no_dora;
    }

abbrev pub refused : ℕ → ScoreAnswer
refused n = record { number = n; reading = 0; score = no_score }

abbrev pub scored : ℕ → ScoringResult → ScoreAnswer
scored i x = record { number = 0; reading = i; score = x }

-- where there is no reading, and where no reading has a yaku
abbrev pub no_reading : ScoreAnswer
no_reading = refused 10

abbrev pub no_yaku : ScoreAnswer
no_yaku = refused 11

-- ---- the choice: the first of the scores with the greatest rank
-- the greatest of a list of numbers, 0 of none
abbrev pub greatest : List ℕ → ℕ
greatest [] = 0
greatest (n ∷ ns) = max n (greatest ns)

-- none is chosen, or the score with its number
pub data Choice : Type 0 where
  none : Choice
  chosen : ℕ → ScoringResult → Choice

-- the first of the scores that f gives the rank b, with its number, counted from i
abbrev pub first : (ScoringResult → ℕ) → ℕ → ℕ → List ScoringResult → Choice
first f b i [] = none
first f b i (x ∷ xs) = cond (eqb (f x) b) (chosen i x) (first f b (suc i) xs)

-- the first of the scores to which f gives the greatest rank; one of rank 0 is never chosen
unfoldable pub choose_by : (ScoringResult → ℕ) → List ScoringResult → Choice
choose_by f xs = cond (eqb (greatest (map f xs)) 0) none (first f (greatest (map f xs)) 0 xs)

abbrev pub answer_of : Choice → ScoreAnswer
answer_of none = no_yaku
answer_of (chosen i x) = scored i x

-- the choice at a table of so many players
unfoldable pub choice : ℕ → List ScoringResult → ScoreAnswer
choice players [] = no_reading
choice players (x ∷ xs) = answer_of (choose_by (rank players) (x ∷ xs))

-- ---- the score at the number n, counted from 0; 12 where there are not more than n
unfoldable pub numbered : List ScoringResult → ℕ → ScoreAnswer
numbered xs n = pick_at (refused 12) (scored n) xs n
