-- What the three operations on a win answer. This is a definition.
use Rattle.std.specs.Prelude.{List, ℕ}
use Rattle.context.specs.declared.GameContext.{GameContext}
use Rattle.checks.specs.declared.Calls.{Calls}
use Rattle.win.specs.Win.{score_win, score_reading, name_waits}
use Rattle.answers.specs.Answers.{score_values, waits_values}
use Rattle.lending.specs.declared.Asked.{Asked}

-- the score of the win, and score and waits of reading number n
abbrev pub asked : List ℕ → Calls → GameContext → ℕ → Asked
asked cs k w n =
    record {
      win = score_values (score_win cs k w);
      reading = score_values (score_reading cs k w n);
      waits = waits_values (name_waits cs k w n);
    }
