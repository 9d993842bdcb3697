-- `choose` meets its contract. The loop's invariant: the pass over what is left, from the best so far, answers what the whole pass answers.
-- Assumes nothing.
use mathlib.Core.Path.{◌≡◌, sym, ap, ◌∙◌}
use mathlib.Core.Logic.{⊎_elim}
use Prim.Native.Nat.{◌-◌, ◌*◌, ◌≤◌}
use native.Mathlib.Omega.{arith}
use borrow.Author.Rules.{rules}
use Rattle.rules.specs.Rules.{game}
use Rattle.reading_score.specs.Score.{score_of}
use Rattle.choice.specs.Choice.{no_yaku}
use Rattle.choice.proofs.Pass.{Rest, turn_take, turn_skip, rest_end, rest_all, choice_none, choice_some}
use Rattle.choice.proofs.choose.Given as goal

abbrev pub invariant-loop-i : goal.invariant-loop-i
invariant-loop-i l = (l.i ≤ l.n) × ((l.at ≤ l.i * 255) × (Rest (game l.v).players (score_of l.w l.opened l.s l.d) l.b l.n l.best l.found l.i l.at ≡ Rest (game l.v).players (score_of l.w l.opened l.s l.d) l.b l.n 0 no_yaku 0 0))

abbrev pub decreases-loop-i : goal.decreases-loop-i
decreases-loop-i l = l.n - l.i
