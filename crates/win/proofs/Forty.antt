-- Hand and calls together, of a win that has passed the checks: of either sort there are forty dora at most. Assumes nothing.
use mathlib.Core.List.{List}
use Prim.Native.Nat.{ℕ}
use Rattle.rules.specs.Rules.{Game}
use Rattle.context.specs.declared.GameContext.{GameContext}
use Rattle.dora.specs.Dora.{AtMostForty}
use Rattle.dora.proofs.Counting.{dora_le}
use Rattle.checks.specs.declared.Calls.{Calls}
use Rattle.checks.specs.Checks.{called, together}
use Rattle.checks.proofs.Passed.{passed}
use Rattle.win.specs.Win.{dora_together}
use Rattle.win.proofs.Passed.{Checked}

pub dora_forty : {g : Game} (cs : List ℕ) (k : Calls) (w : GameContext) → Checked g cs k w → AtMostForty (dora_together cs k w)
dora_forty cs k w p = dora_le (together cs (called k)) (passed cs k p.hand).whole w p.indicators
