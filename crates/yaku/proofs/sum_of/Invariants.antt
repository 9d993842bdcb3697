-- `sum_of` meets its contract. The invariant: the sum so far and what is left are the whole sum. Assumes nothing.
use mathlib.Core.Path.{◌≡◌, ap₂, ◌∙◌}
use Prim.Native.Nat.{◌+◌, ◌-◌, ◌*◌, ◌≤◌}
use native.Mathlib.Nat.{mul-le-mul}
use native.Mathlib.Omega.{arith}
use lib.ListN.{length}
use Rattle.yaku.proofs.Loops.{dot_from, dot_all, dot_turn, dot_end}
use borrow.Author.Rules.{rules}
use Rattle.yaku.proofs.sum_of.Given as goal

abbrev pub invariant-loop-i : goal.invariant-loop-i
invariant-loop-i l = (l.i ≤ 47) × ((l.han ≤ l.i * 65025) × (l.han + dot_from l.values l.tallies l.i ≡ dot_from l.values l.tallies 0))

abbrev pub decreases-loop-i : goal.decreases-loop-i
decreases-loop-i l = 47 - l.i
