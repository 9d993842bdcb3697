-- `decompose::pack_range` meets its contract. The loop's invariant: the counts from `i` on are packed. Assumes nothing.
use mathlib.Core.Path.{◌≡◌}
use Prim.Native.Nat.{◌-◌, ◌≤◌}
use Rattle.hand.specs.Counts.{held}
use Rattle.decompose.specs.Packed.{pack_from}
use Rattle.decompose.proofs.pack_range.Given as goal

abbrev pub invariant-loop-i : goal.invariant-loop-i
invariant-loop-i l = (l.from ≤ l.i) × ((l.i ≤ l.to) × (l.word ≡ pack_from (held l.counts) (l.to - l.i) l.i))

abbrev pub decreases-loop-i : goal.decreases-loop-i
decreases-loop-i l = l.i
