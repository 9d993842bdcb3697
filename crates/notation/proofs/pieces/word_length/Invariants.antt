-- `word_length` meets its contract: what is left of the text only falls. Assumes nothing.
use Rattle.std.proofs.Common.{◌≤◌, length}
use Rattle.notation.proofs.pieces.word_length.Given as goal

abbrev pub invariant-loop-rest : goal.invariant-loop-rest
invariant-loop-rest l = length l.rest ≤ length l.text

abbrev pub decreases-loop-rest : goal.decreases-loop-rest
decreases-loop-rest l = length l.rest
