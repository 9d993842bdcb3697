-- `joined` meets its contract: no more bytes are kept than there is room for. Assumes nothing.
use Rattle.std.proofs.Common.{◌≡◌, ◌≤◌, length}
use Rattle.notation.proofs.pieces.Part.joined.Given as goal

abbrev pub invariant-loop-c : goal.invariant-loop-c
invariant-loop-c l = (l.n ≤ 512) × (length l.buffer ≡ 512)
