-- `special::kinds_present` meets its contract. The loop's invariant: the word has the kinds from t on. Assumes nothing.
use Rattle.std.proofs.Common.{◌≡◌}
use Rattle.hand.specs.Counts.{held}
use Rattle.special.proofs.Words.{word_from}
use Rattle.special.proofs.kinds_present.Given as goal

abbrev pub invariant-loop-t : goal.invariant-loop-t
invariant-loop-t l = l.word ≡ word_from (held l.counts) l.t
