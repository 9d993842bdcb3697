-- `unit::melds_needed` meets its contract: a hand that passed the checks has at most four calls. Assumes nothing.
use Rattle.std.proofs.Common.{arith}
use Rattle.checks.proofs.Passed.{passed}
use Rattle.unit.proofs.melds_needed.Goals as goal

pub overflow_cast-result : goal.overflow_cast-result
overflow_cast-result c = let h = c.args.hand in omega (arith, (passed h.counts.now h.calls h.passed).few)

pub overflow_sub-result : goal.overflow_sub-result
overflow_sub-result c = let h = c.args.hand in omega (arith, (passed h.counts.now h.calls h.passed).few)
