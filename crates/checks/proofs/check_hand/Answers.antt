-- `check_hand` meets its contract: the first check is that of the length, and what passes in this game passes with four players.
-- Assumes nothing.
use Rattle.std.proofs.Common.{sym}
use borrow.Author.Tests.{ne_eqb}
use Rattle.rules.specs.Rules.{game}
use Rattle.checks.specs.Checks.{hand_check_in}
use Rattle.checks.proofs.Passing.{refuse}
use Rattle.checks.proofs.Passed.{passes_four}
use Rattle.checks.proofs.check_hand.Goals as goal

pub returns-in_default-clause-answer : goal.returns-in_default-clause-answer
unfolding hand_check_in
returns-in_default-clause-answer c = sym (refuse _ _ _ (ne_eqb _ _ c.in_default.ensures.1))

pub invariant_of-result : goal.invariant_of-result
invariant_of-result c =
    record { passed = passes_four (game c.args.v) c.in-Ok.counts.now c.args.k (sym c.in_ok-check_counts.ensures) }
