-- `PairSearch::without_pair` meets its contract. Assumes nothing.
use native.Mathlib.Omega.{arith}
use Rattle.decompose.proofs.Words.{high_small, low_there, low_less, high_there, high_less}
use Rattle.decompose.proofs.pair_search.PairSearch.without_pair.Goals as goal

pub overflow_sub-result : goal.overflow_sub-result
overflow_sub-result c =
    low_there c.args.self.hand c.args.self.fit c.args.p c.if-p-lt18.true c.requires.1

pub overflow_mul-result-then-p-lt18 : goal.overflow_mul-result-then-p-lt18
overflow_mul-result-then-p-lt18 c =
    omega (arith, high_small c.args.self.hand c.args.self.fit)

pub returns-then-p-lt18 : goal.returns-then-p-lt18
returns-then-p-lt18 c =
    (low_less c.args.self.hand c.args.self.fit c.args.p c.if-p-lt18.true c.requires.1).0

pub overflow_sub-result-3 : goal.overflow_sub-result-3
overflow_sub-result-3 c =
    high_there c.args.self.hand c.args.self.fit c.args.p c.if-p-lt18.false c.requires.0 c.requires.1

pub overflow_mul-result-3 : goal.overflow_mul-result-3
overflow_mul-result-3 c =
    omega (arith, high_small c.args.self.hand c.args.self.fit)

pub returns : goal.returns
returns c =
    (high_less c.args.self.hand c.args.self.fit c.args.p c.if-p-lt18.false c.requires.0 c.requires.1).0

pub invariant_of-result : goal.invariant_of-result
invariant_of-result c = record { fair = (low_less c.args.self.hand c.args.self.fit c.args.p c.if-p-lt18.true c.requires.1).1 }

pub invariant_of-result-2 : goal.invariant_of-result-2
invariant_of-result-2 c =
    record { fair = (high_less c.args.self.hand c.args.self.fit c.args.p c.if-p-lt18.false c.requires.0 c.requires.1).1 }
