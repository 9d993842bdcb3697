-- The ron factor: a yes counts as 1 and a no as 0, and the law of the factor says the rest. Assumes nothing.
use native.Mathlib.Omega.{arith}
use Rattle.lists.proofs.Chains.{one_is}
use Rattle.scoring.proofs.Laws.{ron_factor}
use Rattle.scoring.proofs.ron_factor.Goals as goal

pub returns : goal.returns
returns c = omega (arith, one_is c.args.is_dealer, ron_factor c.args.is_dealer)
