-- `agree` meets its contract: with four players every renaming keeps the wall. Assumes nothing.
use Rattle.agreement.proofs.Demand3.{four_stays}
use Rattle.twins.proofs.agree.Goals as goal

pub returns : goal.returns
returns c = record { answer = c.agree_in.ensures.answer; agreement = c.agree_in.ensures.agreement (four_stays c.args.by) }
