-- `special::is_chiitoitsu` meets its contract. Assumes nothing.
use Rattle.std.proofs.Common.{sym, ◌∙◌}
use Rattle.hand.specs.Counts.{held}
use Rattle.special.proofs.Special.{pairs_none, pairs_seven}
use Rattle.special.proofs.is_chiitoitsu.Goals as goal

pub returns-then-kinds-ne7 : goal.returns-then-kinds-ne7
returns-then-kinds-ne7 c = sym (pairs_none (held c.args.counts.now) c.args.kinds c.requires c.if-kinds-ne7.true)

pub returns : goal.returns
returns c = c.none_or_two.ensures ∙ sym (pairs_seven (held c.args.counts.now) c.args.kinds c.requires c.if-kinds-ne7.false)
