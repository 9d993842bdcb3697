-- `indicator_to_dora` meets its contract: the table has each tile's dora at its place. Assumes nothing.
use Rattle.std.proofs.Common.{sym, arith, ◌∙◌}
use Rattle.dora.specs.Dora.{dora_of}
use Rattle.dora.proofs.Turns.{at_table, dora_above}
use Rattle.dora.proofs.indicator_to_dora.Goals as goal

pub returns-in-Some : goal.returns-in-Some
unfolding dora_of
returns-in-Some c =
    let found = c.in-Some.ensures.lookup in
    found.4 (omega arith) 0 ∙ at_table c.args.indicator.0 found.3.0

pub returns-in-None : goal.returns-in-None
returns-in-None c = sym (dora_above c.args.indicator.0 c.in-None.ensures.lookup.3)
