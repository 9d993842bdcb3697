-- `check_daisuushii` meets its contract. Assumes nothing.
use Rattle.honor_yaku.specs.Honors.{daisuushii}
use Rattle.honor_yaku.proofs.check_daisuushii.Goals as goal

pub returns : goal.returns
unfolding daisuushii
returns c = simp (c.in-Standard.is, c.count_winds.ensures)
