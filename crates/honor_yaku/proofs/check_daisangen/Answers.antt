-- `check_daisangen` meets its contract. Assumes nothing.
use Rattle.honor_yaku.specs.Honors.{daisangen}
use Rattle.honor_yaku.proofs.check_daisangen.Goals as goal

pub returns : goal.returns
unfolding daisangen
returns c = simp (c.in-Standard.is, c.count_dragons.ensures)
