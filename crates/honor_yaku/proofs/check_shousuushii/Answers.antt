-- `check_shousuushii` meets its contract. Assumes nothing.
use Rattle.honor_yaku.specs.Honors.{shousuushii}
use Rattle.honor_yaku.proofs.check_shousuushii.Goals as goal

pub returns : goal.returns
unfolding shousuushii
returns c = simp (
  c.in-Standard.is,
  c.count_winds.ensures,
  c.is_wind.ensures,
  c.has_set.ensures,
)
