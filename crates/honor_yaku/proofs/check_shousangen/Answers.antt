-- `check_shousangen` meets its contract. Assumes nothing.
use Rattle.honor_yaku.specs.Honors.{shousangen}
use Rattle.honor_yaku.proofs.check_shousangen.Goals as goal

pub returns : goal.returns
unfolding shousangen
returns c = simp (
  c.in-Standard.is,
  c.is_dragon.ensures,
  c.count_dragons.ensures,
)
