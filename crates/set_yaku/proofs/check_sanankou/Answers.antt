-- `check_sanankou` meets its contract. Assumes nothing.
use Rattle.set_yaku.specs.Sets.{san_ankou}
use Rattle.set_yaku.proofs.check_sanankou.Goals as goal

pub returns : goal.returns
unfolding san_ankou
returns c = simp (
  c.in-Standard.is,
  c.count_concealed.ensures,
  c.winning_tile_in_closed_sequence.ensures,
)
