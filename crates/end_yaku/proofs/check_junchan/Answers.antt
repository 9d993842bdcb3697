-- `check_junchan` meets its contract. Assumes nothing.
use Rattle.std.proofs.Common.{rules, tests}
use Rattle.tile.specs.Tile.{is_terminal}
use Rattle.end_yaku.specs.Ends.{junchan}
use Rattle.end_yaku.proofs.check_junchan.Goals as goal

pub returns : goal.returns
unfolding junchan
returns c = simp (
  c.in-Standard.is,
  c.has_ends.ensures.ends is_terminal (λ t b k. search (rules, tests)),
)
