-- `check_chanta` meets its contract. Assumes nothing.
use Rattle.std.proofs.Common.{rules, tests}
use Rattle.tile.specs.Tile.{is_terminal, is_terminal_or_honor}
use Rattle.end_yaku.specs.Ends.{chanta, junchan}
use Rattle.end_yaku.proofs.check_chanta.Goals as goal

pub returns : goal.returns
unfolding chanta junchan
returns c = simp (
  c.in-Standard.is,
  c.has_ends.ensures.ends is_terminal_or_honor (λ t b k. search (rules, tests)),
  c.has_ends-2.ensures.ends is_terminal (λ t b k. search (rules, tests)),
)
