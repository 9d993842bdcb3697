-- `count_winds` meets its contract. Assumes nothing.
use Rattle.std.proofs.Common.{rules, tests}
use Rattle.tile.specs.Tile.{is_wind}
use Rattle.meld_yaku.specs.Melds.{set_of}
use Rattle.honor_yaku.specs.Honors.{winds}
use Rattle.honor_yaku.proofs.count_winds.Goals as goal

pub returns : goal.returns
unfolding winds
returns c = c.count_melds.ensures.tally (set_of is_wind) (λ m b k. search (rules, tests))
