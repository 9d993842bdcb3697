-- `count_dragons` meets its contract. Assumes nothing.
use Rattle.std.proofs.Common.{rules, tests}
use Rattle.tile.specs.Tile.{is_dragon}
use Rattle.meld_yaku.specs.Melds.{set_of}
use Rattle.honor_yaku.specs.Honors.{dragons}
use Rattle.honor_yaku.proofs.count_dragons.Goals as goal

pub returns : goal.returns
unfolding dragons
returns c = c.count_melds.ensures.tally (set_of is_dragon) (λ m b k. search (rules, tests))
