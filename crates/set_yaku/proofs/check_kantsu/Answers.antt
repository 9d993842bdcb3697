-- `check_kantsu` meets its contract. Assumes nothing.
use Rattle.std.proofs.Common.{rules, tests}
use Rattle.meld.specs.Meld.{is_kan}
use Rattle.set_yaku.specs.Sets.{kans}
use Rattle.set_yaku.proofs.check_kantsu.Goals as goal

pub returns : goal.returns
unfolding kans
returns c = simp (c.in-Standard.is, c.count_melds.ensures.tally is_kan (λ m b k. search (rules, tests)))
