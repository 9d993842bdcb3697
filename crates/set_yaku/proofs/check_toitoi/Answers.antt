-- `check_toitoi` meets its contract. Assumes nothing.
use Rattle.std.proofs.Common.{rules, tests}
use Rattle.meld.specs.Meld.{is_triplet_or_kan}
use Rattle.set_yaku.specs.Sets.{toitoi}
use Rattle.set_yaku.proofs.check_toitoi.Goals as goal

pub returns : goal.returns
unfolding toitoi
returns c =
    simp (c.in-Standard.is, c.all_melds.ensures is_triplet_or_kan (λ m b k. search (rules, tests)))
