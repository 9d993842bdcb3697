-- `one_han` meets its contract: the seventeen tallies of one han, each by what its check ensures.
-- Assumes nothing.
use Rattle.yaku.specs.Tally.{one_han}
use borrow.Author.Rules.{rules}
use Rattle.lists.proofs.Chains.{one_is}
use Rattle.yaku.proofs.one_han.Goals as goal

pub returns : goal.returns
unfolding one_han
returns c =
    simp (
      one_is,
      c.is_tsumo-tsumo.ensures,
      c.from.ensures,
      c.from-2.ensures,
      c.from-3.ensures,
      c.unless_orphans.ensures,
      c.from-4.ensures,
      c.is_pinfu.ensures,
      c.from-5.ensures,
      c.check_iipeikou.ensures,
      c.from-6.ensures,
      c.check_all_yakuhai-honors.ensures,
      c.from-7.ensures,
      c.from-8.ensures,
      c.from-9.ensures,
      c.from-10.ensures,
    )
