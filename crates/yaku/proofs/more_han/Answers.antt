-- `more_han` meets its contract: the fifteen tallies of more han, each by what its check ensures.
-- Assumes nothing.
use Rattle.yaku.specs.Tally.{more_han}
use borrow.Author.Rules.{rules}
use Rattle.lists.proofs.Chains.{one_is}
use Rattle.yaku.proofs.more_han.Goals as goal

pub returns : goal.returns
unfolding more_han
returns c =
    simp (
      one_is,
      c.check_sets-sets.ensures,
      c.from.ensures,
      c.from-2.ensures,
      c.check_sanshoku.ensures,
      c.from-3.ensures,
      c.from-4.ensures,
      c.check_ittsu.ensures,
      c.from-5.ensures,
      c.is_chiitoitsu.ensures,
      c.from-6.ensures,
      c.check_chanta.ensures,
      c.from-7.ensures,
      c.from-8.ensures,
      c.from-9.ensures,
      c.unless_orphans.ensures,
      c.from-10.ensures,
      c.check_shousangen.ensures,
      c.from-11.ensures,
      c.unless_orphans-2.ensures,
      c.from-12.ensures,
      c.check_junchan.ensures,
      c.from-13.ensures,
      c.check_ryanpeikou.ensures,
      c.from-14.ensures,
      c.unless_orphans-3.ensures,
      c.from-15.ensures,
    )
