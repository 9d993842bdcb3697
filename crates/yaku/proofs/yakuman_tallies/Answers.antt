-- `yakuman_tallies` meets its contract: the fifteen tallies of yakuman, 0 where none may be, else each by what its check ensures.
-- Assumes nothing.
use Rattle.set_yaku.specs.Sets.{kans, suu_kantsu}
use Rattle.structure.specs.Structure.{reading_of}
use Rattle.yaku.proofs.NoYakuman.{all_zero}
use borrow.Author.Rules.{rules}
use Rattle.lists.proofs.Chains.{one_is}
use borrow.Author.Tests.{not-true}
use Rattle.yaku.proofs.yakuman_tallies.Goals as goal

pub returns-then-not-may_be_yakuman : goal.returns-then-not-may_be_yakuman
returns-then-not-may_be_yakuman c =
    let a = c.args in
    all_zero a.w a.opened a.s (reading_of a.h) (c.may_be_yakuman.ensures (c.if-not-may_be_yakuman.true))

pub returns : goal.returns
unfolding suu_kantsu kans
returns c =
    simp (
      one_is,
      c.is_tsumo-tsumo.ensures,
      c.is_dealer-dealer.ensures,
      c.from.ensures,
      c.from-2.ensures,
      c.orphans_won.ensures,
      c.from-3.ensures,
      c.check_suuankou.ensures,
      c.from-4.ensures,
      c.check_daisangen.ensures,
      c.from-5.ensures,
      c.check_shousuushii.ensures,
      c.from-6.ensures,
      c.check_daisuushii.ensures,
      c.from-7.ensures,
      c.unless_orphans.ensures,
      c.from-8.ensures,
      c.unless_orphans-2.ensures,
      c.from-9.ensures,
      c.if_standard.ensures,
      c.from-10.ensures,
      c.if_standard-2.ensures,
      c.from-11.ensures,
      c.check_kantsu.ensures,
      c.from-12.ensures,
      c.orphans_won-2.ensures,
      c.from-13.ensures,
      c.check_suuankou-2.ensures,
      c.from-14.ensures,
      c.if_standard-3.ensures,
      c.from-15.ensures,
    )
