-- `all_tallies` meets its contract: the stores make the parts one list, or leave the ordinary ones 0. Assumes nothing.
use mathlib.Core.Path.{◌≡◌}
use lib.ListN.{length}
use Rattle.yaku.specs.Tally.{ordinary}
use Rattle.yaku.proofs.Loops.{last_part, all_parts}
use borrow.Author.Rules.{rules}
use Rattle.yaku.proofs.all_tallies.Goals as goal

pub returns-then-is_yakuman : goal.returns-then-is_yakuman
returns-then-is_yakuman c =
    let a = c.args in
    let size : length a.yakuman ≡ 15 = search rules in
    simp (c.put_all.ensures, c.if-is_yakuman.true) (last_part a.yakuman size)

pub returns : goal.returns
unfolding ordinary
returns c =
    let a = c.args in
    let ones = c.one_han-one_han in
    let more = c.more_han-more_han in
    let size : length a.yakuman ≡ 15 = search (rules, c.well_formed.1.1.1.1.0) in
    let ones-size : length ones.result ≡ 17 = search rules in
    let more-size : length more.result ≡ 15 = search rules in
    simp (c.put_all-3.ensures, c.put_all-2.ensures, c.put_all.ensures, c.if-is_yakuman.false, ← ones.ensures, ← more.ensures)
    (all_parts a.yakuman size ones.result more.result ones-size more-size)
