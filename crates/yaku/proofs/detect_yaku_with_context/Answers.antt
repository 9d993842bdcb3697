-- `detect_yaku_with_context` meets its contract: what its parts ensure makes the definitions, and the han fits a byte.
-- Assumes nothing.
use mathlib.Core.Path.{sym, ◌∙◌}
use lib.ListN.{length-map}
use Rattle.structure.specs.Structure.{reading_of}
use Rattle.yaku.proofs.Found.{all_found}
use Rattle.structure.proofs.Short.{FourMelds, short_reading}
use Rattle.yaku.proofs.Laws.{han_small}
use borrow.Author.Rules.{rules}
use Rattle.yaku.proofs.detect_yaku_with_context.Goals as goal

pub returns : goal.returns
returns c =
    let a = c.args in
    all_found a.w a.opened a.s (reading_of a.h)
    c.yakuman_tallies-yakuman.ensures
    c.any_above_zero-is_yakuman.ensures
    c.all_tallies-tallies.ensures
    c.han_table.ensures
    c.sum_of-han.ensures

pub overflow_cast-result : goal.overflow_cast-result
overflow_cast-result c =
    let a = c.args in
    let four : FourMelds a.h = λ p ms e. let k = rw e at c.well_formed.0 in search rules in
    let small = han_small a.w a.opened a.s (reading_of a.h) (short_reading a.h four) in
    let found = returns c in
    search rules
