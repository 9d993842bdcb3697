-- `calculate_score` meets its contract: what its callees ensure makes the definition, and the basic points of a byte of han can be paid.
-- Assumes nothing.
use mathlib.Core.Path.{sym, ◌∙◌}
use Prim.Native.Nat.{◌≤◌}
use native.Mathlib.Omega.{arith}
use lib.ListN.{length-map}
use Rattle.structure.specs.Structure.{reading_of}
use Rattle.structure.proofs.Short.{FourMelds, short_reading}
use Rattle.yaku.proofs.Laws.{han_plain}
use Rattle.scoring.proofs.Laws.{basic_le}
use Rattle.reading_score.specs.Score.{result, score_of}
use borrow.Author.Rules.{rules}
use Rattle.reading_score.proofs.calculate_score.Goals as goal

pub total_han_with_dora-han-requires : goal.total_han_with_dora-han-requires
total_han_with_dora-han-requires c =
    let a = c.args in
    let found = c.detect_yaku_with_context-yaku.ensures in
    let four : FourMelds a.h = λ p ms e. let k = rw e at c.well_formed.0 in search rules in
    (c.requires, λ e. omega (arith, found.1.0, han_plain a.w a.opened a.s (reading_of a.h) (short_reading a.h four) (sym found.1.1 ∙ e)))

pub calculate_payment-requires : goal.calculate_payment-requires
calculate_payment-requires c =
    let total = c.total_han_with_dora-han.result in
    let y = c.detect_yaku_with_context-yaku.result in
    let small : total ≤ 255 = search rules in
    rw c.calculate_basic_points-basic.ensures (basic_le total _ y.is_yakuman small)

pub returns : goal.returns
unfolding score_of result
returns c =
    let found = c.detect_yaku_with_context-yaku.ensures in
    simp (
      c.calculate_payment.ensures,
      c.is_tsumo.ensures,
      c.is_dealer.ensures,
      c.determine_score_level.ensures,
      c.calculate_basic_points-basic.ensures,
      c.calculate_fu-fu.ensures,
      c.total_han_with_dora-han.ensures,
      found.0,
      found.1.0,
      found.1.1,
    )
