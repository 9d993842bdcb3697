-- `decompose::pair_places` meets its contract. Assumes nothing.
use mathlib.Core.Path.{refl, sym, ◌∙◌}
use Rattle.hand.specs.Counts.{held}
use Rattle.decompose.proofs.Places.{man_weight, pin_weight, sou_weight, honors_weight, nowhere, somewhere}
use Rattle.decompose.proofs.pair_places.Goals as goal

pub returns-then-man-pin-ne2 : goal.returns-then-man-pin-ne2
returns-then-man-pin-ne2 c =
    let cs = held c.args.counts.now in
    nowhere cs c.sum_range-man.result c.sum_range-pin.result
    c.sum_range-sou.result c.sum_range-honors.result _
    (c.sum_range-man.ensures.0 ∙ sym (man_weight cs)) (c.sum_range-pin.ensures.0 ∙ sym (pin_weight cs))
    (c.sum_range-sou.ensures.0 ∙ sym (sou_weight cs)) (c.sum_range-honors.ensures.0 ∙ sym (honors_weight cs)) refl c.if-man-pin-ne2.true

pub returns : goal.returns
returns c =
    let cs = held c.args.counts.now in
    somewhere cs c.sum_range-man.result c.sum_range-pin.result
    c.sum_range-sou.result c.sum_range-honors.result c.sum_numbers.result
    (c.sum_range-man.ensures.0 ∙ sym (man_weight cs)) (c.sum_range-pin.ensures.0 ∙ sym (pin_weight cs))
    (c.sum_range-sou.ensures.0 ∙ sym (sou_weight cs)) (c.sum_range-honors.ensures.0 ∙ sym (honors_weight cs))
    c.sum_numbers.ensures.0 c.if-man-pin-ne2.false
