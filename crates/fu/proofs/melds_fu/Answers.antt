-- The fu of four melds: at most 32 each, so that the sum fits. Assumes nothing.
use Rattle.std.proofs.Common.{rules, tests, ◌≡◌, length, ◌∙◌, arith}
use Rattle.std.proofs.lemmas.Iterator.{YieldsList-from_slice, YieldsList-from_map}
use Rattle.std.proofs.lemmas.Iterator.Consumers.{sum_by_from_yields_List, fits_by_from_yields_list}
use Rattle.lists.proofs.Chains.{sum_is}
use Rattle.lists.specs.Fold.{sum}
use Rattle.fu.specs.Fu.{meld_fu}
use Rattle.fu.proofs.Bounds.{melds_fu_le_holds}
use Rattle.fu.proofs.melds_fu.Goals as goal

pub sum-requires-clause-fits : goal.sum-requires-clause-fits
sum-requires-clause-fits c =
    let f = meld_fu c.args.w c.args.kept in
    let size : length c.args.ms ≡ 4 = search rules in
    fits_by_from_yields_list f c.args.ms c.map.result _
    (YieldsList-from_map _ f (YieldsList-from_slice c.args.ms cc) c.map.ensures.closure (λ x r q k. search (rules, tests)))
    (omega (arith, sum_is f c.args.ms, melds_fu_le_holds c.args.w c.args.kept c.args.ms (omega (arith, size))))

pub returns : goal.returns
returns c =
    let f = meld_fu c.args.w c.args.kept in
    let size : length c.args.ms ≡ 4 = search rules in
    let is : c.sum.result ≡ sum f c.args.ms =
    sum_by_from_yields_List f c.args.ms c.map.result _ c.sum.ensures.ran
    (YieldsList-from_map _ f (YieldsList-from_slice c.args.ms cc) c.map.ensures.closure (λ x r q k. search (rules, tests)))
    ∙ sum_is f c.args.ms in
    (is, omega (arith, melds_fu_le_holds c.args.w c.args.kept c.args.ms (omega (arith, size))))
