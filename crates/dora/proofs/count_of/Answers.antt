-- `count_of` meets its contract: what is held of each tile shown is summed, and is four at most. Assumes nothing.
use Rattle.std.proofs.Common.{rules, tests, arith, ℕ, List, ◌∙◌}
use Rattle.std.proofs.lemmas.Iterator.{YieldsList-from_slice, YieldsList-from_map}
use Rattle.std.proofs.lemmas.Iterator.Consumers.{sum_by_from_yields_List, fits_by_from_yields_list}
use Rattle.lists.proofs.Chains.{sum_is}
use Rattle.hand.specs.Counts.{held}
use Rattle.context.specs.Context.{shown}
use Rattle.dora.specs.Dora.{dora_of}
use Rattle.dora.proofs.Counting.{forty_at_most}
use Rattle.dora.proofs.count_of.Goals as goal

-- what an indicator adds
abbrev adds : List ℕ → ℕ → ℕ
adds counts t = held counts (dora_of t)

pub sum-requires-clause-fits : goal.sum-requires-clause-fits
sum-requires-clause-fits c =
    let each = adds c.args.counts.now in
    let i = c.args.i in
    fits_by_from_yields_list each (shown i) c.map.result 256
    (YieldsList-from_map _ each (YieldsList-from_slice (shown i) cc) c.map.ensures.closure (λ x r q k. search (rules, tests)))
    (omega (arith, sum_is each (shown i), forty_at_most (held c.args.counts.now) c.requires.0 i c.requires.1))

pub returns : goal.returns
returns c =
    let each = adds c.args.counts.now in
    let i = c.args.i in
    let sum =
    sum_by_from_yields_List each (shown i) c.map.result c.sum.result c.sum.ensures.ran
    (YieldsList-from_map _ each (YieldsList-from_slice (shown i) cc) c.map.ensures.closure (λ x r q k. search (rules, tests)))
    ∙ sum_is each (shown i) in
    (sum, omega (arith, sum, forty_at_most (held c.args.counts.now) c.requires.0 i c.requires.1))
