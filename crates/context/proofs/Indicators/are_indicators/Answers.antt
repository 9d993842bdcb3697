-- `Indicators::are_indicators` meets its contract, where the ten places have as many as are shown. Assumes nothing.
use Rattle.std.proofs.Common.{rules, tests, arith, sym, ap, Bool, ◌&&◌, ◌≡◌, length, ltb, ◌∙◌}
use borrow.Author.Tests.{le-leb}
use Rattle.std.proofs.lemmas.Iterator.{YieldsList-from_slice}
use Rattle.std.proofs.lemmas.Iterator.Search.{all_from_yields_List}
use Rattle.std.proofs.lemmas.Slice.{between_from_start}
use Rattle.lists.specs.Fold.{all}
use Rattle.lists.proofs.Chains.{all_is}
use Rattle.context.specs.Context.{shown}
use Rattle.context.proofs.Indicators.are_indicators.Goals as goal

pub returns : goal.returns
returns c =
    let i = c.args.self in
    let ten : length i.tiles ≡ 10 = search rules in
    let part = c.in-Some.ensures.lookup.0 in
    let first = part.2 ∙ between_from_start i.tiles i.count in
    all_from_yields_List (λ t. ltb t 34) _ _ _ c.all.ensures.ran (YieldsList-from_slice (shown i) (c.iter.ensures.rest ∙ first)) (λ x b q k. search (rules, tests))
    ∙ all_is (λ t. ltb t 34) (shown i)
    ∙ sym (ap (λ (b : Bool). b && all (λ t. ltb t 34) (shown i)) (le-leb i.count 10 (omega (arith, part.1))))
