-- `special::none_or_two` meets its contract. Assumes nothing.
use Rattle.std.proofs.Common.{rules, tests, ◌||◌, eqb, ◌∙◌}
use Rattle.std.proofs.lemmas.Iterator.{YieldsList-from_slice}
use Rattle.std.proofs.lemmas.Iterator.Search.{all_from_yields_List}
use Rattle.lists.proofs.Chains.{all_is}
use Rattle.lists.proofs.Elements.{all_by_place}
use Rattle.special.proofs.none_or_two.Goals as goal

pub returns : goal.returns
returns c =
    let counts = c.args.counts.now in
    all_from_yields_List (λ n. eqb n 0 || eqb n 2) _ _ _ c.all.ensures.ran (YieldsList-from_slice counts cc) (λ x b q k. search (rules, tests))
    ∙ all_is (λ n. eqb n 0 || eqb n 2) counts
    ∙ all_by_place 0 (λ n. eqb n 0 || eqb n 2) 34 counts c.told-counts
