-- `lowest` meets its contract: the first count above 0 is the lowest tile's. Assumes nothing.
use Rattle.std.proofs.Common.{◌≡◌, ◌<◌, rules, tests}
use Rattle.std.proofs.lemmas.Iterator.{IsFirst-from_position, YieldsList-from_slice}
use Rattle.call_words.proofs.Least.{first_is_lowest}
use Rattle.call_words.proofs.lowest.Goals as goal

pub returns : goal.returns
returns c =
    let cs = c.args.counts.now in
    first_is_lowest cs c.position.result c.told-counts
    (IsFirst-from_position _ _ c.position.result (λ n. 0 < n) (λ n. n ≡ 0) c.position.ensures.ran (YieldsList-from_slice cs cc) (λ x q k. search (rules, tests)) (λ x q k. search (rules, tests)))
