-- `Indicators::renamed` meets its contract. Assumes nothing.
use Rattle.std.proofs.Common.{rules, tests, ℕ, List, length, ap, ◌≡◌}
use Rattle.lists.proofs.Chains.{mapped}
use Rattle.tile.specs.Renaming.{ren}
use Rattle.context.specs.declared.Indicators.{Indicators}
use Rattle.context.proofs.Indicators.renamed.Goals as goal

pub returns : goal.returns
returns c =
    let i = c.args.self in
    let ten : length i.tiles ≡ 10 = search rules in
    ap (λ (ts : List ℕ). the_indicators i.count ts)
    (mapped _ _ (ren c.args.by) (λ x y q k. search (rules, tests)) i.tiles c.map.result 10 0 ten c.map.ensures.items)
  where
    the_indicators : ℕ → List ℕ → Indicators
    the_indicators n ts = record { count = n; tiles = ts }
