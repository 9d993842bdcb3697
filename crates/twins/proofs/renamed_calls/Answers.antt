-- `renamed_calls` meets its contract. Assumes nothing.
use Rattle.std.proofs.Common.{rules, tests, ℕ, List, length, ap, ◌≡◌}
use Rattle.lists.proofs.Chains.{mapped}
use Rattle.meld.specs.declared.Meld.{Meld}
use Rattle.meld.specs.Named.{run}
use Rattle.meld.specs.Renamed.{ren_meld}
use Rattle.checks.specs.declared.Calls.{Calls}
use Rattle.twins.proofs.renamed_calls.Goals as goal

pub returns : goal.returns
returns c =
    let k = c.args.k in
    let size : length k.melds ≡ 4 = search rules in
    ap (λ (l : List Meld). the_calls k.count l) (mapped _ _ (ren_meld c.args.by) (λ x y q k. search (rules, tests)) k.melds c.map.result 4 (run 0) size c.map.ensures.items)
  where
    the_calls : ℕ → List Meld → Calls
    the_calls n l = record { count = n; melds = l }
