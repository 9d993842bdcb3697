-- `renamed_counts` meets its contract: each place has the count of its tile under the renaming that undoes the given one. Assumes nothing.
use Rattle.std.proofs.Common.{rules, tests, ◌∙◌, ap, map}
use Rattle.lists.proofs.Filled.{filled}
use Rattle.tile.specs.Tile.{tiles}
use Rattle.tile.specs.Renaming.{ren}
use Rattle.hand.specs.Counts.{held}
use Rattle.twins.proofs.renamed_counts.Goals as goal

pub returns : goal.returns
returns c =
    let cs = c.args.counts.now in
    filled _ _ (λ t. held cs (ren c.back-undo.result t)) (λ i y q k. search (rules, tests)) c.from_fn.ensures.items 0
    ∙ ap (λ (u : _). map (λ t. held cs (ren u t)) tiles) c.back-undo.ensures
