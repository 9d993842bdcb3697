-- `special::check_kokushi` meets its contract. Assumes nothing.
use Rattle.std.proofs.Common.{rules, tests, refl}
use Rattle.std.proofs.lemmas.Iterator.{YieldsList-from_range, YieldsList-from_map_by}
use Rattle.std.proofs.lemmas.Iterator.Search.{find_from_yields_List}
use Rattle.hand.specs.Counts.{held}
use Rattle.hand.specs.Readings.{is_orphans}
use Rattle.special.proofs.Special.{orphans_none, orphans_found, found_tile}
use Rattle.special.proofs.check_kokushi.Goals as goal

pub returns-then-kinds-ne13-clause-found : goal.returns-then-kinds-ne13-clause-found
returns-then-kinds-ne13-clause-found c = orphans_none (held c.args.counts.now) c.args.kinds c.requires c.if-kinds-ne13.true

pub returns : goal.returns
returns c =
    let h = held c.args.counts.now in
    let first =
    find_from_yields_List (is_orphans h) _ _ c.find.result c.find.ensures.ran
    (YieldsList-from_map_by _ (λ p. p.0) (λ t. t) (YieldsList-from_range 0 34 34 c.map.ensures.source refl) c.map.ensures.closure (λ x r q k. search rules))
    (λ x b q k. search (rules, tests)) in
    record { found = orphans_found h c.find.result first; tile = found_tile (is_orphans h) c.find.result first }
