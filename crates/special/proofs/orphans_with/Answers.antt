-- `special::orphans_with` meets its contract. Assumes nothing.
use Rattle.std.proofs.Common.{rules, tests, refl, ap, sym, Bool, ◌&&◌, ◌∙◌}
use Rattle.std.proofs.lemmas.Iterator.{YieldsList-from_range}
use Rattle.std.proofs.lemmas.Iterator.Search.{all_from_yields_List}
use Rattle.std.specs.List.{range_with_len}
use Rattle.lists.specs.Fold.{all}
use Rattle.lists.proofs.Chains.{all_is}
use Rattle.tile.specs.Tile.{tiles}
use Rattle.hand.specs.Counts.{held}
use Rattle.special.proofs.Special.{orphan_count}
use Rattle.special.proofs.orphans_with.Goals as goal

pub returns : goal.returns
returns c =
    let exact = orphan_count (held c.args.counts.now) c.args.p.0 in
    all_from_yields_List exact _ _ _ c.all.ensures.ran (YieldsList-from_range 0 34 34 refl refl) (λ x b q k. search (rules, tests))
    ∙ all_is exact (range_with_len 0 34)
    ∙ sym (ap (λ (b : Bool). b && all exact tiles) (sym c.is_terminal_or_honor.ensures ∙ c.if-not-is_terminal_or_honor.false))
