-- `check_chuuren_poutou` meets its contract: not without a full flush, not where no suit has the gates, else where there are 14 tiles.
-- Assumes nothing.
use lib.Dec.{eqb}
use Rattle.std.proofs.Common.{rules, tests, refl, ap, ℕ, Bool, ◌∙◌}
use Rattle.std.proofs.lemmas.Iterator.{YieldsList-from_range}
use Rattle.std.proofs.lemmas.Iterator.Search.{any_from_yields_List}
use Rattle.std.specs.List.{range_with_len}
use Rattle.lists.specs.Fold.{all_below}
use Rattle.lists.proofs.Chains.{any_is}
use Rattle.hand.specs.Counts.{held}
use Rattle.tile_yaku.specs.Tiles.{gate}
use Rattle.tile_yaku.proofs.Gates.{not_without_flush, not_in_suits, by_total}
use Rattle.tile_yaku.proofs.check_chuuren_poutou.Goals as goal

pub returns-then-not-full_flush : goal.returns-then-not-full_flush
returns-then-not-full_flush c =
    not_without_flush (held c.args.counts.now) c.args.full_flush c.requires c.if-not-full_flush.true

pub returns-then-not-any : goal.returns-then-not-any
returns-then-not-any c =
    let gates : ℕ → Bool = λ s. all_below 27 (gate (held c.args.counts.now) s) in
    not_in_suits (held c.args.counts.now) c.args.full_flush c.requires c.if-not-full_flush.false c.any.result
    (any_from_yields_List gates _ _ _ c.any.ensures.ran (YieldsList-from_range 0 3 3 refl refl) (λ x b q k. search (rules, tests))
    ∙ any_is gates (range_with_len 0 3))
    c.if-not-any.true

pub returns : goal.returns
returns c =
    let gates : ℕ → Bool = λ s. all_below 27 (gate (held c.args.counts.now) s) in
    ap (λ (n : ℕ). eqb n 14) c.sum_range.ensures.0
    ∙ by_total (held c.args.counts.now) c.args.full_flush c.requires c.if-not-full_flush.false c.any.result
    (any_from_yields_List gates _ _ _ c.any.ensures.ran (YieldsList-from_range 0 3 3 refl refl) (λ x b q k. search (rules, tests))
    ∙ any_is gates (range_with_len 0 3))
    c.if-not-any.false
