-- `reading_at` meets its contract: by the kind, seven pairs, thirteen orphans, or a pair and four melds. Assumes nothing.
use Rattle.std.proofs.Common.{rules, tests, ◌+◌, ◌*◌, ap, ap₂, sym, ◌∙◌}
use Rattle.hand.specs.Reading.{pairs, orphans, standard}
use Rattle.records.specs.Buffer.{meld_at}
use Rattle.lists.proofs.Filled.{filled}
use Rattle.meld.specs.Meld.{meld}
use Rattle.records.proofs.Places.{reads_pairs, reads_orphans, reads_standard, melds_in_turn}
use Rattle.records.proofs.reading_at.Goals as goal

pub returns-then-kind-eq1 : goal.returns-then-kind-eq1
returns-then-kind-eq1 c =
    let a = c.args in
    ap pairs c.tiles_at.ensures ∙ sym (reads_pairs a.b.now a.i (sym c.byte_at-kind.ensures ∙ c.if-kind-eq1.true))

pub returns-then-kind-eq2 : goal.returns-then-kind-eq2
returns-then-kind-eq2 c =
    let a = c.args in
    ap orphans c.byte_at.ensures ∙ sym (reads_orphans a.b.now a.i (sym c.byte_at-kind.ensures ∙ c.if-kind-eq2.true))

pub returns : goal.returns
returns c =
    let a = c.args in
    let kind = c.byte_at-kind.ensures in
    let melds = filled _ _ (λ k. meld_at a.b.now (a.i + 5 + 3 * k)) (λ k y q h. search (rules, tests)) c.from_fn.ensures.items (meld 0 0) in
    ap₂ standard c.byte_at.ensures (melds ∙ melds_in_turn a.b.now a.i) ∙
    sym (reads_standard a.b.now a.i (λ e. c.if-kind-eq1.false (kind ∙ e)) (λ e. c.if-kind-eq2.false (kind ∙ e)))
