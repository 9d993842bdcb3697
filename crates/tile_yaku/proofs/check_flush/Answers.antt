use Rattle.std.proofs.Common.{rules, tests, arith, sym, ap, subst, ℕ, ◌+◌, Option, ◌∙◌}
use borrow.Author.Tests.{lt-ltb, le-ltb}
use Rattle.std.specs.Option.{is_some}
use Rattle.hand.specs.Counts.{held}
use Rattle.tile_yaku.proofs.Suits.{SoFar, skip, found, second, below_suit, next_suit, flush_end, flush_not}
use Rattle.tile_yaku.proofs.check_flush.Goals.{then-counts-suit-gt0+else-is_some_and, else-counts-suit-gt0, else-suits-test, then-suits-test+then-loop-n-test+then-counts-suit-gt0+then-is_some_and}
use Rattle.tile_yaku.proofs.check_flush.Goals as goal

pub loop-n-preserved : goal.loop-n-preserved
loop-n-preserved c =
    let h : ℕ → ℕ = held c.args.counts.now in
    let s : ℕ = c.suits.suit-counter in
    let l = c.loop-n in
    elim c.if-counts-suit-gt0.branch [
      | then-counts-suit-gt0+else-is_some_and w ↦
          subst (λ (o : Option ℕ). SoFar h s (l.n + 1) o) (sym w.only-is)
          (found h s l.n l.only l.invariant (lt-ltb _ _ w.if-counts-suit-gt0.true) (omega arith)
          (sym (below_suit l.only s _ (omega arith) w.is_some_and.ensures (λ u k. search (rules, tests))) ∙ w.if-is_some_and.false))
      | else-counts-suit-gt0 w ↦
          subst (λ (o : Option ℕ). SoFar h s (l.n + 1) o) (sym w.only-is) (skip h s l.n l.only l.invariant (le-ltb _ _ w.if-counts-suit-gt0.false))
    ]

pub suits-preserved : goal.suits-preserved
suits-preserved c =
    let l = c.loop-n in
    next_suit (held c.args.counts.now) c.suits.suit-counter l.n l.only l.invariant (omega arith) (omega arith)

pub returns : goal.returns
returns c =
    let h : ℕ → ℕ = held c.args.counts.now in
    let s : ℕ = c.suits.suit-counter in
    c.is_some.ensures ∙ elim c.suits-test.branch [
      | else-suits-test w ↦ ap is_some w.only-is ∙ flush_end h s _ w.suits-test.false (omega arith) c.suits.invariant
      | then-suits-test+then-loop-n-test+then-counts-suit-gt0+then-is_some_and w ↦
          ap is_some w.only-is
          ∙ flush_not h s w.suits-test.true
          (second h s w.loop-n.n w.loop-n.only w.loop-n.invariant (lt-ltb _ _ w.if-counts-suit-gt0.true) w.loop-n-test.true
          (sym (below_suit w.loop-n.only s _ (omega arith) w.is_some_and.ensures (λ u k. search (rules, tests))) ∙ w.if-is_some_and.true))
    ]
