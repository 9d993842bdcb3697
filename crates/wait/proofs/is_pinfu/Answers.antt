-- `is_pinfu` meets its contract: it asks the definition's question of a standard reading and answers no of another.
-- Assumes nothing.
use Rattle.std.proofs.Common.{rules, tests, ◌≡◌, refl, false}
use Rattle.structure.proofs.Cases.{otherwise}
use Rattle.meld.specs.Meld.{is_sequence}
use Rattle.wait.specs.Wait.{pinfu, closed_run, two_sided}
use Rattle.wait.proofs.is_pinfu.Goals as goal

pub returns : goal.returns
unfolding pinfu
returns c =
    simp (
      c.in-Standard.is,
      c.all_melds.ensures is_sequence (λ m b k. search (rules, tests)),
      c.weight.ensures.0,
      c.any_meld.ensures (closed_run two_sided c.args.w.winning_tile) (λ m b k. search (rules, tests)),
    )

pub returns-in_default : goal.returns-in_default
unfolding pinfu
returns-in_default c =
    otherwise (λ r. false ≡ pinfu c.args.w c.args.opened r) (λ ps. refl) (λ p. refl) c.args.h c.in_default.not-Standard
