-- One number, or another where it is 0, as the checks of a win take that of the hand. Assumes nothing.
use mathlib.Core.Path.{◌≡◌, refl, sym, ◌∙◌}
use mathlib.Core.List.{List}
use Prim.Native.Nat.{ℕ, zero, suc}
use native.Mathlib.Omega.{arith}
use Rattle.rules.specs.Rules.{Game}
use Rattle.context.specs.declared.GameContext.{GameContext}
use Rattle.checks.specs.declared.Calls.{Calls}
use Rattle.checks.specs.Checks.{hand_check_in}
use Rattle.win.specs.Win.{or_then, win_check_in}

or_first : (n m : ℕ) → (n ≡ 0 → ⊥) → or_then n m ≡ n
unfolding or_then
or_first zero m h = absurd (h refl)
or_first (suc n) m h = refl

pub or_second : (n m : ℕ) → n ≡ 0 → or_then n m ≡ m
unfolding or_then
or_second n m e = rw e

or_none : (n m : ℕ) → or_then n m ≡ 0 → n ≡ 0
unfolding or_then
or_none zero m e = refl
or_none (suc n) m e = absurd (omega arith)

module _ (g : Game) (cs : List ℕ) (k : Calls) (w : GameContext) where
  pub refused_hand : (n : ℕ) → n ≡ hand_check_in g cs k → (n ≡ 0 → ⊥) → n ≡ win_check_in g cs k w
  unfolding win_check_in
  refused_hand n e z = e ∙ sym (or_first (hand_check_in g cs k) _ (λ q. z (e ∙ q)))

  pub hand_passes : win_check_in g cs k w ≡ 0 → hand_check_in g cs k ≡ 0
  unfolding win_check_in
  hand_passes e = or_none (hand_check_in g cs k) _ e
