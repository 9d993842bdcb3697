-- The calls of a lent list of melds: up to four are that list, and more than four are refused.
use mathlib.Core.Path.{◌≡◌, refl}
use mathlib.Core.Logic.{inl, inr}
use Prim.Native.Nat.{ℕ, ◌<◌, ◌≤◌}
use native.Mathlib.Omega.{arith}
use mathlib.Core.List.{List, [], ◌∷◌}
use lib.ListN.{length}
use Rattle.meld.specs.declared.Meld.{Meld}
use Rattle.checks.specs.Checks.{called, hand_check}
use Rattle.checks.proofs.Refusals.{hand_refusals}
use Rattle.lent.specs.Lent.{calls_of}

pub called_lent : (ms : List Meld) → length ms ≤ 4 → called (calls_of ms) ≡ ms
called_lent [] h = refl
called_lent (a ∷ []) h = refl
called_lent (a ∷ b ∷ []) h = refl
called_lent (a ∷ b ∷ c ∷ []) h = refl
called_lent (a ∷ b ∷ c ∷ d ∷ []) h = refl
called_lent (a ∷ b ∷ c ∷ d ∷ e ∷ ms) h = absurd (omega arith)

pub many_refused : (cs : List ℕ) (ms : List Meld) → length cs ≡ 34 → 4 < length ms → hand_check cs (calls_of ms) ≡ 2
many_refused cs ms long many = (hand_refusals cs (calls_of ms) 2).1 (inl (long, inr (λ few. omega arith, refl)))
