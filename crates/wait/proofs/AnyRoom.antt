-- Neither what a room gives for the pair of the double wind nor an indicator changes how often an honor counts or which hand is pinfu.
-- Assumes nothing.
use mathlib.Core.Path.{◌≡◌, refl}
use mathlib.Core.Bool.{Bool}
use Prim.Native.Nat.{ℕ}
use Rattle.context.specs.declared.Indicators.{Indicators}
use Rattle.context.specs.declared.GameContext.{GameContext}
use Rattle.context.specs.Context.{elsewhere}
use Rattle.hand.specs.Reading.{Reading, pairs, orphans, standard}
use Rattle.wait.specs.Wait.{weight, pinfu}

module _ (n : ℕ) (d u : Indicators) (w : GameContext) where
  pub weight_any_room : (t : ℕ) → weight (elsewhere n d u w) t ≡ weight w t
  weight_any_room t = refl

  pub pinfu_any_room : (opened : Bool) (r : Reading) → pinfu (elsewhere n d u w) opened r ≡ pinfu w opened r
  unfolding pinfu
  pinfu_any_room opened (pairs ps) = refl
  pinfu_any_room opened (orphans p) = refl
  pinfu_any_room opened (standard p ms) = refl
