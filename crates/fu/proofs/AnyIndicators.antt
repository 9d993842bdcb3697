-- No indicator changes the fu. Assumes nothing.
use mathlib.Core.Path.{◌≡◌, refl}
use mathlib.Core.Bool.{Bool}
use Rattle.context.specs.declared.Indicators.{Indicators}
use Rattle.context.specs.declared.GameContext.{GameContext}
use Rattle.context.specs.Context.{indicating}
use Rattle.hand.specs.Reading.{Reading, pairs, orphans, standard}
use Rattle.wait.specs.Wait.{pinfu}
use Rattle.fu.specs.Fu.{standard_fu, fu}

module _ (d u : Indicators) (w : GameContext) (opened : Bool) where
  pub fu_any_indicators : (r : Reading) → fu (indicating d u w) opened r ≡ fu w opened r
  unfolding fu standard_fu pinfu
  fu_any_indicators (pairs ps) = refl
  fu_any_indicators (orphans p) = refl
  fu_any_indicators (standard p ms) = refl
