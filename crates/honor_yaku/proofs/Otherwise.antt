-- An honor is tallied 0 where the reading is not a standard one. Assumes nothing.
use mathlib.Core.Path.{◌≡◌, refl}
use Prim.Native.Nat.{ℕ}
use Rattle.context.specs.declared.GameContext.{GameContext}
use Rattle.structure.specs.declared.HandStructure.{HandStructure}
use Rattle.structure.specs.Structure.{reading_of}
use Rattle.structure.proofs.Cases.{NotStandard, otherwise}
use Rattle.honor_yaku.specs.Honors.{yakuhai_of}

module _ (h : HandStructure) (other : NotStandard h) where
  pub tally_none : (w : GameContext) (t : ℕ) → 0 ≡ yakuhai_of w (reading_of h) t
  tally_none w t = otherwise (λ r. 0 ≡ yakuhai_of w r t) (λ ps. refl) (λ p. refl) h other
