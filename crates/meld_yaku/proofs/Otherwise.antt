-- A question of the pair and the melds is answered no where the reading is not a standard one. Assumes nothing.
use mathlib.Core.Path.{◌≡◌, refl}
use mathlib.Core.Bool.{Bool, false}
use mathlib.Core.List.{List}
use Prim.Native.Nat.{ℕ}
use Rattle.meld.specs.declared.Meld.{Meld}
use Rattle.structure.specs.declared.HandStructure.{HandStructure}
use Rattle.structure.specs.Structure.{reading_of}
use Rattle.structure.proofs.Cases.{NotStandard, otherwise}
use Rattle.meld_yaku.specs.Standard.{of_standard}

module _ (h : HandStructure) (other : NotStandard h) where
  pub answer_no : (q : ℕ → List Meld → Bool) → false ≡ of_standard q (reading_of h)
  answer_no q = otherwise (λ r. false ≡ of_standard q r) (λ ps. refl) (λ p. refl) h other
