-- The questions that the yaku ask of one meld stay when all is renamed. Assumes nothing.
use mathlib.Core.Path.{◌≡◌}
use mathlib.Core.Bool.{Bool}
use Prim.Native.Nat.{ℕ, ◌<◌}
use lib.Dec.{T, eqb}
use Rattle.lists.proofs.Finite.{and_cong}
use Rattle.tile.specs.declared.Renaming.{Renaming}
use Rattle.tile.specs.Renaming.{ren}
use Rattle.meld.specs.declared.Meld.{Meld}
use Rattle.meld.specs.Meld.{is_meld, is_triplet_or_kan}
use Rattle.meld.specs.Renamed.{ren_meld}
use Rattle.meld.proofs.Renamed.{set_eqb}
use Rattle.meld_yaku.specs.Melds.{set_of}

-- the question is answered alike for a meld and for it renamed
abbrev pub Stays : (Meld → Bool) → Type 0
Stays p = (ρ : Renaming) (m : Meld) → T (is_meld m) → p (ren_meld ρ m) ≡ p m

-- a triplet or kan of a tile
pub ren_set_of_holds : (ρ : Renaming) (t : ℕ) → t < 34 → (m : Meld) → T (is_meld m) → set_of (eqb (ren ρ t)) (ren_meld ρ m) ≡ set_of (eqb t) m
ren_set_of_holds ρ t h m v = and_cong (is_triplet_or_kan m) (set_eqb ρ t h m v)
