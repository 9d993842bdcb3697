-- What a tile completes stays when it and the meld are renamed: a wait is the same from either side, in each suit. Assumes nothing.
use mathlib.Core.Path.{◌≡◌, refl, sym, subst}
use mathlib.Core.Bool.{Bool, ◌&&◌}
use Prim.Native.Nat.{ℕ, ◌<◌}
use lib.Dec.{T, eqb, ltb, leb, eqb→eq}
use Rattle.lists.proofs.Finite.{and_cong}
use Rattle.tile.specs.declared.Renaming.{Renaming}
use Rattle.tile.specs.Renaming.{ren}
use Rattle.meld.specs.declared.Meld.{Meld}
use Rattle.meld.specs.Meld.{is_meld, is_triplet_or_kan}
use Rattle.meld.specs.Renamed.{ren_meld}
use Rattle.meld.proofs.Renamed.{meld_tile_law, on_melds, set_eqb}
use Rattle.wait.specs.Wait.{within, two_sided, edge, middle, closed_run, closed_triplet}

-- ---- a tile and a closed sequence, each law by a test
closed_law :
    (p : ℕ → ℕ → Bool) → T (on_melds (λ k. eqb k 0) (λ t m. p t m.tile))
    → (ρ : Renaming) (t : ℕ) → t < 34 → (m : Meld) → T (is_meld m) → closed_run p (ren ρ t) (ren_meld ρ m) ≡ closed_run p t m
closed_law p ok ρ t h m v = and_cong (eqb m.kind 0) (λ i. meld_tile_law (λ k. eqb k 0) (λ t m. p t m.tile) (λ t m. refl) ok ρ m v i t h)

-- how a question of a tile and a meld moves
abbrev TileStays : (ℕ → Meld → Bool) → Type 0
TileStays q = (ρ : Renaming) (t : ℕ) → t < 34 → (m : Meld) → T (is_meld m) → q (ren ρ t) (ren_meld ρ m) ≡ q t m

pub ren_within : TileStays (closed_run within)
ren_within = closed_law within tt

pub ren_two_sided_holds : TileStays (closed_run two_sided)
ren_two_sided_holds = closed_law two_sided tt

pub ren_edge : TileStays (closed_run edge)
ren_edge = closed_law edge tt

pub ren_middle : TileStays (closed_run middle)
ren_middle = closed_law middle tt

-- ---- a tile and a closed triplet
pub closed_set_holds : (m : Meld) → T (eqb m.kind 2) → T (is_triplet_or_kan m)
closed_set_holds m i = subst (λ (k : ℕ). T (leb 2 k && ltb k 7)) (sym (eqb→eq m.kind 2 i)) tt

pub ren_triplet : TileStays closed_triplet
ren_triplet ρ t h m v = and_cong (eqb m.kind 2) (λ i. set_eqb ρ t h m v (closed_set_holds m i))
