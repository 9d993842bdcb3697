-- A number for each tile that is at most 4: as a test and as a fact. Assumes nothing.
use mathlib.Core.Path.{◌≡◌, refl}
use mathlib.Core.Bool.{Bool, true, false}
use mathlib.Core.List.{List}
use Prim.Native.Nat.{ℕ, ◌<◌, ◌≤◌}
use native.Mathlib.Omega.{arith}
use lib.Dec.{T, leb, ltb, leb→le, le→leb}
use lib.ListN.{length, get_or-eq_default}
use borrow.Author.Tests.{ltb-true, ltb-false}
use Rattle.lists.specs.Fold.{all}
use Rattle.lists.proofs.Members.{all_mem, all_intro}
use Rattle.tile.specs.Tile.{tiles}
use Rattle.tile.proofs.Tiles.{in_tiles, tile_lt}
use Rattle.hand.specs.Counts.{held, AtMostFour}

pub four_below : (f : ℕ → ℕ) → T (all (λ t. leb (f t) 4) tiles) → (t : ℕ) → t < 34 → f t ≤ 4
four_below f v t h = leb→le (f t) 4 (all_mem (λ t. leb (f t) 4) v (in_tiles t h))

pub four_test : (f : ℕ → ℕ) → ((t : ℕ) → t < 34 → f t ≤ 4) → T (all (λ t. leb (f t) 4) tiles)
four_test f g = all_intro (λ t. leb (f t) 4) tiles (λ t i. le→leb (f t) 4 (g t (tile_lt i)))

-- past the tiles there is none
pub four_each : (cs : List ℕ) → length cs ≡ 34 → ((t : ℕ) → t < 34 → held cs t ≤ 4) → AtMostFour cs
four_each cs e f t = go (ltb t 34) (ltb-true t 34) (ltb-false t 34)
  where
    go : (b : Bool) → (b ≡ true → t < 34) → (b ≡ false → 34 ≤ t) → held cs t ≤ 4
    go true g h = f t (g refl)
    go false g h = let k = h refl in omega (arith, get_or-eq_default cs 0 {n = t} (omega arith))
