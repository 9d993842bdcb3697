-- What the yaku of winds and dragons have to do with each other. Assumes nothing.
use mathlib.Core.Path.{◌≡◌}
use mathlib.Core.List.{List}
use Prim.Native.Nat.{ℕ}
use native.Mathlib.Omega.{arith}
use lib.Dec.{T, eqb, eqb→eq}
use Rattle.lists.proofs.Finite.{and_left, and_right}
use Rattle.tile.specs.Tile.{is_dragon}
use Rattle.meld.specs.declared.Meld.{Meld}
use Rattle.honor_yaku.specs.Honors.{dragons, winds, shousangen, daisangen, shousuushii, daisuushii}

-- a number is not two numbers
not_both : (n a b : ℕ) → T (eqb n a) → T (eqb n b) → a ≡ b
not_both n a b h i = let e = eqb→eq n a h in let f = eqb→eq n b i in omega arith

-- ---- the small and the big yaku of dragons exclude each other, and those of winds
pub small_or_big_dragons : (p : ℕ) (ms : List Meld) → T (shousangen p ms) → T (daisangen ms) → ⊥
unfolding shousangen daisangen
small_or_big_dragons p ms s b = let e = not_both (dragons ms) 2 3 (and_right (is_dragon p) _ s) b in omega arith

pub small_or_big_winds : (p : ℕ) (ms : List Meld) → T (shousuushii p ms) → T (daisuushii ms) → ⊥
unfolding shousuushii daisuushii
small_or_big_winds p ms s b = let e = not_both (winds ms) 3 4 (and_left (eqb (winds ms) 3) _ s) b in omega arith
