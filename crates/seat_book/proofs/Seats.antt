-- What is asked of an array of four seats is asked of each seat. Assumes nothing.
use mathlib.Core.Path.{◌≡◌, ap, ◌∙◌}
use mathlib.Core.Bool.{Bool, false, ◌&&◌}
use mathlib.Core.List.{List}
use Prim.Native.Nat.{ℕ, ◌≤◌}
use native.Mathlib.Omega.{arith}
use lib.IntN.{ℤ, pos}
use lib.ListN.{length, get_or}
use Rattle.std.proofs.Math.Bool.{and-true}
use Rattle.lists.specs.Fold.{all, count, one}
use Rattle.lists.proofs.Elements.{four}
use Rattle.lists.proofs.Finite.{one_le}
use Rattle.seat_book.specs.Points.{is_within, four_of}

pub each_within :
    (l : List ℤ) → length l ≡ 4
    → all is_within l ≡ (is_within (get_or l 0 (pos 0)) && (is_within (get_or l 1 (pos 0)) && (is_within (get_or l 2 (pos 0)) && is_within (get_or l 3 (pos 0)))))
each_within l h =
    ap (all is_within) (four l (pos 0) h)
    ∙ ap (λ b. is_within (get_or l 0 (pos 0)) && (is_within (get_or l 1 (pos 0)) && (is_within (get_or l 2 (pos 0)) && b))) (and-true (is_within (get_or l 3 (pos 0))))

pub declared_among : (l : List Bool) → length l ≡ 4 → count (λ b. b) l ≡ four_of (λ s. one (get_or l s false))
declared_among l h = ap (count (λ b. b)) (four l false h) ∙ omega arith

pub four_small : (f : ℕ → Bool) → four_of (λ s. one (f s)) ≤ 4
four_small f = omega (arith, one_le (f 0), one_le (f 1), one_le (f 2), one_le (f 3))
