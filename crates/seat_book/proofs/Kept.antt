-- A settled deal neither makes nor loses points: those of the seats and 1,000 for each stick are the same before and after, on any book. Assumes nothing.
use mathlib.Core.Path.{◌≡◌, refl}
use Prim.Native.Nat.{ℕ, zero, suc, ◌+◌, ◌*◌, ◌<◌}
use native.Mathlib.Omega.{arith}
use borrow.Author.Tests.{ne_eqb, le-ltb}
use Rattle.std.specs.Prelude.{Option, None, Some}
use lib.IntN.{ℤ, pos, ◌+ℤ◌}
use Rattle.lists.specs.Fold.{one}
use Rattle.lists.proofs.Finite.{below_four}
use Rattle.seat_book.specs.declared.SeatBook.{SeatBook}
use Rattle.seat_book.specs.declared.Deal.{Deal}
use Rattle.seat_book.specs.declared.Settlement.{Settlement}
use Rattle.seat_book.specs.Points.{moved, together, four_of}
use Rattle.seat_book.specs.Book.{points_of, gets_of, pays_of, declares, on_table, Even, takes, taken, sticks_after, points_after, settled, all_points}
use Rattle.seat_book.proofs.Integers.{parts, shifted, summed, natural, across}

-- four seats that get and pay, and something beside them: where that changes by what they pay less what they get, all is kept
module _ (p : ℕ → ℤ) (g y : ℕ → ℕ) (m n : ℕ) where
  abbrev at : ℕ → ℤ
  at s = moved (p s) (g s) (y s)

  pub all_kept : four_of g + n ≡ four_of y + m → together at +ℤ pos n ≡ together p +ℤ pos m
  all_kept h =
      let after = summed (summed (summed (summed (shifted (parts (p 0)) (g 0) (y 0)) (shifted (parts (p 1)) (g 1) (y 1))) (shifted (parts (p 2)) (g 2) (y 2))) (shifted (parts (p 3)) (g 3) (y 3))) (natural n) in
      let before = summed (summed (summed (summed (parts (p 0)) (parts (p 1))) (parts (p 2))) (parts (p 3))) (natural m) in
      across after before (omega arith)

-- ---- a settled deal
-- what is taken of the sticks, and what is left of them
sticks_go : (t : Option ℕ) (k : ℕ) → taken (takes t 0) k + taken (takes t 1) k + taken (takes t 2) k + taken (takes t 3) k + 1000 * sticks_after t k ≡ 1000 * k
sticks_go None k = omega arith
sticks_go (Some zero) k = omega arith
sticks_go (Some (suc zero)) k = omega arith
sticks_go (Some (suc (suc zero))) k = omega arith
sticks_go (Some (suc (suc (suc zero)))) k = omega arith
sticks_go (Some (suc (suc (suc (suc t))))) k = rw (le-ltb (suc (suc (suc (suc t)))) 4 (omega arith), ne_eqb (suc (suc (suc (suc t)))) 0 (λ e. omega arith), ne_eqb (suc (suc (suc (suc t)))) 1 (λ e. omega arith), ne_eqb (suc (suc (suc (suc t)))) 2 (λ e. omega arith), ne_eqb (suc (suc (suc (suc t)))) 3 (λ e. omega arith)) (omega arith)

pub settled_kept : (b : SeatBook) (d : Deal) (x : Settlement) → Even x → all_points (settled b d x) ≡ all_points b
unfolding settled
settled_kept b d x even =
    let go = sticks_go x.taker (on_table b d) in
    all_kept (points_of b) (λ s. gets_of x s + taken (takes x.taker s) (on_table b d)) (λ s. pays_of x s + 1000 * one (declares d s)) (1000 * b.sticks) (1000 * sticks_after x.taker (on_table b d)) (omega arith)

-- ---- seat by seat
pub seat_after_holds : (b : SeatBook) (d : Deal) (x : Settlement) (s : ℕ) → s < 4 → points_of (settled b d x) s ≡ points_after b d x s
unfolding settled
seat_after_holds b d x s h = below_four (λ s. points_of (settled b d x) s ≡ points_after b d x s) refl refl refl refl s h
