-- How far sums and differences of points can be from zero, and that the machine's signed numbers are then the ones meant. Assumes nothing.
use mathlib.Core.Path.{◌≡◌, ap, ◌∙◌, sym, subst}
use mathlib.Core.Bool.{Bool, true, false, cond}
use Prim.Native.Nat.{ℕ, zero, suc, ◌+◌, ◌-◌, ◌^◌, ◌≤◌, ◌<◌}
use native.Mathlib.Omega.{arith}
use lib.Dec.{ltb, leb, leb→le}
use lib.IntN.{ℤ, pos, negsuc, ◌+ℤ◌, ◌-ℤ◌}
use lib.Signed.{mag}
use mir.Syntax.{w64}
use mir.Val.{SFits, of_z, to_z}
use mir.ValLaws.{to_z-of_z, to_z_pos}
use Rattle.lists.proofs.Finite.{and_left, and_right, true→t}
use Rattle.seat_book.specs.Points.{is_within}

sub_by : (b : Bool) (a c : ℕ) → mag (cond b (negsuc (c - suc a)) (pos (a - c))) ≤ a + c
sub_by true a c = omega arith
sub_by false a c = omega arith

mag_plus : (z : ℤ) (n : ℕ) → mag (z +ℤ pos n) ≤ suc (mag z + n)
mag_plus (pos a) n = omega arith
mag_plus (negsuc a) n = omega (arith, sub_by (ltb n (suc a)) n (suc a))

mag_minus : (z : ℤ) (n : ℕ) → mag (z -ℤ pos n) ≤ suc (mag z + n)
mag_minus (pos a) zero = omega arith
mag_minus (pos a) (suc n) = omega (arith, sub_by (ltb a (suc n)) a (suc n))
mag_minus (negsuc a) zero = omega (arith, sub_by (ltb 0 (suc a)) 0 (suc a))
mag_minus (negsuc a) (suc n) = omega arith

within_mag : (p : ℤ) → is_within p ≡ true → mag p ≤ 1000000000
within_mag (pos n) h = leb→le n 1000000000 (and_right true (leb n 1000000000) (true→t (is_within (pos n)) h))
within_mag (negsuc n) h = omega (arith, leb→le n 999999999 (and_left (leb n 999999999) true (true→t (is_within (negsuc n)) h)))

abbrev read : ℕ → ℤ
read n = to_z w64 n

-- a signed number read out of an array is the one that stands there
pub stands : (z : ℤ) → mag z < 2 ^ 63 → to_z w64 (of_z w64 z) ≡ z
stands z h = to_z-of_z w64 z (record { sfits = h })

pub within_at : (z : ℤ) {r : Bool} → r ≡ is_within (to_z w64 (of_z w64 z)) → mag z < 2 ^ 63 → r ≡ is_within z
within_at z e h = e ∙ ap is_within (stands z h)

-- as do points within their limits
pub stands_within : (p : ℤ) → is_within p ≡ true → to_z w64 (of_z w64 p) ≡ p
stands_within p h = stands p (omega (arith, within_mag p h))

-- ---- p + n - m on the machine, for p within the limits and n and m up to 10 ^ 12
module _ (p : ℤ) (n m : ℕ) (fits : SFits w64 p) (within : is_within p ≡ true) (n-le : n ≤ 1000000000000) (m-le : m ≤ 1000000000000) where
  near : SFits w64 (p +ℤ pos n)
  near = record { sfits = omega (arith, mag_plus p n, within_mag p within) }

  far : SFits w64 (p +ℤ pos n -ℤ pos m)
  far = record { sfits = omega (arith, mag_plus p n, mag_minus (p +ℤ pos n) m, within_mag p within) }

  small_n : read n ≡ pos n
  small_n = to_z_pos w64 n (omega arith)

  small_m : read m ≡ pos m
  small_m = to_z_pos w64 m (omega arith)

  summed : read (of_z w64 p) +ℤ read n ≡ p +ℤ pos n
  summed = ap (λ x. x +ℤ read n) (to_z-of_z w64 p fits) ∙ ap (λ x. p +ℤ x) small_n

  taken : read (of_z w64 (read (of_z w64 p) +ℤ read n)) -ℤ read m ≡ p +ℤ pos n -ℤ pos m
  taken = ap (λ x. read (of_z w64 x) -ℤ read m) summed ∙ ap (λ x. x -ℤ read m) (to_z-of_z w64 _ near) ∙ ap (λ x. p +ℤ pos n -ℤ x) small_m

  pub sum_fits : SFits w64 (read (of_z w64 p) +ℤ read n)
  sum_fits = subst (λ x. SFits w64 x) (sym summed) near

  pub rest_fits : SFits w64 (read (of_z w64 (read (of_z w64 p) +ℤ read n)) -ℤ read m)
  rest_fits = subst (λ x. SFits w64 x) (sym taken) far

  pub reads_as : read (of_z w64 (read (of_z w64 (read (of_z w64 p) +ℤ read n)) -ℤ read m)) ≡ p +ℤ pos n -ℤ pos m
  reads_as = ap (λ x. read (of_z w64 x)) taken ∙ to_z-of_z w64 _ far
