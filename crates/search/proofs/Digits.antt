-- Words of counts, three bits a place: taking off at a place, shifting, and where the lowest count stands. Assumes nothing.
use mathlib.Core.Path.{◌≡◌, refl, sym, ap, ◌∙◌, subst}
use mathlib.Core.Logic.{◌⊎◌, inl, inr}
use mathlib.Core.Bool.{cond}
use Prim.Native.Nat.{ℕ, zero, suc, ◌+◌, ◌-◌, ◌*◌, ◌/◌, ◌%◌, ◌^◌, ◌≤◌, ◌<◌}
use native.Mathlib.Nat.{div-one, div-div-eq-div-mul, mul_left_comm, eq-zero-or-pos}
use native.Mathlib.Omega.{arith}
use lib.Dec.{eqb, eqb-zero-suc, eqb-suc-zero, eqb-suc-suc}
use lib.Count.{count_trailing_zeros, under, trailing_le}
use lib.Pow.{pow-add}
use Rattle.search.specs.Remaining.{digit}

-- ---- the word 0

pub digit_zero : (k : ℕ) → digit 0 k ≡ 0
unfolding digit
digit_zero zero = refl
digit_zero (suc k) = digit_zero k

all_zero : (n w : ℕ) → w ≤ n → ((k : ℕ) → digit w k ≡ 0) → w ≡ 0
unfolding digit
all_zero zero w h f = omega arith
all_zero (suc n) w h f = omega (arith, f 0, all_zero n (w / 8) (omega arith) (λ k. f (suc k)))

-- a word whose counts are all 0 is 0
pub no_digits : (w : ℕ) → ((k : ℕ) → digit w k ≡ 0) → w ≡ 0
no_digits w f = all_zero w w (omega arith) f

-- ---- shifting

-- one place up
eighth : (p : ℕ) → 2 ^ (3 * suc p) ≡ 8 * 2 ^ (3 * p)
eighth p =
    let e : 3 * suc p ≡ 3 + 3 * p = omega arith in
    ap (λ (k : ℕ). 2 ^ k) e ∙ pow-add 2 3 (3 * p)

pub digit_shift : (p w k : ℕ) → digit (w / 2 ^ (3 * p)) k ≡ digit w (p + k)
unfolding digit
digit_shift zero w k =
    let e : k ≡ 0 + k = omega arith in
    ap (λ (v : ℕ). digit v k) (div-one w) ∙ ap (digit w) e
digit_shift (suc p) w k =
    let e : suc (p + k) ≡ suc p + k = omega arith in
    ap (λ (n : ℕ). digit (w / n) k) (eighth p)
    ∙ ap (λ (v : ℕ). digit v k) (sym (div-div-eq-div-mul w 8 (2 ^ (3 * p))))
    ∙ digit_shift p (w / 8) k
    ∙ ap (digit w) e

-- ---- taking k off at the place p

module _ (k : ℕ) where
  off_up : (p : ℕ) → k * 2 ^ (3 * suc p) ≡ 8 * (k * 2 ^ (3 * p))
  off_up p = ap (λ (n : ℕ). k * n) (eighth p) ∙ mul_left_comm k 8 (2 ^ (3 * p))

  pub off_le : (p w : ℕ) → k ≤ digit w p → k * 2 ^ (3 * p) ≤ w
  unfolding digit
  off_le zero w h = omega arith
  off_le (suc p) w h = omega (arith, off_le p (w / 8) h, off_up p)

pub digit_less : (p k w u : ℕ) → k ≤ digit w p → digit (w - k * 2 ^ (3 * p)) u ≡ digit w u - cond (eqb u p) k 0
unfolding digit
digit_less zero k w zero h = omega arith
digit_less zero k w (suc u) h =
    let e : (w - k * 1) / 8 ≡ w / 8 = omega arith in
    ap (λ (v : ℕ). digit v u) e ∙ rw eqb-suc-zero (omega arith)
digit_less (suc p) k w zero h =
    let e : (w - k * 2 ^ (3 * suc p)) % 8 ≡ w % 8 = omega (arith, off_up k p, off_le k p (w / 8) h) in
    rw eqb-zero-suc (omega arith)
digit_less (suc p) k w (suc u) h =
    let e : (w - k * 2 ^ (3 * suc p)) / 8 ≡ w / 8 - k * 2 ^ (3 * p) = omega (arith, off_up k p, off_le k p (w / 8) h) in
    ap (λ (v : ℕ). digit v u) e ∙ rw eqb-suc-suc (digit_less p k (w / 8) u h)

-- ---- the lowest count

-- the lowest bit
even : (k w : ℕ) → w % 2 ≡ 0 → count_trailing_zeros (suc k) w ≡ suc (count_trailing_zeros k (w / 2))
unfolding count_trailing_zeros
even k w e = ap (λ (d : ℕ). under d (count_trailing_zeros k (w / 2))) e

odd : (k w : ℕ) → w % 2 ≡ 1 → count_trailing_zeros (suc k) w ≡ 0
unfolding count_trailing_zeros
odd k w e = ap (λ (d : ℕ). under d (count_trailing_zeros k (w / 2))) e

-- three bits at a time
past_place : (k w : ℕ) → w % 8 ≡ 0 → count_trailing_zeros (suc (suc (suc k))) w ≡ 3 + count_trailing_zeros k (w / 8)
past_place k w e =
    let h : w / 2 / 2 / 2 ≡ w / 8 = omega arith in
    omega (
      arith,
      even (suc (suc k)) w (omega arith),
      even (suc k) (w / 2) (omega arith),
      even k (w / 2 / 2) (omega arith),
      ap (count_trailing_zeros k) h,
    )

in_place : (k w : ℕ) → 1 ≤ w % 8 → count_trailing_zeros (suc (suc (suc k))) w < 3
in_place k w h = go (eq-zero-or-pos (w % 2)) (eq-zero-or-pos (w / 2 % 2))
  where
    go : (w % 2 ≡ 0) ⊎ (0 < w % 2) → (w / 2 % 2 ≡ 0) ⊎ (0 < w / 2 % 2) → count_trailing_zeros (suc (suc (suc k))) w < 3
    go (inr i) g = omega (arith, odd (suc (suc k)) w (omega arith))
    go (inl e) (inr i) = omega (arith, even (suc (suc k)) w e, odd (suc k) (w / 2) (omega arith))
    go (inl e) (inl f) = omega (arith, even (suc (suc k)) w e, even (suc k) (w / 2) f, odd k (w / 2 / 2) (omega arith))

-- the places below the z-th are 0, and the z-th is not
pub record Lowest (w z : ℕ) : Type 0 where
  pub below : (j : ℕ) → j < z → digit w j ≡ 0
  pub there : 1 ≤ digit w z

first_place : (w z : ℕ) → z ≡ 0 → 1 ≤ w % 8 → Lowest w z
unfolding digit
first_place w z e h = record { below = λ j i. absurd (omega arith); there = subst (λ (k : ℕ). 1 ≤ digit w k) (sym e) h }

next_place : (w z y : ℕ) → y ≡ suc z → w % 8 ≡ 0 → Lowest (w / 8) z → Lowest w y
unfolding digit
next_place w z y e h l = record { below = low; there = subst (λ (k : ℕ). 1 ≤ digit w k) (sym e) l.there }
  where
    low : (j : ℕ) → j < y → digit w j ≡ 0
    low zero i = h
    low (suc j) i = l.below j (omega arith)

-- the trailing zeros say where the lowest count stands
pub lowest_place : (k w : ℕ) → (w ≡ 0 → ⊥) → w < 2 ^ k → Lowest w (count_trailing_zeros k w / 3)
lowest_place zero w f h = absurd (f (omega arith))
lowest_place (suc zero) w f h = first_place w _ (omega (arith, trailing_le 1 w)) (omega arith)
lowest_place (suc (suc zero)) w f h = first_place w _ (omega (arith, trailing_le 2 w)) (omega arith)
lowest_place (suc (suc (suc k))) w f h =
    go (λ e. lowest_place k (w / 8) (λ i. f (omega arith)) (omega (arith, pow-add 2 3 k))) (eq-zero-or-pos (w % 8))
  where
    go : (w % 8 ≡ 0 → Lowest (w / 8) (count_trailing_zeros k (w / 8) / 3)) → (w % 8 ≡ 0) ⊎ (0 < w % 8)
        → Lowest w (count_trailing_zeros (suc (suc (suc k))) w / 3)
    go rest (inl e) = next_place w (count_trailing_zeros k (w / 8) / 3) _ (omega (arith, past_place k w e)) e (rest e)
    go rest (inr i) = first_place w _ (omega (arith, in_place k w i)) i
