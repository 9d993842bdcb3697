-- The word of the kinds that are there, and how many ones it has. Assumes nothing.
use mathlib.Core.Path.{◌≡◌, refl, sym, ap, ◌∙◌}
use mathlib.Core.Bool.{Bool, true, false, not, cond}
use Prim.Native.Nat.{ℕ, zero, suc, ◌+◌, ◌-◌, ◌*◌, ◌/◌, ◌%◌, ◌^◌, ◌≤◌, ◌<◌}
use native.Mathlib.Nat.{pow-suc, pow-zero, pow-le-pow_right, lt_of_lt_of_le}
use native.Mathlib.Omega.{arith}
use lib.Dec.{eqb, lit<}
use lib.Count.{ones, ones_step}
use Rattle.std.specs.Int.{from_bool}
use Rattle.lists.specs.Fold.{count, one, up_from}
use Rattle.tile.specs.Tile.{tiles}
use Rattle.special.specs.Kinds.{bits_from, kinds_word}

-- the tile t is there
abbrev pub there : (ℕ → ℕ) → ℕ → Bool
there c t = not (eqb (c t) 0)

-- a tile's bit
abbrev pub bit : (ℕ → ℕ) → ℕ → ℕ
bit c t = cond (eqb (c t) 0) 0 1

bit_le : (b : Bool) → cond b 0 1 ≤ 1
bit_le true = omega arith
bit_le false = omega arith

bit_one : (b : Bool) → cond b 0 1 ≡ one (not b)
bit_one true = refl
bit_one false = refl

-- the yes or no in the code, as a number, is the tile's bit
pub there_bit : (n : ℕ) → from_bool (not (eqb n 0)) ≡ cond (eqb n 0) 0 1
there_bit n = go (eqb n 0)
  where
    go : (b : Bool) → from_bool (not b) ≡ cond b 0 1
    go true = refl
    go false = refl

-- and at most 1
pub there_le : (n r : ℕ) → r ≡ from_bool (not (eqb n 0)) → r ≤ 1
there_le n r e = let b = bit_le (eqb n 0) in omega (arith, e, there_bit n)

module _ (c : ℕ → ℕ) where
  -- ---- a one for each kind
  ones_bits : (n a : ℕ) → ones (bits_from c n a) ≡ count (there c) (up_from n a)
  unfolding bits_from ones
  ones_bits zero a = refl
  ones_bits (suc n) a =
      let b = bit_le (eqb (c a) 0) in
      let w = bits_from c n (suc a) in
      let e : (w * 2 + bit c a) % 2 ≡ bit c a = omega arith in
      let f : (w * 2 + bit c a) / 2 ≡ w = omega arith in
      ones_step (w * 2 + bit c a)
      ∙ ap (λ (k : ℕ). k + ones ((w * 2 + bit c a) / 2)) (e ∙ bit_one (eqb (c a) 0))
      ∙ ap (λ (k : ℕ). one (there c a) + ones k) f
      ∙ ap (λ (k : ℕ). one (there c a) + k) (ones_bits n (suc a))

  pub ones_kinds : ones (kinds_word c) ≡ count (there c) tiles
  unfolding kinds_word
  ones_kinds = ones_bits 34 0

  -- ---- the word from the tile i on, as the loop makes it
  unfoldable pub word_from : ℕ → ℕ
  word_from i = bits_from c (34 - i) i

  pub word_end : 0 ≡ word_from 34
  unfolding word_from bits_from
  word_end = refl

  pub word_more : (i w b : ℕ) → 0 < i → i ≤ 34 → w ≡ word_from i → b ≡ bit c (i - 1) → w * 2 + b ≡ word_from (i - 1)
  unfolding word_from bits_from
  word_more i w b h k e f =
      let m : 34 - (i - 1) ≡ suc (34 - i) = omega arith in
      let n : suc (i - 1) ≡ i = omega arith in
      ap (λ (x : ℕ). x * 2 + b) e
      ∙ ap (λ (x : ℕ). bits_from c (34 - i) i * 2 + x) f
      ∙ ap (λ (x : ℕ). bits_from c (34 - i) x * 2 + bit c (i - 1)) (sym n)
      ∙ ap (λ (x : ℕ). bits_from c x (i - 1)) (sym m)

  pub word_first : (i w : ℕ) → i ≤ 0 → w ≡ word_from i → w ≡ kinds_word c
  unfolding word_from kinds_word
  word_first i w h e = let z : i ≡ 0 = omega arith in e ∙ ap (λ (x : ℕ). bits_from c (34 - x) x) z

  -- ---- it fits
  bits_lt : (n a : ℕ) → bits_from c n a < 2 ^ n
  unfolding bits_from
  bits_lt zero a = rw pow-zero (lit< tt)
  bits_lt (suc n) a = let b = bit_le (eqb (c a) 0) in omega (arith, bits_lt n (suc a), pow-suc 2 n)

  pub word_small : (i w : ℕ) → w ≡ word_from i → w < 17179869184
  unfolding word_from
  word_small i w e =
      let h = lt_of_lt_of_le (bits_lt (34 - i) i) (pow-le-pow_right {n = 2} (lit< tt) {i = 34 - i} {j = 34} (omega arith)) in
      rw e h
