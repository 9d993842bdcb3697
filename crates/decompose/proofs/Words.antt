-- Counts packed in words: each is found again at its place, and a pair can be taken off. Assumes nothing.
use mathlib.Core.Path.{◌≡◌, refl, sym, ap, ◌∙◌, fun_ext, subst}
use mathlib.Core.Bool.{Bool, cond}
use mathlib.Core.List.{List}
use Prim.Native.Nat.{ℕ, zero, suc, ◌+◌, ◌-◌, ◌*◌, ◌/◌, ◌%◌, ◌^◌, ◌≤◌, ◌<◌}
use native.Mathlib.Decide.{ℕ_discrete, dec_lt}
use native.Mathlib.Omega.{arith}
use lib.Dec.{eqb, leb}
use lib.ListN.{length, get_or-eq_default}
use lib.Pow.{pow-add, pow_mono, shl_exact}
use borrow.Author.Tests.{lt-ltb, le-ltb, le-leb, lt-leb, eq-eqb, ne_eqb}
use Rattle.hand.specs.Counts.{held, AtMostFour}
use Rattle.hand.specs.Readings.{less_pair}
use Rattle.search.specs.declared.remaining.Remaining.{Remaining}
use Rattle.search.specs.Remaining.{Split, split, digit, left, Fair}
use Rattle.search.proofs.Digits.{digit_less, digit_shift, no_digits, off_le}
use Rattle.search.proofs.Left.{packed, split_none}
use Rattle.decompose.specs.declared.Packed.{Packed}
use Rattle.decompose.specs.Packed.{pack_from, in_words, Fit}

-- ---- the digits of packed counts
module _ (c : ℕ → ℕ) (few : (t : ℕ) → c t ≤ 4) where
  pub pack_digit : (n a k : ℕ) → k < n → digit (pack_from c n a) k ≡ c (a + k)
  unfolding pack_from digit
  pack_digit zero a k h = absurd (omega arith)
  pack_digit (suc n) a zero h =
      let e : a ≡ a + 0 = omega arith in
      let f : (pack_from c n (suc a) * 8 + c a) % 8 ≡ c a = omega (arith, few a) in
      f ∙ ap c e
  pack_digit (suc n) a (suc k) h =
      let e : suc a + k ≡ a + suc k = omega arith in
      let f : (pack_from c n (suc a) * 8 + c a) / 8 ≡ pack_from c n (suc a) = omega (arith, few a) in
      ap (λ (w : ℕ). digit w k) f ∙ pack_digit n (suc a) k (omega arith) ∙ ap c e

  pub pack_past : (n a k : ℕ) → n ≤ k → digit (pack_from c n a) k ≡ 0
  unfolding pack_from digit
  pack_past zero a zero h = refl
  pack_past zero a (suc k) h = pack_past zero a k (omega arith)
  pack_past (suc n) a zero h = absurd (omega arith)
  pack_past (suc n) a (suc k) h =
      let f : (pack_from c n (suc a) * 8 + c a) / 8 ≡ pack_from c n (suc a) = omega (arith, few a) in
      ap (λ (w : ℕ). digit w k) f ∙ pack_past n (suc a) k (omega arith)

  pack_bits : (n a : ℕ) → pack_from c n a < 2 ^ (3 * n)
  unfolding pack_from
  pack_bits zero a = omega arith
  pack_bits (suc n) a =
      let e : 3 * suc n ≡ 3 + 3 * n = omega arith in
      let f : 2 ^ (3 * suc n) ≡ 8 * 2 ^ (3 * n) = ap (λ (k : ℕ). 2 ^ k) e ∙ pow-add 2 3 (3 * n) in
      omega (arith, pack_bits n (suc a), few a)

  -- at most 17 counts leave room for one more in 64 bits
  pub pack_small : (n a : ℕ) → n ≤ 17 → pack_from c n a < 2 ^ 51
  pack_small n a h =
      let k : 3 * n ≤ 51 = omega arith in
      let g : 2 ^ (3 * n) ≤ 2 ^ 51 = pow_mono k in
      omega (arith, pack_bits n a)

-- one more count, below those that are packed
pub pack_more : (c : ℕ → ℕ) (to i : ℕ) → 1 ≤ i → i ≤ to → pack_from c (to - i) i * 8 + c (i - 1) ≡ pack_from c (to - (i - 1)) (i - 1)
unfolding pack_from
pack_more c to i h k =
    let e : to - (i - 1) ≡ suc (to - i) = omega arith in
    let f : i ≡ suc (i - 1) = omega arith in
    ap (λ (a : ℕ). pack_from c (to - i) a * 8 + c (i - 1)) f ∙ ap (λ (n : ℕ). pack_from c n (i - 1)) (sym e)

pub pack_none : (c : ℕ → ℕ) (to : ℕ) → 0 ≡ pack_from c (to - to) to
unfolding pack_from
pack_none c to =
    let e : to - to ≡ 0 = omega arith in
    ap (λ (n : ℕ). pack_from c n to) (sym e)

-- ---- the words below and from tile 18 on
low_word : (h : Packed) (t : ℕ) → t < 18 → in_words h t ≡ digit h.low t
unfolding in_words
low_word h t k = ap (λ (b : Bool). cond b (digit h.low t) (digit h.high (t - 18))) (lt-ltb t 18 k)

high_word : (h : Packed) (t : ℕ) → 18 ≤ t → in_words h t ≡ digit h.high (t - 18)
unfolding in_words
high_word h t k = ap (λ (b : Bool). cond b (digit h.low t) (digit h.high (t - 18))) (le-ltb t 18 k)

-- two functions of a tile are equal if they are below 18 and from 18 on
by_words : (f g : ℕ → ℕ) → ((t : ℕ) → t < 18 → f t ≡ g t) → ((t : ℕ) → 18 ≤ t → f t ≡ g t) → f ≡ g
by_words f g low high = fun_ext (λ t. go t (dec_lt t 18))
  where
    go : (t : ℕ) → Dec (t < 18) → f t ≡ g t
    go t (yes h) = low t h
    go t (no h) = high t (omega arith)

-- ---- the words that hold the counts
module _ (cs : List ℕ) (long : length cs ≡ 34) (few : AtMostFour cs) (h : Packed) where
  abbrev c : ℕ → ℕ
  c = held cs

  module _ (low : h.low ≡ pack_from (held cs) 18 0) (high : h.high ≡ pack_from (held cs) 16 18) where
    pub words_held : in_words h ≡ held cs
    words_held = by_words (in_words h) c below above
      where
        below : (t : ℕ) → t < 18 → in_words h t ≡ c t
        below t k =
            let e : 0 + t ≡ t = omega arith in
            low_word h t k ∙ ap (λ (w : ℕ). digit w t) low ∙ pack_digit c few 18 0 t k ∙ ap c e

        from : (t : ℕ) → 18 ≤ t → Dec (t < 34) → digit (pack_from c 16 18) (t - 18) ≡ c t
        from t k (yes g) =
            let e : 18 + (t - 18) ≡ t = omega arith in
            pack_digit c few 16 18 (t - 18) (omega arith) ∙ ap c e
        from t k (no g) =
            pack_past c few 16 18 (t - 18) (omega arith) ∙ sym (get_or-eq_default cs 0 {n = t} (omega arith))

        above : (t : ℕ) → 18 ≤ t → in_words h t ≡ c t
        above t k = high_word h t k ∙ ap (λ (w : ℕ). digit w (t - 18)) high ∙ from t k (dec_lt t 34)

    pub words_fit : Fit h
    words_fit = record {
      few = λ t. omega (arith, ap (λ (f : ℕ → ℕ). f t) words_held, few t);
      low = λ t k. ap (λ (w : ℕ). digit w t) low ∙ pack_past c few 18 0 t k;
      high = λ t k. ap (λ (w : ℕ). digit w t) high ∙ pack_past c few 16 18 t k;
    }

-- ---- the count at a place, and words of so many counts
digit_at : (w k n : ℕ) → n ≡ k * 3 → w / 2 ^ n % 8 ≡ digit w k
unfolding digit
digit_at w k n e =
    let f : k * 3 ≡ 3 * k = omega arith in
    let g : k + 0 ≡ k = omega arith in
    ap (λ (m : ℕ). w / 2 ^ m % 8) (e ∙ f) ∙ digit_shift k w 0 ∙ ap (digit w) g

word_small : (n w : ℕ) → ((t : ℕ) → n ≤ t → digit w t ≡ 0) → w < 2 ^ (3 * n)
unfolding digit
word_small zero w f = omega (arith, no_digits w (λ k. f k (omega arith)))
word_small (suc n) w f =
    let e : 3 * suc n ≡ 3 + 3 * n = omega arith in
    let g : 2 ^ (3 * suc n) ≡ 8 * 2 ^ (3 * n) = ap (λ (k : ℕ). 2 ^ k) e ∙ pow-add 2 3 (3 * n) in
    omega (arith, word_small n (w / 8) (λ t h. f (suc t) (omega arith)))

-- the high word leaves room for a tile below its counts
pub high_small : (h : Packed) → Fit h → h.high < 2 ^ 48
high_small h fit = word_small 16 h.high fit.high

-- ---- whether there are two of a tile
pub low_pair : (h : Packed) (p : ℕ) → p < 18 → leb 2 (h.low / 2 ^ (p * 3) % 8) ≡ leb 2 (in_words h p)
low_pair h p k = ap (leb 2) (digit_at h.low p (p * 3) refl ∙ sym (low_word h p k))

pub high_pair : (h : Packed) (p : ℕ) → 18 ≤ p → leb 2 (h.high / 2 ^ ((p - 18) * 3) % 8) ≡ leb 2 (in_words h p)
high_pair h p k = ap (leb 2) (digit_at h.high (p - 18) ((p - 18) * 3) refl ∙ sym (high_word h p k))

-- ---- the words as the tiles that are left
abbrev remaining : Packed → Split
remaining h = record { word = h.low; rest = h.high; tile = 0 }

module _ (h : Packed) (fit : Fit h) where
  all_left : left (remaining h) ≡ in_words h
  unfolding left
  all_left = by_words (left (remaining h)) (in_words h) below above
    where
      below : (t : ℕ) → t < 18 → left (remaining h) t ≡ in_words h t
      below t k =
          let e : t - 0 ≡ t = omega arith in
          omega (
            arith,
            ap (λ (b : Bool). cond b (digit h.low (t - 0)) 0) (le-leb 0 t (omega arith)),
            ap (λ (b : Bool). cond b (digit h.high (t - 18)) 0) (lt-leb 18 t k),
            ap (digit h.low) e,
            low_word h t k,
          )

      above : (t : ℕ) → 18 ≤ t → left (remaining h) t ≡ in_words h t
      above t k =
          let e : t - 0 ≡ t = omega arith in
          omega (
            arith,
            ap (λ (b : Bool). cond b (digit h.low (t - 0)) 0) (le-leb 0 t (omega arith)),
            ap (λ (b : Bool). cond b (digit h.high (t - 18)) 0) (le-leb 18 t k),
            ap (digit h.low) e,
            fit.low t k,
            high_word h t k,
          )

  fair : Fair (remaining h)
  fair = record {
    few = λ t. omega (arith, ap (λ (f : ℕ → ℕ). f t) all_left, fit.few t);
    ends = λ t k. ap (λ (f : ℕ → ℕ). f t) all_left ∙ high_word h t (omega arith) ∙ fit.high (t - 18) (omega arith);
    apart = λ e k g. fit.low k (omega arith);
  }

-- ---- a pair taken off
-- the shift does not leave the 64 bits
shifted : (p : ℕ) → p < 18 → (2 * 2 ^ (p * 3)) % 2 ^ 64 ≡ 2 * 2 ^ (3 * p)
shifted p h =
    let e : p * 3 ≡ 3 * p = omega arith in
    shl_exact 2 (p * 3) 64 (omega arith) (omega arith) ∙ ap (λ (k : ℕ). 2 * 2 ^ k) e

module _ (h : Packed) (fit : Fit h) (p : ℕ) where
  -- the words k without the pair
  less : (k : Packed) → in_words k ≡ less_pair (in_words h) p → ((t : ℕ) → 18 ≤ t → digit k.low t ≡ 0) → ((t : ℕ) → 16 ≤ t → digit k.high t ≡ 0)
      → (left (remaining k) ≡ less_pair (in_words h) p) × Fair (remaining k)
  less k e low high = (all_left k good ∙ e, fair k good)
    where
      good : Fit k
      good = record { few = λ t. omega (arith, ap (λ (f : ℕ → ℕ). f t) e, fit.few t); low = low; high = high }

  -- as the code makes them
  abbrev Without : Remaining → Type 0
  Without r = (left (split r) ≡ less_pair (in_words h) p) × Fair (split r)

  made : (w r : ℕ) → (left (packed w r 0) ≡ less_pair (in_words h) p) × Fair (packed w r 0) → Without (record { word = w; behind = r * 64 })
  made w r = subst (λ (s : Split). (left s ≡ less_pair (in_words h) p) × Fair s) (sym (split_none w r))

  -- taken from the low word
  module _ (small : p < 18) (two : 2 ≤ in_words h p) where
    abbrev off : ℕ
    off = (2 * 2 ^ (p * 3)) % 2 ^ 64

    there : 2 ≤ digit h.low p
    there = omega (arith, low_word h p small)

    pub low_there : off ≤ h.low
    low_there = omega (arith, shifted p small, off_le 2 p h.low there)

    abbrev less_low : Packed
    less_low = record { low = h.low - off; high = h.high }

    low_digit : (t : ℕ) → digit (h.low - off) t ≡ digit h.low t - cond (eqb t p) 2 0
    low_digit t = ap (λ (k : ℕ). digit (h.low - k) t) (shifted p small) ∙ digit_less p 2 h.low t there

    pub low_less : Without (record { word = h.low - off; behind = h.high * 64 })
    low_less = made (h.low - off) h.high (less less_low (by_words (in_words less_low) (less_pair (in_words h) p) below above) (λ t k. omega (arith, low_digit t, fit.low t k)) fit.high)
      where
        below : (t : ℕ) → t < 18 → in_words less_low t ≡ less_pair (in_words h) p t
        below t k = omega (arith, low_word less_low t k, low_digit t, low_word h t k)

        above : (t : ℕ) → 18 ≤ t → in_words less_low t ≡ less_pair (in_words h) p t
        above t k = omega (arith, high_word less_low t k, high_word h t k, ap {B = ℕ} (λ (b : Bool). cond b 2 0) (ne_eqb t p (λ e. omega arith)))

  -- taken from the high word
  module _ (large : 18 ≤ p) (tile : p < 34) (two : 2 ≤ in_words h p) where
    abbrev off_high : ℕ
    off_high = (2 * 2 ^ ((p - 18) * 3)) % 2 ^ 64

    there_high : 2 ≤ digit h.high (p - 18)
    there_high = omega (arith, high_word h p large)

    pub high_there : off_high ≤ h.high
    high_there = omega (arith, shifted (p - 18) (omega arith), off_le 2 (p - 18) h.high there_high)

    abbrev less_high : Packed
    less_high = record { low = h.low; high = h.high - off_high }

    high_digit : (t : ℕ) → digit (h.high - off_high) t ≡ digit h.high t - cond (eqb t (p - 18)) 2 0
    high_digit t = ap (λ (k : ℕ). digit (h.high - k) t) (shifted (p - 18) (omega arith)) ∙ digit_less (p - 18) 2 h.high t there_high

    -- the place of a tile in the high word
    same_place : (t : ℕ) → 18 ≤ t → Dec (t ≡ p) → eqb (t - 18) (p - 18) ≡ eqb t p
    same_place t k (yes e) = eq-eqb (t - 18) (p - 18) (omega arith) ∙ sym (eq-eqb t p e)
    same_place t k (no f) = ne_eqb (t - 18) (p - 18) (λ e. f (omega arith)) ∙ sym (ne_eqb t p f)

    pub high_less : Without (record { word = h.low; behind = (h.high - off_high) * 64 })
    high_less = made h.low (h.high - off_high) (less less_high (by_words (in_words less_high) (less_pair (in_words h) p) below above) fit.low (λ t k. omega (arith, high_digit t, fit.high t k)))
      where
        below : (t : ℕ) → t < 18 → in_words less_high t ≡ less_pair (in_words h) p t
        below t k = omega (arith, low_word less_high t k, low_word h t k, ap {B = ℕ} (λ (b : Bool). cond b 2 0) (ne_eqb t p (λ e. omega arith)))

        above : (t : ℕ) → 18 ≤ t → in_words less_high t ≡ less_pair (in_words h) p t
        above t k =
            omega (
              arith,
              high_word less_high t k,
              high_digit (t - 18),
              high_word h t k,
              ap {B = ℕ} (λ (b : Bool). cond b 2 0) (same_place t k (ℕ_discrete t p)),
            )
