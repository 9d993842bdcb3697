-- What packed words leave of each tile: where nothing is left, from the lowest tile on, and without a meld. Assumes nothing.
use mathlib.Core.Path.{◌≡◌, refl, sym, ap, ap₂, ◌∙◌, subst, fun_ext}
use mathlib.Core.Logic.{◌⊎◌, inl, inr}
use mathlib.Core.Bool.{Bool, true, false, ◌&&◌, not, cond}
use Prim.Native.Nat.{ℕ, zero, suc, ◌+◌, ◌-◌, ◌*◌, ◌/◌, ◌%◌, ◌^◌, ◌≤◌, ◌<◌}
use native.Mathlib.Nat.{eq-zero-or-pos}
use native.Mathlib.Omega.{arith}
use lib.Dec.{T, eqb, leb, ltb, eqb→eq, leb→le}
use borrow.Author.Tests.{le-leb, lt-leb, leb-true, leb-false, ltb-true, eq-eqb, eqb-true}
use Rattle.lists.proofs.Finite.{at, and_left, and_right, T→true, true→t, T-eq, all_below_intro_holds, leb_one}
use Rattle.tile.specs.Tile.{is_start}
use Rattle.meld.specs.declared.Meld.{Meld}
use Rattle.meld.specs.Meld.{meld, run_uses, uses}
use Rattle.hand.specs.Readings.{fits, is_empty}
use Rattle.hand.proofs.Lowest.{LowestAt, fits_sequence, run_in, run_before, run_after, set_in, set_out}
use Rattle.search.specs.Remaining.{Split, split, digit, left, Fair, has_none_left, AtLowest, has_sequence, has_triplet, Less}
use Rattle.search.proofs.Digits.{digit_zero, no_digits, digit_shift, Lowest}

abbrev pub packed : ℕ → ℕ → ℕ → Split
packed w r t = record { word = w; rest = r; tile = t }

-- the words as the code holds them, the rest and the tile in one
pub split_none : (w r : ℕ) → split (record { word = w; behind = r * 64 }) ≡ packed w r 0
split_none w r =
    let e : r * 64 / 64 ≡ r = omega arith in
    let f : r * 64 % 64 ≡ 0 = omega arith in
    ap₂ (packed w) e f

pub split_on : (w b z : ℕ) → b % 64 + z < 64 → split (record { word = w; behind = b + z }) ≡ packed w (b / 64) (b % 64 + z)
split_on w b z h =
    let e : (b + z) / 64 ≡ b / 64 = omega arith in
    let f : (b + z) % 64 ≡ b % 64 + z = omega arith in
    ap₂ (packed w) e f

-- a word w from the tile t on does not reach into the tiles of the rest r
abbrev Apart : ℕ → ℕ → ℕ → Type 0
Apart w r t = (r ≡ 0 → ⊥) → (k : ℕ) → 18 ≤ t + k → digit w k ≡ 0

-- ---- the counts of one word

-- how many of the tile u are in a word that starts at the tile t
abbrev in_word : ℕ → ℕ → ℕ → ℕ
in_word t w u = cond (leb t u) (digit w (u - t)) 0

from_or_before : (t u : ℕ) → (t ≤ u) ⊎ (u < t)
from_or_before t u = go (leb t u) refl
  where
    go : (b : Bool) → leb t u ≡ b → (t ≤ u) ⊎ (u < t)
    go true e = inl (leb-true t u e)
    go false e = inr (leb-false t u e)

in_word_from_holds : (t w u : ℕ) → t ≤ u → in_word t w u ≡ digit w (u - t)
in_word_from_holds t w u h = ap (λ (b : Bool). cond b (digit w (u - t)) 0) (le-leb t u h)

in_word_before_holds : (t w u : ℕ) → u < t → in_word t w u ≡ 0
in_word_before_holds t w u h = ap (λ (b : Bool). cond b (digit w (u - t)) 0) (lt-leb t u h)

in_word_on_holds : (t w k : ℕ) → in_word t w (t + k) ≡ digit w k
in_word_on_holds t w k =
    let e : t + k - t ≡ k = omega arith in
    in_word_from_holds t w (t + k) (omega arith) ∙ ap (digit w) e

in_word_zero_holds : (t u : ℕ) → in_word t 0 u ≡ 0
in_word_zero_holds t u = go (from_or_before t u)
  where
    go : (t ≤ u) ⊎ (u < t) → in_word t 0 u ≡ 0
    go (inl h) = in_word_from_holds t 0 u h ∙ digit_zero (u - t)
    go (inr h) = in_word_before_holds t 0 u h

-- the places below the lowest count left out
in_word_shift_holds : (t w z u : ℕ) → Lowest w z → in_word (t + z) (w / 2 ^ (3 * z)) u ≡ in_word t w u
in_word_shift_holds t w z u l = go (from_or_before (t + z) u) (from_or_before t u)
  where
    go : (t + z ≤ u) ⊎ (u < t + z) → (t ≤ u) ⊎ (u < t) → in_word (t + z) (w / 2 ^ (3 * z)) u ≡ in_word t w u
    go (inl h) _ =
        let e : z + (u - (t + z)) ≡ u - t = omega arith in
        in_word_from_holds (t + z) _ u h ∙ digit_shift z w (u - (t + z)) ∙ ap (digit w) e ∙ sym (in_word_from_holds t w u (omega arith))
    go (inr h) (inl i) = in_word_before_holds (t + z) _ u h ∙ sym (in_word_from_holds t w u i ∙ l.below (u - t) (omega arith))
    go (inr h) (inr i) = in_word_before_holds (t + z) _ u h ∙ sym (in_word_before_holds t w u i)

-- each place of v is lower by what is taken of its tile
in_word_less_holds : (t w v : ℕ) (takes : ℕ → ℕ) (u : ℕ) → ((k : ℕ) → digit v k + takes (t + k) ≡ digit w k) → (u < t → takes u ≡ 0)
    → in_word t v u + takes u ≡ in_word t w u
in_word_less_holds t w v takes u f g = go (from_or_before t u)
  where
    go : (t ≤ u) ⊎ (u < t) → in_word t v u + takes u ≡ in_word t w u
    go (inl h) =
        let e : t + (u - t) ≡ u = omega arith in
        omega (arith, in_word_from_holds t v u h, in_word_from_holds t w u h, f (u - t), ap takes e)
    go (inr h) = omega (arith, in_word_before_holds t v u h, in_word_before_holds t w u h, g h)

-- ---- nothing is left

word_le : (s : Split) (k : ℕ) → digit s.word k ≤ left s (s.tile + k)
unfolding left
word_le s k = omega (arith, in_word_on_holds s.tile s.word k)

rest_le : (s : Split) (k : ℕ) → digit s.rest k ≤ left s (18 + k)
unfolding left
rest_le s k = omega (arith, in_word_on_holds 18 s.rest k)

all_none : (s : Split) → Fair s → T (is_empty (left s)) → (u : ℕ) → left s u ≡ 0
all_none s f h u = go (from_or_before 34 u)
  where
    go : (34 ≤ u) ⊎ (u < 34) → left s u ≡ 0
    go (inl i) = f.ends u i
    go (inr i) = eqb→eq (left s u) 0 (at 34 (λ t. eqb (left s t) 0) h u i)

none_at : (s : Split) → s.word ≡ 0 → s.rest ≡ 0 → (u : ℕ) → left s u ≡ 0
unfolding left
none_at s e f u =
    ap₂ (λ (w r : ℕ). in_word s.tile w u + in_word 18 r u) e f
    ∙ ap₂ (λ (a b : ℕ). a + b) (in_word_zero_holds s.tile u) (in_word_zero_holds 18 u)

pub none_words : (s : Split) → Fair s → (eqb s.word 0 && eqb s.rest 0) ≡ has_none_left s
unfolding has_none_left
none_words s f =
    T-eq
    (eqb s.word 0 && eqb s.rest 0)
    (is_empty (left s))
    (λ h.
    let e = eqb→eq s.word 0 (and_left (eqb s.word 0) _ h) in
    let i = eqb→eq s.rest 0 (and_right (eqb s.word 0) _ h) in
    all_below_intro_holds 34 (λ t. eqb (left s t) 0) (λ u j. true→t _ (eq-eqb (left s u) 0 (none_at s e i u))))
    (λ h.
    true→t _
    (ap₂
    ◌&&◌
    (eq-eqb s.word 0 (no_digits s.word (λ k. omega (arith, word_le s k, all_none s f h (s.tile + k)))))
    (eq-eqb s.rest 0 (no_digits s.rest (λ k. omega (arith, rest_le s k, all_none s f h (18 + k)))))))

-- ---- the rest as the word

-- the rest alone, in either word
swap_at : (r t u : ℕ) → left (packed r 0 18) u ≡ left (packed 0 r t) u
unfolding left
swap_at r t u = omega (arith, in_word_zero_holds 18 u, in_word_zero_holds t u)

-- fairness is kept where the same tiles are left
same_fair : (s t : Split) → Fair s → left t ≡ left s → Apart t.word t.rest t.tile → Fair t
same_fair s t f e a = record {
  few = λ u. subst (λ (c : ℕ → ℕ). c u ≤ 4) (sym e) (f.few u);
  ends = λ u h. ap (λ (c : ℕ → ℕ). c u) e ∙ f.ends u h;
  apart = a;
}

-- t are the tiles of s with one in the word
abbrev pub Current : Split → Split → Type 0
Current s t = Fair t × ((left t ≡ left s) × (t.word ≡ 0 → ⊥))

module _ (s : Split) (f : Fair s) (n : has_none_left s ≡ false) where
  never : ◌≡◌ {A = Bool} true false → ⊥
  never e = subst T e tt

  some_word : (s.word ≡ 0) → (s.rest ≡ 0) → ⊥
  some_word e i = never (sym (ap₂ ◌&&◌ (eq-eqb s.word 0 e) (eq-eqb s.rest 0 i)) ∙ none_words s f ∙ n)

  pub current_rest : s.word ≡ 0 → Current s (packed s.rest 0 18)
  current_rest e =
      let same : left (packed s.rest 0 18) ≡ left s =
      fun_ext (λ u. swap_at s.rest s.tile u ∙ ap (λ (w : ℕ). left (packed w s.rest s.tile) u) (sym e)) in
      (same_fair s (packed s.rest 0 18) f same (λ g k h. absurd (g refl)), (same, some_word e))

  pub current_word : (s.word ≡ 0 → ⊥) → Current s s
  current_word h = (f, (refl, h))

-- ---- from the lowest tile on

module _ (s : Split) (f : Fair s) (z : ℕ) (l : Lowest s.word z) where
  abbrev shifted : Split
  shifted = packed (s.word / 2 ^ (3 * z)) s.rest (s.tile + z)

  shifted_same : left shifted ≡ left s
  unfolding left
  shifted_same = fun_ext (λ u. ap (λ (n : ℕ). n + in_word 18 s.rest u) (in_word_shift_holds s.tile s.word z u l))

  shifted_apart : Apart s.word s.rest s.tile → Apart (s.word / 2 ^ (3 * z)) s.rest (s.tile + z)
  shifted_apart g = λ f k h. digit_shift z s.word k ∙ g f (z + k) (omega arith)

  shifted_there : 1 ≤ s.word / 2 ^ (3 * z) % 8
  unfolding digit
  shifted_there =
      let e : z + 0 ≡ z = omega arith in
      omega (arith, digit_shift z s.word 0, ap (digit s.word) e, l.there)

  pub lowest_tile : s.tile + z < 34
  lowest_tile = go (from_or_before 34 (s.tile + z))
    where
      go : (34 ≤ s.tile + z) ⊎ (s.tile + z < 34) → s.tile + z < 34
      go (inl h) = absurd (omega (arith, f.ends (s.tile + z) h, word_le s z, l.there))
      go (inr h) = h

  pub lowest_of : AtLowest shifted × (left shifted ≡ left s)
  lowest_of = (
    record { fair = same_fair s shifted f shifted_same (shifted_apart f.apart); tile = lowest_tile; there = shifted_there },
    shifted_same,
  )

-- ---- at the lowest tile

above : (n : ℕ) → T (not (eqb n 0)) → 1 ≤ n
above n h = leb→le 1 n (true→t (leb 1 n) (leb_one n ∙ T→true _ h))

guarded : (a b x y : Bool) → (T (a && b) → x ≡ y) → ((a && b) && x) ≡ (a && (b && y))
guarded true true x y f = f tt
guarded true false x y f = refl
guarded false b x y f = refl

module _ (s : Split) (a : AtLowest s) where
  -- the rest has nothing of a tile below its own, and nothing at all once the word is among its tiles
  rest_none : (u : ℕ) → (18 ≤ s.tile) ⊎ (u < 18) → in_word 18 s.rest u ≡ 0
  unfolding digit
  rest_none u (inl h) = go (eq-zero-or-pos s.rest)
    where
      go : (s.rest ≡ 0) ⊎ (0 < s.rest) → in_word 18 s.rest u ≡ 0
      go (inl e) = ap (λ (r : ℕ). in_word 18 r u) e ∙ in_word_zero_holds 18 u
      go (inr g) = absurd (omega (arith, a.fair.apart (λ e. omega arith) 0 (omega arith), a.there))
  rest_none u (inr h) = in_word_before_holds 18 s.rest u h

  left_on : (k : ℕ) → (18 ≤ s.tile) ⊎ (s.tile + k < 18) → left s (s.tile + k) ≡ digit s.word k
  unfolding left
  left_on k h = omega (arith, in_word_on_holds s.tile s.word k, rest_none (s.tile + k) h)

  left_here : left s s.tile ≡ s.word % 8
  unfolding left digit
  left_here =
      let e : s.tile - s.tile ≡ 0 = omega arith in
      omega (
        arith,
        in_word_from_holds s.tile s.word s.tile (omega arith),
        ap (digit s.word) e,
        rest_none s.tile (from_or_before 18 s.tile),
      )

  below : (v : ℕ) → v < s.tile → left s v ≡ 0
  unfolding left
  below v h = omega (arith, in_word_before_holds s.tile s.word v h, rest_none v (go (from_or_before 18 s.tile)))
    where
      go : (18 ≤ s.tile) ⊎ (s.tile < 18) → (18 ≤ s.tile) ⊎ (v < 18)
      go (inl i) = inl i
      go (inr i) = inr (omega arith)

  pub lowest_at : LowestAt (left s) s.tile
  lowest_at = record { tile = a.tile; there = omega (arith, left_here, a.there); below = below }

  pub triplet_word : eqb (s.word % 8) 3 ≡ has_triplet s
  unfolding has_triplet
  triplet_word = ap (λ (n : ℕ). eqb n 3) (sym left_here)

  -- a sequence does not reach from the tiles of the word into those of the rest
  left_next : (k : ℕ) → k ≤ 2 → T (is_start s.tile) → left s (s.tile + k) ≡ digit s.word k
  left_next k i h = left_on k (go (from_or_before 18 s.tile))
    where
      go : (18 ≤ s.tile) ⊎ (s.tile < 18) → (18 ≤ s.tile) ⊎ (s.tile + k < 18)
      go (inl j) = inl j
      go (inr j) = inr (omega (arith, ltb-true (s.tile % 9) 7 (T→true _ (and_right (ltb s.tile 27) _ h))))

  -- the sequence is there where the tile can start one and the two next places are not 0
  pub sequence_word : (ltb s.tile 27 && (ltb (s.tile % 9) 7 && (not (eqb (s.word / 8 % 8) 0) && not (eqb (s.word / 64 % 8) 0)))) ≡ has_sequence s
  unfolding has_sequence digit
  sequence_word = sym (guarded (ltb s.tile 27) (ltb (s.tile % 9) 7) _ _ three)
    where
      three : T (is_start s.tile) → fits (meld s.tile 0) (left s) ≡ (not (eqb (s.word / 8 % 8) 0) && not (eqb (s.word / 64 % 8) 0))
      three h =
          let e : s.word / 8 / 8 % 8 ≡ s.word / 64 % 8 = omega arith in
          let i = ap (leb 1) (left_next 1 (omega arith) h) ∙ leb_one (s.word / 8 % 8) in
          let j = ap (leb 1) (left_next 2 (omega arith) h ∙ e) ∙ leb_one (s.word / 64 % 8) in
          fits_sequence (left s) s.tile h ∙ ap₂ ◌&&◌ (le-leb 1 (left s s.tile) (omega (arith, left_here, a.there))) (ap₂ ◌&&◌ i j)

-- ---- without a meld

-- what is left without a meld, where each place of the word is lower by what the meld uses
less_of : (s : Split) (m : Meld) (w : ℕ) → Fair s → ((k : ℕ) → digit w k + uses m (s.tile + k) ≡ digit s.word k)
    → ((u : ℕ) → u < s.tile → uses m u ≡ 0)
    → Less s m (packed w s.rest s.tile)
unfolding left
less_of s m w f g h = record {
  fair = record {
    few = λ u. omega (arith, f.few u, taken u);
    ends = λ u i. omega (arith, f.ends u i, taken u);
    apart = λ i k j. omega (arith, g k, f.apart i k j);
  };
  same = fun_ext (λ u. omega (arith, taken u));
}
  where
    taken : (u : ℕ) → left (packed w s.rest s.tile) u + uses m u ≡ left s u
    taken u = omega (arith, in_word_less_holds s.tile s.word w (uses m) u g (h u))

-- 73 is one each at the three lowest places
run_off : (t w k : ℕ) → 1 ≤ w % 8 → 1 ≤ w / 8 % 8 → 1 ≤ w / 8 / 8 % 8 → digit (w - 73) k + run_uses t (t + k) ≡ digit w k
unfolding digit
run_off t w k a b c = go k
  where
    one_off : (w - 73) / 8 ≡ w / 8 - 9
    one_off = omega arith

    two_off : (w - 73) / 8 / 8 ≡ w / 8 / 8 - 1
    two_off = omega (arith, one_off)

    go : (k : ℕ) → digit (w - 73) k + run_uses t (t + k) ≡ digit w k
    go zero = omega (arith, one_off, run_in t (t + 0) (omega arith) (omega arith))
    go (suc zero) = omega (arith, one_off, two_off, run_in t (t + 1) (omega arith) (omega arith))
    go (suc (suc zero)) = omega (arith, two_off, run_in t (t + 2) (omega arith) (omega arith))
    go (suc (suc (suc k))) =
        let e : (w - 73) / 8 / 8 / 8 ≡ w / 8 / 8 / 8 = omega (arith, two_off) in
        omega (arith, run_after t (t + suc (suc (suc k))) (omega arith), ap (λ (v : ℕ). digit v k) e)

set_off : (t w k : ℕ) → 3 ≤ w % 8 → digit (w - 3) k + uses (meld t 2) (t + k) ≡ digit w k
unfolding digit
set_off t w zero h =
    let e : t + 0 ≡ t = omega arith in
    omega (arith, ap (uses (meld t 2)) e, set_in t)
set_off t w (suc k) h =
    let e : (w - 3) / 8 ≡ w / 8 = omega arith in
    omega (arith, ap (λ (v : ℕ). digit v k) e, set_out t (t + suc k) (λ i. omega arith))

module _ (s : Split) (a : AtLowest s) where
  places : has_sequence s ≡ true → (1 ≤ s.word / 8 % 8) × (1 ≤ s.word / 64 % 8)
  places e = go (s.word / 8 % 8) (s.word / 64 % 8) (true→t _ (sequence_word s a ∙ e))
    where
      go : (x y : ℕ) → T (ltb s.tile 27 && (ltb (s.tile % 9) 7 && (not (eqb x 0) && not (eqb y 0)))) → (1 ≤ x) × (1 ≤ y)
      go x y h =
          let k = and_right (ltb (s.tile % 9) 7) _ (and_right (ltb s.tile 27) _ h) in
          (above x (and_left (not (eqb x 0)) _ k), above y (and_right (not (eqb x 0)) _ k))

  pub sequence_fits : has_sequence s ≡ true → 73 ≤ s.word
  sequence_fits e = omega (arith, a.there, places e)

  pub without_sequence : has_sequence s ≡ true → Less s (meld s.tile 0) (packed (s.word - 73) s.rest s.tile)
  without_sequence e =
      let p = places e in
      less_of
      s
      (meld s.tile 0)
      (s.word - 73)
      a.fair
      (λ k. run_off s.tile s.word k a.there p.0 (omega arith))
      (run_before s.tile)

  three : has_triplet s ≡ true → s.word % 8 ≡ 3
  three e = eqb-true (s.word % 8) 3 (triplet_word s a ∙ e)

  pub triplet_fits : has_triplet s ≡ true → 3 ≤ s.word
  triplet_fits e = omega (arith, three e)

  pub without_triplet : has_triplet s ≡ true → Less s (meld s.tile 2) (packed (s.word - 3) s.rest s.tile)
  without_triplet e =
      less_of
      s
      (meld s.tile 2)
      (s.word - 3)
      a.fair
      (λ k. set_off s.tile s.word k (omega (arith, three e)))
      (λ u h. set_out s.tile u (λ i. omega arith))
