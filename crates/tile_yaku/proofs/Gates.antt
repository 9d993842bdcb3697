-- Nine gates: the test at each tile of the walk over suits and numbers, and the honors apart; they make a full flush. Assumes nothing.
use mathlib.Core.Path.{◌≡◌, refl, sym, subst, ap, ap₂, ◌∙◌}
use mathlib.Core.Bool.{Bool, true, false, ◌&&◌, ◌||◌, not, cond, and_assoc, and-false, or-true, or-false}
use Prim.Native.Nat.{ℕ, zero, suc, ◌+◌, ◌*◌, ◌/◌, ◌%◌, ◌<◌, ◌≤◌}
use native.Mathlib.Omega.{arith}
use lib.Dec.{T, eqb, leb, ltb, eqb→eq, leb→le}
use borrow.Author.Tests.{lt-ltb, le-leb, eq-eqb}
use Rattle.lists.specs.Fold.{all, any, sum, all_below}
use Rattle.lists.proofs.Finite.{at, true→t}
use Rattle.tile.specs.Tile.{is_honor, is_suited, tiles}
use Rattle.tile_yaku.specs.Tiles.{some, one_suit, suits, chinitsu, gate, nine_gates}
use Rattle.tile_yaku.proofs.Below.{all_bad, all_tiles, some_of, some_none, all_on}
use Rattle.tile_yaku.proofs.Questions.{only_not}
use Rattle.tile_yaku.proofs.Suits.{there_at, present, one_suit_by}

-- the test at the number n of the suit s
abbrev pub gate_at : (ℕ → ℕ) → ℕ → ℕ → ℕ → Bool
gate_at c of s n = cond (eqb s of) (leb (cond (eqb n 0 || eqb n 8) 3 1) (c (s * 9 + n))) (eqb (c (s * 9 + n)) 0)

gate_at_holds : (c : ℕ → ℕ) (of s n : ℕ) → s < 3 → n < 9 → gate_at c of s n ≡ gate c of (s * 9 + n)
gate_at_holds c of s n h k =
    let d : (s * 9 + n) / 9 ≡ s = omega arith in
    let m : (s * 9 + n) % 9 ≡ n = omega arith in
    let l : ltb (s * 9 + n) 27 ≡ true = lt-ltb (s * 9 + n) 27 (omega arith) in
    rw (d, m, l)

-- ---- the walk: a tile that fits, one that does not, the next suit, and the end
module _ (c : ℕ → ℕ) (of s n : ℕ) (b : Bool) (h : s < 3) (k : n < 9) where
  pub fits : b ≡ gate_at c of s n → b ≡ true → all_below (s * 9 + n) (gate c of) ≡ true → all_below (s * 9 + (n + 1)) (gate c of) ≡ true
  fits e f so =
      let q : (s * 9 + n) + 1 ≡ s * 9 + (n + 1) = omega arith in
      subst (λ (i : ℕ). all_below i (gate c of) ≡ true) q (all_on (gate c of) (s * 9 + n) so (sym (gate_at_holds c of s n h k) ∙ sym e ∙ f))

pub misfit :
    (c : ℕ → ℕ) (of s n : ℕ) (b : Bool) → s < 3 → n < 9 → b ≡ gate_at c of s n → b ≡ false → false ≡ all_below 27 (gate c of)
misfit c of s n b h k e f = sym (all_bad (gate c of) 27 (s * 9 + n) (omega arith) (sym (gate_at_holds c of s n h k) ∙ sym e ∙ f))

pub first_number : (c : ℕ → ℕ) (of s : ℕ) → all_below (s * 9) (gate c of) ≡ true → all_below (s * 9 + 0) (gate c of) ≡ true
first_number c of s so = let q : s * 9 ≡ s * 9 + 0 = omega arith in subst (λ (i : ℕ). all_below i (gate c of) ≡ true) q so

pub next_suit :
    (c : ℕ → ℕ) (of s n : ℕ) → 9 ≤ n → n ≤ 9 → all_below (s * 9 + n) (gate c of) ≡ true → all_below ((s + 1) * 9) (gate c of) ≡ true
next_suit c of s n h k so =
    let q : s * 9 + n ≡ (s + 1) * 9 = omega arith in subst (λ (i : ℕ). all_below i (gate c of) ≡ true) q so

pub all_suits : (c : ℕ → ℕ) (of s : ℕ) → 3 ≤ s → s ≤ 3 → all_below (s * 9) (gate c of) ≡ true → true ≡ all_below 27 (gate c of)
all_suits c of s h k so =
    let q : s * 9 ≡ 27 = omega arith in sym (subst (λ (i : ℕ). all_below i (gate c of) ≡ true) q so)

-- ---- the numbers below m + n: those from n on, and those below n
below_apart : (p : ℕ → Bool) (m n : ℕ) → all_below (m + n) p ≡ (all_below m (λ k. p (k + n)) && all_below n p)
below_apart p zero n = let q : 0 + n ≡ n = omega arith in ap (λ (i : ℕ). all_below i p) q
below_apart p (suc m) n =
    let q : suc m + n ≡ suc (m + n) = omega arith in
    ap (λ (i : ℕ). all_below i p) q ∙ ap (λ (b : Bool). p (m + n) && b) (below_apart p m n)
    ∙ sym (and_assoc (p (m + n)) (all_below m (λ k. p (k + n))) (all_below n p))

-- at the honors the test says that none is there
gates_honors : (c : ℕ → ℕ) (s : ℕ) → all_below 7 (λ k. gate c s (k + 27)) ≡ not (some is_honor c)
gates_honors c s = sym (sym (only_not is_suited is_honor c tt) ∙ all_tiles (λ t. eqb (c t) 0 || is_suited t) ∙ simp (or-true, or-false))

gates_apart : (c : ℕ → ℕ) (s : ℕ) → all (gate c s) tiles ≡ (not (some is_honor c) && all_below 27 (gate c s))
gates_apart c s =
    all_tiles (gate c s) ∙ below_apart (gate c s) 7 27 ∙ ap (λ (b : Bool). b && all_below 27 (gate c s)) (gates_honors c s)

-- ---- nine gates, by the walks over the suits
abbrev pub some_gates : (ℕ → ℕ) → Bool
some_gates c = all_below 27 (gate c 0) || (all_below 27 (gate c 1) || all_below 27 (gate c 2))

abbrev pub fourteen : (ℕ → ℕ) → Bool
fourteen c = eqb (sum c tiles) 14

some_suit : (h a b d : Bool) → (h && a || (h && b || (h && d || false))) ≡ (h && (a || (b || d)))
some_suit true a b d = ap (λ (x : Bool). a || (b || x)) (or-false d)
some_suit false a b d = refl

nine_gates_are : (c : ℕ → ℕ) → nine_gates c ≡ (not (some is_honor c) && some_gates c && fourteen c)
unfolding nine_gates
nine_gates_are c =
    ap (λ (x : Bool). x && fourteen c)
    (ap₂ ◌||◌ (gates_apart c 0) (ap₂ ◌||◌ (gates_apart c 1) (ap (λ (x : Bool). x || false) (gates_apart c 2)))
    ∙ some_suit (not (some is_honor c)) (all_below 27 (gate c 0)) (all_below 27 (gate c 1)) (all_below 27 (gate c 2)))

-- ---- a suit with the gates is there, and no other suit is
module _ (c : ℕ → ℕ) (of : ℕ) (h : of < 3) (all : all_below 27 (gate c of) ≡ true) where
  at_gate : (s n : ℕ) → s < 3 → n < 9 → T (gate_at c of s n)
  at_gate s n i k =
      subst T (sym (gate_at_holds c of s n i k)) (at 27 (gate c of) (true→t _ all) (s * 9 + n) (omega arith))

  own_there : present c of ≡ true
  own_there = some_of (there_at c of) 0 9 (omega arith) (le-leb 1 (c (of * 9 + 0)) (omega (arith, leb→le 3 (c (of * 9 + 0)) three)))
    where
      three : T (leb 3 (c (of * 9 + 0)))
      three = subst (λ (b : Bool). T (cond b (leb 3 (c (of * 9 + 0))) (eqb (c (of * 9 + 0)) 0))) (eq-eqb of of refl) (at_gate of 0 h (omega arith))

  none_there : (s : ℕ) → s < 3 → eqb s of ≡ false → present c s ≡ false
  none_there s i e = some_none (there_at c s) 9 (λ n k. ap (leb 1) (eqb→eq (c (s * 9 + n)) 0 (none n k)))
    where
      none : (n : ℕ) → n < 9 → T (eqb (c (s * 9 + n)) 0)
      none n k = subst (λ (b : Bool). T (cond b (leb (cond (eqb n 0 || eqb n 8) 3 1) (c (s * 9 + n))) (eqb (c (s * 9 + n)) 0))) e (at_gate s n i k)

gates_one_suit : (c : ℕ → ℕ) → some_gates c ≡ true → one_suit c ≡ true
gates_one_suit c e = go (all_below 27 (gate c 0)) (all_below 27 (gate c 1)) (all_below 27 (gate c 2)) refl refl refl e
  where
    go :
        (a b d : Bool) → all_below 27 (gate c 0) ≡ a → all_below 27 (gate c 1) ≡ b → all_below 27 (gate c 2) ≡ d
        → (a || (b || d)) ≡ true → one_suit c ≡ true
    go true b d x y z e =
        one_suit_by c true false false (own_there c 0 (omega arith) x) (none_there c 0 (omega arith) x 1 (omega arith) refl)
        (none_there c 0 (omega arith) x 2 (omega arith) refl)
    go false true d x y z e =
        one_suit_by c false true false (none_there c 1 (omega arith) y 0 (omega arith) refl) (own_there c 1 (omega arith) y)
        (none_there c 1 (omega arith) y 2 (omega arith) refl)
    go false false true x y z e =
        one_suit_by c false false true (none_there c 2 (omega arith) z 0 (omega arith) refl)
        (none_there c 2 (omega arith) z 1 (omega arith) refl) (own_there c 2 (omega arith) z)
    go false false false x y z e = absurd (subst T (sym e) tt)

-- ---- an honor, one suit, gates and 14 tiles: nine gates make a full flush, which has no honor
only_flush : (honor suit gates total : Bool) → (gates ≡ true → suit ≡ true) → (suit && not honor) ≡ false → false ≡ (not honor && gates && total)
only_flush true suit gates total h e = refl
only_flush false suit false total h e = refl
only_flush false suit true total h e = absurd (subst T (sym (ap (λ (b : Bool). b && true) (h refl)) ∙ e) tt)

flush_honor : (honor suit : Bool) → (suit && not honor) ≡ true → honor ≡ false
flush_honor false suit e = refl
flush_honor true suit e = sym e ∙ and-false suit

-- not without a full flush
module _ (c : ℕ → ℕ) (flush : Bool) (e : flush ≡ chinitsu c) where
  pub not_without_flush : flush ≡ false → false ≡ nine_gates c
  unfolding chinitsu
  not_without_flush h = only_flush (some is_honor c) (one_suit c) (some_gates c) (fourteen c) (gates_one_suit c) (sym e ∙ h) ∙ sym (nine_gates_are c)

  no_honor : flush ≡ true → some is_honor c ≡ false
  unfolding chinitsu
  no_honor h = flush_honor (some is_honor c) (one_suit c) (sym e ∙ h)

  -- in one: not where no suit has the gates, else where there are 14 tiles
  module _ (k : flush ≡ true) (b : Bool) (f : b ≡ any (λ s. all_below 27 (gate c s)) suits) where
    by_suits : nine_gates c ≡ (b && fourteen c)
    by_suits = nine_gates_are c ∙ ap₂ (λ (x y : Bool). not x && y && fourteen c) (no_honor k) (sym (f ∙ three_gates))
      where
        three_gates : any (λ s. all_below 27 (gate c s)) suits ≡ some_gates c
        three_gates =
            ap (λ (x : Bool). all_below 27 (gate c 0) || (all_below 27 (gate c 1) || x)) (or-false (all_below 27 (gate c 2)))

    pub not_in_suits : b ≡ false → false ≡ nine_gates c
    not_in_suits n = sym (by_suits ∙ ap (λ (x : Bool). x && fourteen c) n)

    pub by_total : b ≡ true → fourteen c ≡ nine_gates c
    by_total y = sym (by_suits ∙ ap (λ (x : Bool). x && fourteen c) y)
