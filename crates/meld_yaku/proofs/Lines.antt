-- Three melds of four make a line, so one of the first two melds is part of it: to find a line it is enough to look at the lines
-- through the tiles of these two. Assumes nothing.
use mathlib.Core.Path.{◌≡◌, refl, sym, ap, ◌∙◌, subst}
use mathlib.Core.Logic.{◌⊎◌, inl, inr, ⊎_elim}
use mathlib.Core.Bool.{Bool, true, false, ◌&&◌, ◌||◌, or-false}
use mathlib.Core.List.{List, [], ◌∷◌}
use Prim.Native.Nat.{ℕ, zero, suc, ◌+◌, ◌%◌, ◌<◌, ◌≤◌}
use native.Mathlib.Omega.{arith}
use native.Mathlib.Decide.{ℕ_discrete}
use lib.Dec.{T, eqb, ltb, eqb→eq, ltb→lt, lt→ltb}
use lib.ListN.{length, take, get_or}
use Rattle.lists.specs.Fold.{all, any, up_from}
use Rattle.lists.proofs.Finite.{and_left, and_right, and_both, or_elim, or_left, or_right, T-eq}
use Rattle.meld.specs.declared.Meld.{Meld}
use Rattle.meld.specs.Meld.{is_sequence, is_triplet_or_kan}
use Rattle.meld_yaku.specs.Melds.{run_from, set_of}

-- ---- a question of one of n numbers from a on
module _ (p : ℕ → Bool) where
  any_at : (n a : ℕ) → T (any p (up_from n a)) → (k : ℕ) × (a ≤ k) × (k < a + n) × T (p k)
  any_at zero a t = absurd t
  any_at (suc n) a t =
      or_elim {C = (k : ℕ) × (a ≤ k) × (k < a + suc n) × T (p k)} (p a) _ t (λ h. (a, omega arith, omega arith, h))
      (λ h. let r = any_at n (suc a) h in let lo = r.1 in let hi = r.2 in (r.0, omega arith, omega arith, r.3))

  at_any : (n a k : ℕ) → a ≤ k → k < a + n → T (p k) → T (any p (up_from n a))
  at_any zero a k lo hi t = absurd (omega arith)
  at_any (suc n) a k lo hi t = go (ℕ_discrete a k) (at_any n (suc a) k)
    where
      go : Dec (a ≡ k) → (suc a ≤ k → k < suc a + n → T (p k) → T (any p (up_from n (suc a)))) → T (any p (up_from (suc n) a))
      go (yes e) rec = or_left (p a) _ (subst (λ (m : ℕ). T (p m)) (sym e) t)
      go (no e) rec = or_right (p a) _ (rec (omega arith) (omega arith) t)

-- ---- three different numbers are not all among two
not_all_three : (x y z c d : ℕ) → x < y → y < z → (x ≡ c) ⊎ (x ≡ d) → (y ≡ c) ⊎ (y ≡ d) → (z ≡ c) ⊎ (z ≡ d) → ⊥
not_all_three x y z c d h k i j l =
    ⊎_elim (λ e. ⊎_elim (λ f. omega arith) (λ f. ⊎_elim (λ g. omega arith) (λ g. omega arith) l) j)
    (λ e. ⊎_elim (λ f. ⊎_elim (λ g. omega arith) (λ g. omega arith) l) (λ f. omega arith) j) i

-- x, y, z ascend, and `at` gives each the number k of their line
abbrev pub Line : (ℕ → ℕ) → ℕ → ℕ → ℕ → ℕ → Type 0
Line at k x y z = (x < y) × (y < z) × (at x ≡ k) × (at y ≡ k) × (at z ≡ k)

-- ---- q asks for a meld with the tile
module _ (q : ℕ → Meld → Bool) (own : (t : ℕ) (m : Meld) → T (q t m) → t ≡ m.tile) where
  -- there is a meld for each tile of the line
  abbrev pub lined : List Meld → ℕ → ℕ → ℕ → Bool
  lined ms x y z = all (λ t. any (q t) ms) (x ∷ y ∷ z ∷ [])

  module _ (a b c d : Meld) where
    abbrev ms : List Meld
    ms = a ∷ b ∷ c ∷ d ∷ []

    -- the place of a meld with the tile: among the first two, or among the last two
    place : (t : ℕ) → T (any (q t) ms) → ((t ≡ a.tile) ⊎ (t ≡ b.tile)) ⊎ ((t ≡ c.tile) ⊎ (t ≡ d.tile))
    place t h =
        or_elim (q t a) _ h (λ i. inl (inl (own t a i)))
        (λ h. or_elim (q t b) _ h (λ i. inl (inr (own t b i)))
        (λ h. or_elim (q t c) _ h (λ i. inr (inl (own t c i))) (λ h. or_elim (q t d) false h (λ i. inr (inr (own t d i))) (λ i. absurd i))))

    -- the line k goes through the tile of one of the first two melds
    module _ (at : ℕ → ℕ) (k : ℕ) where
      early : (t : ℕ) → at t ≡ k → (t ≡ a.tile) ⊎ (t ≡ b.tile) → (at a.tile ≡ k) ⊎ (at b.tile ≡ k)
      early t e = ⊎_elim (λ i. inl (sym (ap at i) ∙ e)) (λ i. inr (sym (ap at i) ∙ e))

      through : (x y z : ℕ) → Line at k x y z → T (lined ms x y z) → (at a.tile ≡ k) ⊎ (at b.tile ≡ k)
      through x y z l t =
          ⊎_elim (early x l.2)
          (λ i. ⊎_elim (early y l.3)
          (λ j. ⊎_elim (early z l.4) (λ m. absurd (not_all_three x y z c.tile d.tile l.0 l.1 i j m)) (place z hz))
          (place y hy))
          (place x (and_left (any (q x) ms) _ t))
        where
          rest : T (any (q y) ms && (any (q z) ms && true))
          rest = and_right (any (q x) ms) _ t

          hy : T (any (q y) ms)
          hy = and_left (any (q y) ms) _ rest

          hz : T (any (q z) ms)
          hz = and_left (any (q z) ms) true (and_right (any (q y) ms) _ rest)

  -- ---- n lines, of the numbers below n
  module _ (at f g h : ℕ → ℕ) (n : ℕ) (line : (k : ℕ) → k < n → Line at k (f k) (g k) (h k)) where
    -- k is the number of a line, and the line is there
    abbrev pub on_line : List Meld → ℕ → Bool
    on_line ms k = ltb k n && lined ms (f k) (g k) (h k)

    -- some line is there
    abbrev pub any_of : List Meld → Bool
    any_of ms = any (λ k. lined ms (f k) (g k) (h k)) (up_from n 0)

    there : (ms : List Meld) (k : ℕ) → T (on_line ms k) → T (any_of ms)
    there ms k t =
        let i = ltb→lt k n (and_left (ltb k n) _ t) in
        at_any (λ k. lined ms (f k) (g k) (h k)) n 0 k (omega arith) (omega arith) (and_right (ltb k n) _ t)

    here : (ms : List Meld) (k m : ℕ) → m ≡ k → k < n → T (lined ms (f k) (g k) (h k)) → T (on_line ms m)
    here ms k m e i t = subst (λ (u : ℕ). T (on_line ms u)) (sym e) (and_both (ltb k n) _ (lt→ltb k n i) t)

    of_four :
        (a b c d : Meld) (l : List Meld) → l ≡ ms a b c d
        → (on_line l (at a.tile) || on_line l (at b.tile)) ≡ any_of l
    of_four a b c d l e =
        T-eq (on_line l (at a.tile) || on_line l (at b.tile)) (any_of l)
        (λ t. or_elim (on_line l (at a.tile)) _ t (there l (at a.tile)) (there l (at b.tile)))
        (λ t. found (any_at (λ k. lined l (f k) (g k) (h k)) n 0 t))
      where
        found : (k : ℕ) × (0 ≤ k) × (k < 0 + n) × T (lined l (f k) (g k) (h k)) → T (on_line l (at a.tile) || on_line l (at b.tile))
        found r =
            let k = r.0 in
            let hi = r.2 in
            let i : k < n = omega arith in
            ⊎_elim (λ e. or_left (on_line l (at a.tile)) _ (here l k (at a.tile) e i r.3))
            (λ e. or_right (on_line l (at a.tile)) _ (here l k (at b.tile) e i r.3))
            (through a b c d at k (f k) (g k) (h k) (line k i) (subst (λ (l : List Meld). T (lined l (f k) (g k) (h k))) e r.3))

    -- some line is there exactly if one through the first or the second meld's tile is
    pub first_two : (l : List Meld) → length l ≡ 4 → any (λ m. on_line l (at m.tile)) (take 2 l) ≡ any_of l
    first_two [] e = absurd (omega arith)
    first_two (a ∷ []) e = absurd (omega arith)
    first_two (a ∷ b ∷ []) e = absurd (omega arith)
    first_two (a ∷ b ∷ c ∷ []) e = absurd (omega arith)
    first_two (a ∷ b ∷ c ∷ d ∷ []) e =
        let l = ms a b c d in
        ap (λ (x : Bool). on_line l (at a.tile) || x) (or-false (on_line l (at b.tile))) ∙ of_four a b c d l refl
    first_two (a ∷ b ∷ c ∷ d ∷ f ∷ l) e = absurd (omega arith)

-- ---- sequences and sets have the tile that is asked for
pub run_own : (t : ℕ) (m : Meld) → T (run_from t m) → t ≡ m.tile
run_own t m h = eqb→eq t m.tile (and_right (is_sequence m) _ h)

pub set_own : (t : ℕ) (m : Meld) → T (set_of (eqb t) m) → t ≡ m.tile
set_own t m h = eqb→eq t m.tile (and_right (is_triplet_or_kan m) _ h)

-- ---- the line of a number in the three suits
pub of_number : (k : ℕ) → k < 9 → Line (λ t. t % 9) k k (k + 9) (k + 18)
of_number k h = (omega arith, omega arith, omega arith, omega arith, omega arith)

-- ---- the tiles of the first two melds
module _ (ms : List Meld) (m : Meld) where
  abbrev pub first : ℕ
  first = (get_or ms 0 m).tile

  abbrev pub second : ℕ
  second = (get_or ms 1 m).tile
