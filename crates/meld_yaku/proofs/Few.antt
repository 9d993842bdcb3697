-- Fewer melds pass a question than pass a wider one; so with fewer than three triplets and kans there are not three of any sort of them.
-- Assumes nothing.
use mathlib.Core.Path.{◌≡◌, sym, subst, refl}
use mathlib.Core.Bool.{Bool, true, false, ◌&&◌, ◌||◌}
use mathlib.Core.List.{List, [], ◌∷◌}
use Prim.Native.Nat.{ℕ, suc, ◌+◌, ◌≤◌}
use native.Mathlib.Omega.{arith}
use lib.Dec.{T, eqb, leb, lit≤}
use lib.ListN.{length}
use borrow.Author.Tests.{leb-false, ne_eqb}
use Rattle.lists.specs.Fold.{all, any, count, one}
use Rattle.meld.specs.declared.Meld.{Meld}
use Rattle.meld.specs.Meld.{is_triplet_or_kan}

-- ---- every meld that passes p passes q
module _ (p q : Meld → Bool) (wider : (m : Meld) → T (p m) → T (q m)) where
  one_fewer : (a b : Bool) → (T a → T b) → one a ≤ one b
  one_fewer false true h = lit≤ tt
  one_fewer false false h = lit≤ tt
  one_fewer true true h = lit≤ tt
  one_fewer true false h = absurd (h tt)

  pub count_fewer : (ms : List Meld) → count p ms ≤ count q ms
  count_fewer [] = lit≤ tt
  count_fewer (m ∷ ms) = let first = one_fewer (p m) (q m) (wider m) in let rest = count_fewer ms in omega arith

pub any_none : (q : Meld → Bool) (ms : List Meld) → any q ms ≡ false → count q ms ≡ 0
any_none q [] e = refl
any_none q (m ∷ ms) e = go (q m) e (any_none q ms)
  where
    go : (b : Bool) → (b || any q ms) ≡ false → (any q ms ≡ false → count q ms ≡ 0) → one b + count q ms ≡ 0
    go true e rest = absurd (subst T e tt)
    go false e rest = let f = rest e in omega arith

pub all_count : (q : Meld → Bool) (ms : List Meld) → all q ms ≡ true → count q ms ≡ length ms
all_count q [] e = refl
all_count q (m ∷ ms) e = go (q m) e (all_count q ms)
  where
    go : (b : Bool) → (b && all q ms) ≡ true → (all q ms ≡ true → count q ms ≡ length ms) → one b + count q ms ≡ suc (length ms)
    go true e rest = let f = rest e in omega arith
    go false e rest = absurd (subst T (sym e) tt)

-- ---- fewer than three triplets and kans
module _ (ms : List Meld) (few : leb 3 (count is_triplet_or_kan ms) ≡ false) where
  pub at_most_two : count is_triplet_or_kan ms ≤ 2
  at_most_two = let f = leb-false 3 (count is_triplet_or_kan ms) few in omega arith

  pub too_few : (p : Meld → Bool) → ((m : Meld) → T (p m) → T (is_triplet_or_kan m)) → (n : ℕ) → 3 ≤ n → eqb (count p ms) n ≡ false
  too_few p wider n h =
      let less = count_fewer p is_triplet_or_kan wider ms in
      let two = at_most_two in
      ne_eqb (count p ms) n (λ e. omega arith)
