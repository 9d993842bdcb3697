-- A test at each number below a bound, or at some number, taken one number at a time; and over the 34 tiles. Assumes nothing.
use mathlib.Core.Path.{◌≡◌, refl, sym, subst, ap, ap₂, ◌∙◌}
use mathlib.Core.Bool.{Bool, true, false, ◌&&◌, ◌||◌, and-true, and_comm, and_assoc, or-true, or-false, or_comm, or_assoc}
use mathlib.Core.List.{List, [], ◌∷◌}
use Prim.Native.Nat.{ℕ, zero, suc, ◌+◌, ◌<◌, ◌≤◌}
use native.Mathlib.Numerals.{add-one}
use native.Mathlib.Decide.{ℕ_discrete}
use native.Mathlib.Omega.{arith}
use lib.Dec.{T}
use Rattle.lists.specs.Fold.{all, any, all_below, up_to}
use Rattle.lists.proofs.Finite.{at}
use Rattle.tile.specs.Tile.{tiles}

-- the test p passes at some number below n
abbrev pub some_below : ℕ → (ℕ → Bool) → Bool
some_below zero p = false
some_below (suc n) p = p n || some_below n p

module _ (p : ℕ → Bool) where
  -- ---- each number passes: one more, and one that does not pass
  pub all_on : (i : ℕ) → all_below i p ≡ true → p i ≡ true → all_below (i + 1) p ≡ true
  all_on i e f = rw add-one (ap₂ ◌&&◌ f e)

  pub all_bad : (n i : ℕ) → i < n → p i ≡ false → all_below n p ≡ false
  all_bad n i h f = go (all_below n p) refl
    where
      go : (b : Bool) → all_below n p ≡ b → b ≡ false
      go false e = refl
      go true e = absurd (subst T f (at n p (subst T (sym e) tt) i h))

  -- ---- some number passes: one more, one that does not pass, one that does, and none
  pub some_next : (n : ℕ) → some_below (n + 1) p ≡ (p n || some_below n p)
  some_next n = rw add-one

  pub some_on : (n : ℕ) → p n ≡ true → some_below (n + 1) p ≡ true
  some_on n e = some_next n ∙ ap (λ (b : Bool). b || some_below n p) e

  pub some_same : (n : ℕ) → p n ≡ false → some_below (n + 1) p ≡ some_below n p
  some_same n e = some_next n ∙ ap (λ (b : Bool). b || some_below n p) e

  pub some_of : (n m : ℕ) → n < m → p n ≡ true → some_below m p ≡ true
  some_of n zero h e = absurd (omega arith)
  some_of n (suc m) h e = go (ℕ_discrete n m) (some_of n m)
    where
      go : Dec (n ≡ m) → (n < m → p n ≡ true → some_below m p ≡ true) → (p m || some_below m p) ≡ true
      go (yes q) r = ap (λ (b : Bool). b || some_below m p) (subst (λ (k : ℕ). p k ≡ true) q e)
      go (no q) r = ap (λ (b : Bool). p m || b) (r (omega arith) e) ∙ or-true (p m)

  pub some_none : (n : ℕ) → ((k : ℕ) → k < n → p k ≡ false) → some_below n p ≡ false
  some_none zero h = refl
  some_none (suc n) h = ap₂ ◌||◌ (h n (omega arith)) (some_none n (λ k i. h k (omega arith)))

  -- ---- over the tiles
  all_up : (n : ℕ) (l : List ℕ) → all p (up_to n l) ≡ (all_below n p && all p l)
  all_up zero l = refl
  all_up (suc n) l =
      all_up n (n ∷ l) ∙ sym (and_assoc (all_below n p) (p n) (all p l))
      ∙ ap (λ (b : Bool). b && all p l) (and_comm (all_below n p) (p n))

  any_up : (n : ℕ) (l : List ℕ) → any p (up_to n l) ≡ (some_below n p || any p l)
  any_up zero l = refl
  any_up (suc n) l =
      any_up n (n ∷ l) ∙ sym (or_assoc (some_below n p) (p n) (any p l))
      ∙ ap (λ (b : Bool). b || any p l) (or_comm (some_below n p) (p n))

  pub all_tiles : all p tiles ≡ all_below 34 p
  all_tiles = all_up 34 [] ∙ and-true (all_below 34 p)

  pub any_tiles : any p tiles ≡ some_below 34 p
  any_tiles = any_up 34 [] ∙ or-false (some_below 34 p)

  -- ---- a flag that says whether some number passed so far: one more number, and the last tile
  pub flag_on : (i : ℕ) (b x : Bool) → b ≡ some_below i p → x ≡ p i → (b || x) ≡ some_below (i + 1) p
  flag_on i b x e f = ap₂ ◌||◌ e f ∙ or_comm (some_below i p) (p i) ∙ sym (some_next i)

  pub flag_end : (i : ℕ) (b : Bool) → 34 ≤ i → i ≤ 34 → b ≡ some_below i p → b ≡ any p tiles
  flag_end i b h k e = let q : i ≡ 34 = omega arith in e ∙ ap (λ (n : ℕ). some_below n p) q ∙ sym any_tiles
