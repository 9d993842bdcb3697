-- Sums over a list. Assumes nothing.
use mathlib.Core.Path.{◌≡◌, refl, sym, ap, ◌∙◌}
use mathlib.Core.Logic.{⊎_elim}
use mathlib.Core.Bool.{Bool}
use mathlib.Core.List.Memᴰ
use mathlib.Core.List.{List, [], ◌∷◌, ◌++◌, Memᴰ}
use Prim.Native.Nat.{ℕ, ◌+◌, ◌*◌, ◌%◌, ◌≤◌}
use native.Mathlib.Nat.{mul-add, mul-suc}
use native.Mathlib.Omega.{arith}
use lib.ListN.{length}
use Rattle.lists.specs.Fold.{sum, count, one, total}
use Rattle.lists.specs.Order.{Nodup}
use Rattle.lists.proofs.Finite.{one_le}
use Rattle.lists.proofs.Members.{map_members}

module _ {A : Type 0} where
  pub sum_append : (f : A → ℕ) (k l : List A) → sum f (k ++ l) ≡ sum f k + sum f l
  sum_append f [] l = omega arith
  sum_append f (a ∷ k) l = let e = sum_append f k l in omega arith

  -- no member's number is above the sum
  pub sum_in : (f : A → ℕ) {a : A} {l : List A} → Memᴰ a l → f a ≤ sum f l
  sum_in f (Memᴰ.head e) = let h = ap f e in omega arith
  sum_in f (Memᴰ.tail i) = let h = sum_in f i in omega arith

  pub sum_zero : (l : List A) → sum (λ (a : A). 0) l ≡ 0
  sum_zero [] = refl
  sum_zero (a ∷ l) = let e = sum_zero l in omega arith

  pub sum_ones : (l : List A) → sum (λ (a : A). 1) l ≡ length l
  sum_ones [] = refl
  sum_ones (a ∷ l) = let e = sum_ones l in omega arith

  pub sum_plus : (f g : A → ℕ) (l : List A) → sum (λ a. f a + g a) l ≡ sum f l + sum g l
  sum_plus f g [] = refl
  sum_plus f g (a ∷ l) = let e = sum_plus f g l in omega arith

  pub sum_times : (k : ℕ) (f : A → ℕ) (l : List A) → k * sum f l ≡ sum (λ a. k * f a) l
  sum_times k f [] = omega arith
  sum_times k f (a ∷ l) = mul-add k (f a) (sum f l) ∙ ap (λ (n : ℕ). k * f a + n) (sum_times k f l)

  -- each at most b
  pub sum_le : (f : A → ℕ) (b : ℕ) → ((a : A) → f a ≤ b) → (l : List A) → sum f l ≤ b * length l
  sum_le f b h [] = omega arith
  sum_le f b h (a ∷ l) =
      let i = h a in
      let k = sum_le f b h l in
      let e = mul-suc b (length l) in
      omega arith

  pub count_le : (p : A → Bool) (l : List A) → count p l ≤ length l
  count_le p l = let h = sum_le (λ a. one (p a)) 1 (λ a. one_le (p a)) l in omega arith

  -- each a multiple of 3
  pub sum_threes : (f : A → ℕ) (l : List A) → ((a : A) → Memᴰ a l → f a % 3 ≡ 0) → sum f l % 3 ≡ 0
  sum_threes f [] h = refl
  sum_threes f (a ∷ l) h =
      let e = h a (Memᴰ.head refl) in
      let r = sum_threes f l (λ b i. h b (Memᴰ.tail i)) in
      omega arith

  -- two functions that agree on a list but for one member, where one is more by k
  pub sum_more :
      (f g : A → ℕ) (k : ℕ) (p : A) (l : List A) → Nodup l → Memᴰ p l → f p ≡ k + g p
      → ((a : A) → (a ≡ p → ⊥) → f a ≡ g a) → sum f l ≡ k + sum g l
  sum_more f g k p [] d i e same = absurd (Memᴰ.not-nil i)
  sum_more f g k p (a ∷ l) d i e same = ⊎_elim here (λ j. there j (sum_more f g k p l d.1 j e same)) (Memᴰ.cases_cons i)
    where
      here : p ≡ a → sum f (a ∷ l) ≡ k + sum g (a ∷ l)
      here x =
          let y : f a ≡ k + g a = sym (ap f x) ∙ e ∙ ap (λ (b : A). k + g b) x in
          let z = ap total (map_members f g l (λ b j. same b (λ w. d.0 (Memᴰ.cast (sym (w ∙ x)) j)))) in
          omega arith

      there : Memᴰ p l → sum f l ≡ k + sum g l → sum f (a ∷ l) ≡ k + sum g (a ∷ l)
      there j z = let y = same a (λ w. d.0 (Memᴰ.cast w j)) in omega arith

pub sum_exchange : {A B : Type 0} (f : A → B → ℕ) (l : List A) (m : List B) → sum (λ b. sum (λ a. f a b) l) m ≡ sum (λ a. sum (f a) m) l
sum_exchange f [] m = sum_zero m
sum_exchange f (a ∷ l) m = sum_plus (f a) (λ b. sum (λ a. f a b) l) m ∙ ap (λ (n : ℕ). sum (f a) m + n) (sum_exchange f l m)
