-- Ascending lists, and each element as often as it stands in a list, in the order of a list of candidates. Assumes nothing.
use mathlib.Core.Path.{◌≡◌, refl, sym, ap, ap₂, ◌∙◌, subst}
use mathlib.Core.Logic.{◌⊎◌, inl, inr, ⊎_elim}
use mathlib.Core.Bool.{Bool, true, false, not}
use mathlib.Core.List.Memᴰ
use mathlib.Core.List.Permᴰ
use mathlib.Core.List.{List, [], ◌∷◌, ◌++◌, Memᴰ, Permᴰ}
use Prim.Native.Nat.{ℕ, zero, suc}
use native.Mathlib.Omega.{arith}
use lib.Dec.{T, T_not}
use lib.ListN.{replicate}
use Rattle.lists.specs.Fold.{any, one}
use Rattle.lists.specs.Order.{Pick, done, skip, pick, Nodup, times, arrange, distinct}
use Rattle.lists.proofs.Finite.{and_left, and_right, T→true, ¬T→false, or_elim, or_left, or_right}
use Rattle.lists.proofs.Permuted.{total_perm, map_perm}

module _ {A : Type 0} where
  pub pick_head : {ms l : List A} {x : A} → Pick ms (x ∷ l) → Memᴰ x ms
  pick_head (skip d) = Memᴰ.tail (pick_head d)
  pick_head (pick q d) = Memᴰ.head q

  pub pick_mem : {ms l : List A} {x : A} → Pick ms l → Memᴰ x l → Memᴰ x ms
  pick_mem done i = absurd (Memᴰ.not-nil i)
  pick_mem (skip d) i = Memᴰ.tail (pick_mem d i)
  pick_mem (pick q d) i = ⊎_elim (λ e. Memᴰ.head (e ∙ q)) (λ j. pick_mem d j) (Memᴰ.cases_cons i)

  repeat_pick : (n : ℕ) {m : A} {ms l : List A} → Pick (m ∷ ms) l → Pick (m ∷ ms) (replicate n m ++ l)
  repeat_pick zero d = d
  repeat_pick (suc n) d = pick refl (repeat_pick n d)

module _ {A : Type 0} (eq : A → A → Bool) where
  -- two lists of which each candidate stands equally often in both
  pub arranged_alike : (ms a b : List A) → ((m : A) → Memᴰ m ms → times eq m a ≡ times eq m b) → arrange eq ms a ≡ arrange eq ms b
  arranged_alike [] a b e = refl
  arranged_alike (m ∷ ms) a b e =
      ap₂ (λ (n : ℕ) (r : List A). replicate n m ++ r) (e m (Memᴰ.head refl)) (arranged_alike ms a b (λ x i. e x (Memᴰ.tail i)))

module _ {A : Type 0} (eq : A → A → Bool) (sound : (a b : A) → T (eq a b) → a ≡ b) (self : (a : A) → T (eq a a)) where
  eq_true : {m x : A} → x ≡ m → eq m x ≡ true
  eq_true {m} {x} e = T→true (eq m x) (subst (λ (y : A). T (eq m y)) (sym e) (self m))

  eq_false : {m x : A} → (x ≡ m → ⊥) → eq m x ≡ false
  eq_false {m} {x} f = ¬T→false (eq m x) (λ t. f (sym (sound m x t)))

  pub times_perm : (m : A) {a b : List A} → Permᴰ a b → times eq m a ≡ times eq m b
  times_perm m d = total_perm (map_perm (λ x. one (eq m x)) d)

  -- the same list in another order is arranged alike
  pub arrange_same : (ms : List A) {a b : List A} → Permᴰ a b → arrange eq ms a ≡ arrange eq ms b
  arrange_same ms {a} {b} d = arranged_alike eq ms a b (λ m i. times_perm m d)

  -- ---- an element more
  pub times_yes : {m x : A} (l : List A) → x ≡ m → times eq m (x ∷ l) ≡ suc (times eq m l)
  times_yes {m} {x} l e = let h : one (eq m x) ≡ 1 = ap one (eq_true e) in omega arith

  times_no : {m x : A} (l : List A) → (x ≡ m → ⊥) → times eq m (x ∷ l) ≡ times eq m l
  times_no {m} {x} l f = let h : one (eq m x) ≡ 0 = ap one (eq_false f) in omega arith

  arrange_out : (ms : List A) {x : A} (l : List A) → (Memᴰ x ms → ⊥) → arrange eq ms (x ∷ l) ≡ arrange eq ms l
  arrange_out [] l f = refl
  arrange_out (m ∷ ms) l f =
      ap₂ (λ (n : ℕ) (r : List A). replicate n m ++ r) (times_no l (λ e. f (Memᴰ.head e))) (arrange_out ms l (λ i. f (Memᴰ.tail i)))

  arrange_head : (m : A) (ms : List A) {x : A} (l : List A) → (Memᴰ m ms → ⊥) → x ≡ m → arrange eq (m ∷ ms) (x ∷ l) ≡ m ∷ arrange eq (m ∷ ms) l
  arrange_head m ms l f e =
      ap₂ (λ (n : ℕ) (r : List A). replicate n m ++ r) (times_yes l e) (arrange_out ms l (λ i. f (Memᴰ.cast (sym e) i)))

  arrange_more : (ms : List A) {x : A} (l : List A) → Nodup ms → Memᴰ x ms → Permᴰ (arrange eq ms (x ∷ l)) (x ∷ arrange eq ms l)
  arrange_more [] l n i = absurd (Memᴰ.not-nil i)
  arrange_more (m ∷ ms) {x} l n i = go (arrange_more ms l n.1) (Memᴰ.cases_cons i)
    where
      go : (Memᴰ x ms → Permᴰ (arrange eq ms (x ∷ l)) (x ∷ arrange eq ms l)) → (x ≡ m) ⊎ Memᴰ x ms → Permᴰ (arrange eq (m ∷ ms) (x ∷ l)) (x ∷ arrange eq (m ∷ ms) l)
      go rec (inl e) =
          subst (λ (r : List A). Permᴰ r (x ∷ arrange eq (m ∷ ms) l)) (sym (arrange_head m ms l n.0 e))
          (Permᴰ.cons (sym e) (Permᴰ.refl (arrange eq (m ∷ ms) l)))
      go rec (inr j) =
          subst (λ (k : ℕ). Permᴰ (replicate k m ++ arrange eq ms (x ∷ l)) (x ∷ arrange eq (m ∷ ms) l))
          (sym (times_no l (λ e. n.0 (Memᴰ.cast (sym e) j))))
          (Permᴰ.trans (Permᴰ.append_left (replicate (times eq m l) m) (rec j)) (Permᴰ.middle x (replicate (times eq m l) m) (arrange eq ms l)))

  arrange_none : (ms : List A) → arrange eq ms [] ≡ []
  arrange_none [] = refl
  arrange_none (m ∷ ms) = arrange_none ms

  -- a list of candidates, arranged, is the list in another order
  pub arrange_perm : (ms : List A) → Nodup ms → (l : List A) → ((x : A) → Memᴰ x l → Memᴰ x ms) → Permᴰ (arrange eq ms l) l
  arrange_perm ms n [] f = subst (λ (r : List A). Permᴰ r []) (sym (arrange_none ms)) Permᴰ.nil
  arrange_perm ms n (x ∷ l) f =
      Permᴰ.trans (arrange_more ms l n (f x (Memᴰ.head refl)))
      (Permᴰ.cons refl (arrange_perm ms n l (λ y i. f y (Memᴰ.tail i))))

  -- ---- an arranged list is ascending
  pub arrange_pick : (ms l : List A) → Pick ms (arrange eq ms l)
  arrange_pick [] l = done
  arrange_pick (m ∷ ms) l = repeat_pick (times eq m l) (skip (arrange_pick ms l))

  -- ---- and an ascending list is arranged
  pub times_zero : (m : A) (l : List A) → (Memᴰ m l → ⊥) → times eq m l ≡ 0
  times_zero m [] f = refl
  times_zero m (x ∷ l) f = times_no l (λ e. f (Memᴰ.head (sym e))) ∙ times_zero m l (λ i. f (Memᴰ.tail i))

  pub arrange_id : {ms l : List A} → Pick ms l → Nodup ms → arrange eq ms l ≡ l
  arrange_id {ms} done n = arrange_none ms
  arrange_id (skip {m = m} {ms = ms} {l = l} d) n =
      ap₂ (λ (k : ℕ) (r : List A). replicate k m ++ r) (times_zero m l (λ i. n.0 (pick_mem d i))) (arrange_id d n.1)
  arrange_id (pick {m = m} {x = x} {ms = ms} {l = l} q d) n = arrange_head m ms l n.0 q ∙ ap₂ ◌∷◌ (sym q) (arrange_id d n)

  -- ---- tests
  pub any_mem : (m : A) (l : List A) → T (any (eq m) l) → Memᴰ m l
  any_mem m [] t = absurd t
  any_mem m (x ∷ l) t =
      or_elim (eq m x) (any (eq m) l) t (λ s. Memᴰ.head (sound m x s)) (λ s. Memᴰ.tail (any_mem m l s))

  pub any_in : {m : A} {l : List A} → Memᴰ m l → T (any (eq m) l)
  any_in {m} (Memᴰ.head {x = x} {xs = xs} e) =
      or_left (eq m x) (any (eq m) xs) (subst (λ (y : A). T (eq m y)) e (self m))
  any_in {m} (Memᴰ.tail {x = x} {xs = xs} i) = or_right (eq m x) (any (eq m) xs) (any_in i)

  pub distinct_nodup : (l : List A) → T (distinct eq l) → Nodup l
  distinct_nodup [] t = tt
  distinct_nodup (m ∷ l) t =
      (λ i. T_not (any (eq m) l) (and_left (not (any (eq m) l)) _ t) (any_in i), distinct_nodup l (and_right (not (any (eq m) l)) _ t))
