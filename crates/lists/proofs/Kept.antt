-- What a test keeps of a list, and ascending lists with the same members. Assumes nothing.
use mathlib.Core.Path.{◌≡◌, refl, sym, ap, ap₂, ◌∙◌, subst}
use mathlib.Core.Logic.{◌⊎◌, inl, inr, ⊎_elim}
use mathlib.Core.Bool.{Bool, true, false, cond}
use mathlib.Core.List.Memᴰ
use mathlib.Core.List.{List, [], ◌∷◌, ◌++◌, Memᴰ}
use Prim.Native.Nat.{ℕ, ◌<◌}
use native.Mathlib.Omega.{arith}
use lib.Dec.{T}
use Rattle.std.proofs.lemmas.Option.{none-some, same_Some}
use Rattle.std.specs.List.{find}
use Rattle.std.specs.Option.{option_to_list}
use Rattle.std.specs.Prelude.{Some}
use Rattle.lists.specs.Fold.{keep}
use Rattle.lists.specs.Order.{Pick, done, skip, pick, Nodup, Pairwise}
use Rattle.lists.proofs.Finite.{¬T→false}
use Rattle.lists.proofs.Members.{flat_mem, flat_in, in_cond, in_true, in_single, nodup_flat, cond_nodup, nodup_single}
use Rattle.lists.proofs.Relations.{pairwise_flat, pairwise_single, cond_pairwise}

module _ {A : Type 0} (p : A → Bool) where
  pub in_keep : {l : List A} {a : A} → Memᴰ a l → T (p a) → Memᴰ a (keep p l)
  in_keep {a = a} i t = flat_in (λ a. cond (p a) (a ∷ []) []) i (in_true (p a) (a ∷ []) t (Memᴰ.head refl))

  pub kept : (l : List A) {a : A} → Memᴰ a (keep p l) → Memᴰ a l × T (p a)
  kept l {a} i =
      let r = flat_mem (λ a. cond (p a) (a ∷ []) []) l i in
      let e = in_single (p r.0) r.2 in
      (subst (λ (b : A). Memᴰ b l) (sym e) r.1, subst (λ (b : A). T (p b)) (sym e) (in_cond (p r.0) (r.0 ∷ []) r.2).0)

  pub keep_nodup : (l : List A) → Nodup l → Nodup (keep p l)
  keep_nodup l n =
      nodup_flat (λ a. cond (p a) (a ∷ []) []) l n (λ a i. cond_nodup (p a) (a ∷ []) (nodup_single a))
      (λ a b x i j. sym (in_single (p a) i) ∙ in_single (p b) j)

  pub keep_none : (l : List A) → ((a : A) → Memᴰ a l → T (p a) → ⊥) → keep p l ≡ []
  keep_none [] f = refl
  keep_none (a ∷ l) f =
      ap (λ (b : Bool). cond b (a ∷ []) [] ++ keep p l) (¬T→false (p a) (f a (Memᴰ.head refl)))
      ∙ keep_none l (λ b i. f b (Memᴰ.tail i))

  -- where no two members pass, it is the first that does
  pub keep_first : (l : List A) → Nodup l → ((a b : A) → Memᴰ a l → Memᴰ b l → T (p a) → T (p b) → a ≡ b) → keep p l ≡ option_to_list (find p l)
  keep_first [] n one = refl
  keep_first (a ∷ l) n one = go (p a) (one a) (keep_first l n.1 (λ b c i j. one b c (Memᴰ.tail i) (Memᴰ.tail j)))
    where
      go :
          (x : Bool) → ((b : A) → Memᴰ a (a ∷ l) → Memᴰ b (a ∷ l) → T x → T (p b) → a ≡ b) → keep p l ≡ option_to_list (find p l)
          → cond x (a ∷ []) [] ++ keep p l ≡ option_to_list (cond x (Some a) (find p l))
      go true only e =
          ap (λ (r : List A). a ∷ r)
          (keep_none l (λ b i t. n.0 (Memᴰ.cast (only b (Memᴰ.head refl) (Memᴰ.tail i) tt t) i)))
      go false only e = e

  -- the first that passes is a member
  pub find_in : (l : List A) {a : A} → Some a ≡ find p l → Memᴰ a l
  find_in [] e = absurd (none-some _ (sym e))
  find_in (x ∷ l) {a} e = go (p x) e (find_in l)
    where
      go : (b : Bool) → Some a ≡ cond b (Some x) (find p l) → (Some a ≡ find p l → Memᴰ a l) → Memᴰ a (x ∷ l)
      go true e r = Memᴰ.head (same_Some a x e)
      go false e r = Memᴰ.tail (r e)

  -- it is ascending and out of the list
  pub keep_pick : (l : List A) → Pick l (keep p l)
  keep_pick [] = done
  keep_pick (a ∷ l) = go (p a) (keep_pick l)
    where
      go : (b : Bool) → Pick l (keep p l) → Pick (a ∷ l) (cond b (a ∷ []) [] ++ keep p l)
      go true d = pick refl (skip d)
      go false d = skip d

pub keep_ascends : (p : ℕ → Bool) (l : List ℕ) → Pairwise ◌<◌ l → Pairwise ◌<◌ (keep p l)
keep_ascends p l c =
    pairwise_flat ◌<◌ ◌<◌ (λ t. cond (p t) (t ∷ []) []) l c (λ t. cond_pairwise ◌<◌ (p t) (t ∷ []) (pairwise_single ◌<◌ t))
    (λ a b x y h i j. let e = in_single (p a) i in let f = in_single (p b) j in omega arith)

pub ascending_nodup : (l : List ℕ) → Pairwise ◌<◌ l → Nodup l
ascending_nodup [] c = tt
ascending_nodup (x ∷ l) c = (λ i. let h = c.0 x i in absurd (omega arith), ascending_nodup l c.1)

-- two ascending lists with the same members have the same head
same_head : (x y : ℕ) (a b : List ℕ) → Pairwise ◌<◌ (x ∷ a) → Pairwise ◌<◌ (y ∷ b) → Memᴰ x (y ∷ b) → Memᴰ y (x ∷ a) → x ≡ y
same_head x y a b c d i j = go (Memᴰ.cases_cons i) (Memᴰ.cases_cons j)
  where
    go : (x ≡ y) ⊎ Memᴰ x b → (y ≡ x) ⊎ Memᴰ y a → x ≡ y
    go (inl e) s = e
    go (inr i) (inl e) = sym e
    go (inr i) (inr j) = let h = c.0 y j in let k = d.0 x i in absurd (omega arith)

-- a member of the tail, which is above the head, is in the other's tail
in_tail : (x y : ℕ) (a b : List ℕ) → Pairwise ◌<◌ (x ∷ a) → x ≡ y → (z : ℕ) → Memᴰ z a → Memᴰ z (y ∷ b) → Memᴰ z b
in_tail x y a b c e z i j = ⊎_elim (λ f. let h = c.0 z i in absurd (omega arith)) (λ k. k) (Memᴰ.cases_cons j)

pub ascending_eq :
    (a b : List ℕ) → Pairwise ◌<◌ a → Pairwise ◌<◌ b → ((x : ℕ) → Memᴰ x a → Memᴰ x b) → ((x : ℕ) → Memᴰ x b → Memᴰ x a) → a ≡ b
ascending_eq [] [] c d f g = refl
ascending_eq [] (y ∷ b) c d f g = absurd (Memᴰ.not-nil (g y (Memᴰ.head refl)))
ascending_eq (x ∷ a) [] c d f g = absurd (Memᴰ.not-nil (f x (Memᴰ.head refl)))
ascending_eq (x ∷ a) (y ∷ b) c d f g =
    let e = same_head x y a b c d (f x (Memᴰ.head refl)) (g y (Memᴰ.head refl)) in
    ap₂ ◌∷◌ e
    (ascending_eq a b c.1 d.1 (λ z i. in_tail x y a b c e z i (f z (Memᴰ.tail i))) (λ z i. in_tail y x b a d (sym e) z i (g z (Memᴰ.tail i))))
