-- Lists in which each element stands in a relation to each later one. Assumes nothing.
use mathlib.Core.Path.{refl, sym, subst}
use mathlib.Core.Logic.{⊎_elim}
use mathlib.Core.Bool.{Bool, true, false, ◌&&◌, cond}
use mathlib.Core.List.Memᴰ
use mathlib.Core.List.{List, [], ◌∷◌, ◌++◌, map, Memᴰ}
use Prim.Native.Nat.{ℕ, ◌<◌}
use native.Mathlib.Nat.{lt_trans, lt_irrefl}
use lib.Dec.{T, ltb, ltb→lt}
use Rattle.lists.specs.Fold.{flat}
use Rattle.lists.specs.Order.{Nodup, Pairwise}
use Rattle.lists.proofs.Finite.{and_left, and_right}
use Rattle.lists.proofs.Members.{flat_mem}

module _ {A : Type 0} (R : A → A → Type 0) where
  pub pairwise_append : (l m : List A) → Pairwise R l → Pairwise R m → ((x y : A) → Memᴰ x l → Memᴰ y m → R x y) → Pairwise R (l ++ m)
  pairwise_append [] m a b f = b
  pairwise_append (x ∷ l) m a b f =
      (λ y i. ⊎_elim (a.0 y) (f x y (Memᴰ.head refl)) (Memᴰ.append_cases l i), pairwise_append l m a.1 b (λ z y i. f z y (Memᴰ.tail i)))

module _ {A B : Type 0} (R : A → A → Type 0) (S : B → B → Type 0) (f : A → B) where
  pub pairwise_map : (l : List A) → Pairwise R l → ((x y : A) → Memᴰ x l → Memᴰ y l → R x y → S (f x) (f y)) → Pairwise S (map f l)
  pairwise_map [] c h = tt
  pairwise_map (x ∷ l) c h = (
    λ y i. let r = Memᴰ.of_map f l i in
        subst (S (f x)) r.2 (h x r.0 (Memᴰ.head refl) (Memᴰ.tail r.1) (c.0 r.0 r.1)),
    pairwise_map l c.1 (λ a b i j. h a b (Memᴰ.tail i) (Memᴰ.tail j)),
  )

pub cond_pairwise : {A : Type 0} (R : A → A → Type 0) (b : Bool) (l : List A) → Pairwise R l → Pairwise R (cond b l [])
cond_pairwise R true l c = c
cond_pairwise R false l c = tt

pub pairwise_flat :
    {A B : Type 0} (R : A → A → Type 0) (S : B → B → Type 0) (g : A → List B) (l : List A) → Pairwise R l → ((a : A) → Pairwise S (g a))
    → ((a b : A) (x y : B) → R a b → Memᴰ x (g a) → Memᴰ y (g b) → S x y) → Pairwise S (flat g l)
pairwise_flat R S g [] c f h = tt
pairwise_flat R S g (a ∷ l) c f h =
    pairwise_append S (g a) (flat g l) (f a) (pairwise_flat R S g l c.1 f h)
    (λ x y i j. let r = flat_mem g l j in h a r.0 x y (c.0 r.0 r.1) i r.2)

-- a test that f rises along the list, from each element to the next
module _ {A : Type 0} (f : A → ℕ) where
  abbrev below : A → List A → Bool
  below a [] = true
  below a (b ∷ l) = ltb (f a) (f b)

  abbrev pub rising : List A → Bool
  rising [] = true
  rising (a ∷ l) = below a l && rising l

  below_all : (a : A) (l : List A) → T (below a l) → Pairwise (λ a b. f a < f b) l → (b : A) → Memᴰ b l → f a < f b
  below_all a [] t r b i = absurd (Memᴰ.not-nil i)
  below_all a (c ∷ l) t r b i =
      let h = ltb→lt (f a) (f c) t in
      ⊎_elim (λ e. subst (λ x. f a < f x) (sym e) h) (λ j. lt_trans h (r.0 b j)) (Memᴰ.cases_cons i)

  pub rising_pairwise : (l : List A) → T (rising l) → Pairwise (λ a b. f a < f b) l
  rising_pairwise [] t = tt
  rising_pairwise (a ∷ l) t =
      let r = rising_pairwise l (and_right (below a l) _ t) in
      (below_all a l (and_left (below a l) _ t) r, r)

  -- where f rises no element stands twice
  pub ascending_nodup : (l : List A) → Pairwise (λ a b. f a < f b) l → Nodup l
  ascending_nodup [] r = tt
  ascending_nodup (a ∷ l) r = (λ i. lt_irrefl (f a) (r.0 a i), ascending_nodup l r.1)

pub pairwise_single : {A : Type 0} (R : A → A → Type 0) (a : A) → Pairwise R (a ∷ [])
pairwise_single R a = (λ y i. absurd (Memᴰ.not-nil i), tt)
