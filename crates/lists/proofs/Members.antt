-- Members of lists, lists without repetition, and when two lists are permutations of one another. Assumes nothing.
use mathlib.Core.Path.{◌≡◌, refl, sym, ap, ap₂, ◌∙◌, subst}
use mathlib.Core.Logic.{⊎_elim}
use mathlib.Core.List.Memᴰ
use mathlib.Core.List.Permᴰ
use mathlib.Core.List.{List, [], ◌∷◌, ◌++◌, map, Memᴰ, Permᴰ, append_assoc, append-nil}
use mathlib.Core.Bool.{Bool, true, false, cond}
use Prim.Native.Nat.{ℕ, zero, suc, ◌<◌, ◌≤◌}
use native.Mathlib.Omega.{arith}
use lib.ListN.{length, length-append, get_or, take}
use lib.Dec.{T}
use Rattle.lists.specs.Fold.{all, any, flat}
use Rattle.lists.specs.Order.{Nodup}
use Rattle.lists.proofs.Finite.{and_left, and_right, and_both, or_elim, or_left, or_right}

module _ {A : Type 0} where
  pub perm_mem : {a : A} {l m : List A} → Permᴰ l m → Memᴰ a l → Memᴰ a m
  perm_mem Permᴰ.nil i = i
  perm_mem (Permᴰ.cons e d) i = ⊎_elim (λ x. Memᴰ.head (x ∙ e)) (λ j. Memᴰ.tail (perm_mem d j)) (Memᴰ.cases_cons i)
  perm_mem (Permᴰ.swap e f) i =
      ⊎_elim (λ x. Memᴰ.tail (Memᴰ.head (x ∙ e)))
      (λ j. ⊎_elim (λ x. Memᴰ.head (x ∙ f)) (λ k. Memᴰ.tail (Memᴰ.tail k)) (Memᴰ.cases_cons j))
      (Memᴰ.cases_cons i)
  perm_mem (Permᴰ.trans d e) i = perm_mem e (perm_mem d i)

  pub perm_nodup : {l m : List A} → Permᴰ l m → Nodup l → Nodup m
  perm_nodup Permᴰ.nil n = n
  perm_nodup (Permᴰ.cons e d) n = (λ i. n.0 (Memᴰ.cast e (perm_mem (Permᴰ.symm d) i)), perm_nodup d n.1)
  perm_nodup (Permᴰ.swap e f) n = (
    λ i. ⊎_elim (λ x. n.0 (Memᴰ.head (e ∙ sym x ∙ sym f))) (λ j. n.1.0 (Memᴰ.cast f j)) (Memᴰ.cases_cons i),
    (λ j. n.0 (Memᴰ.tail (Memᴰ.cast e j)), n.1.1),
  )
  perm_nodup (Permᴰ.trans d e) n = perm_nodup e (perm_nodup d n)

  -- a member, and the rest
  pub extract : {a : A} {l : List A} → Memᴰ a l → (r : List A) × Permᴰ l (a ∷ r)
  extract (Memᴰ.head {xs = xs} e) = (xs, Permᴰ.cons (sym e) (Permᴰ.refl xs))
  extract (Memᴰ.tail {x = x} i) =
      let e = extract i in
      (x ∷ e.0, Permᴰ.trans (Permᴰ.cons refl e.1) (Permᴰ.swap refl refl))

  -- two lists without repetition that have the same members
  pub same_perm :
      (xs ys : List A) → Nodup xs → Nodup ys → ((a : A) → Memᴰ a xs → Memᴰ a ys)
      → ((a : A) → Memᴰ a ys → Memᴰ a xs) → Permᴰ xs ys
  same_perm [] [] n m f g = Permᴰ.nil
  same_perm [] (y ∷ ys) n m f g = absurd (Memᴰ.not-nil (g y (Memᴰ.head refl)))
  same_perm (x ∷ xs) ys n m f g =
      let e = extract (f x (Memᴰ.head refl)) in
      let k = perm_nodup e.1 m in
      Permᴰ.trans
      (Permᴰ.cons refl
      (same_perm xs e.0 n.1 k.1
      (λ a i. ⊎_elim (λ q. absurd (n.0 (Memᴰ.cast (sym q) i))) (λ j. j) (Memᴰ.cases_cons (perm_mem e.1 (f a (Memᴰ.tail i)))))
      (λ a i. ⊎_elim (λ q. absurd (k.0 (Memᴰ.cast (sym q) i))) (λ j. j) (Memᴰ.cases_cons (g a (perm_mem (Permᴰ.symm e.1) (Memᴰ.tail i)))))))
      (Permᴰ.symm e.1)

  pub nodup_append : (l m : List A) → Nodup l → Nodup m → ((a : A) → Memᴰ a l → Memᴰ a m → ⊥) → Nodup (l ++ m)
  nodup_append [] m n k d = k
  nodup_append (x ∷ l) m n k d = (
    λ i. ⊎_elim n.0 (d x (Memᴰ.head refl)) (Memᴰ.append_cases l i),
    nodup_append l m n.1 k (λ a i. d a (Memᴰ.tail i)),
  )

module _ {A B : Type 0} (f : A → B) where
  -- a function that takes different members to different values
  pub nodup_map : (l : List A) → Nodup l → ((a b : A) → Memᴰ a l → Memᴰ b l → f a ≡ f b → a ≡ b) → Nodup (map f l)
  nodup_map [] n inj = tt
  nodup_map (x ∷ l) n inj = (
    λ i. let r = Memᴰ.of_map f l i in n.0 (Memᴰ.cast (inj x r.0 (Memᴰ.head refl) (Memᴰ.tail r.1) (sym r.2)) r.1),
    nodup_map l n.1 (λ a b i j. inj a b (Memᴰ.tail i) (Memᴰ.tail j)),
  )

  pub nodup_map_id : (g : B → A) (l : List A) → Nodup l → ((a : A) → Memᴰ a l → g (f a) ≡ a) → Nodup (map f l)
  nodup_map_id g l n id = nodup_map l n (λ a b i j e. sym (id a i) ∙ ap g e ∙ id b j)

-- ---- concatenation
module _ {A B : Type 0} where
  pub map_append : (h : A → B) (l m : List A) → map h (l ++ m) ≡ map h l ++ map h m
  map_append h [] m = refl
  map_append h (a ∷ l) m = ap (λ (r : List B). h a ∷ r) (map_append h l m)

module _ {A : Type 0} where
  pub length_perm : {l m : List A} → Permᴰ l m → length l ≡ length m
  length_perm Permᴰ.nil = refl
  length_perm (Permᴰ.cons e d) = ap suc (length_perm d)
  length_perm (Permᴰ.swap e f) = refl
  length_perm (Permᴰ.trans d e) = length_perm d ∙ length_perm e

  pub perm_eq : {l m : List A} → l ≡ m → Permᴰ l m
  perm_eq {l} e = subst (Permᴰ l) e (Permᴰ.refl l)

  pub append_swap : (l m : List A) → Permᴰ (l ++ m) (m ++ l)
  append_swap [] m = perm_eq (sym (append-nil m))
  append_swap (a ∷ l) m =
      Permᴰ.trans (Permᴰ.cons refl (append_swap l m)) (Permᴰ.symm (Permᴰ.middle a m l))

  pub append_both : {l m : List A} (r s : List A) → Permᴰ l m → Permᴰ r s → Permᴰ (l ++ r) (m ++ s)
  append_both {l} {m} r s d e = Permᴰ.trans (Permᴰ.append_right r d) (Permᴰ.append_left m e)

  pub append_mid : (l m r : List A) → Permᴰ (l ++ (m ++ r)) (m ++ (l ++ r))
  append_mid l m r =
      Permᴰ.trans (perm_eq (sym (append_assoc l m r)))
      (Permᴰ.trans (Permᴰ.append_right r (append_swap l m)) (perm_eq (append_assoc m l r)))

  pub all_mem : (p : A → Bool) {a : A} {l : List A} → T (all p l) → Memᴰ a l → T (p a)
  all_mem p t (Memᴰ.head {x = x} e) = subst (λ (b : A). T (p b)) (sym e) (and_left (p x) _ t)
  all_mem p t (Memᴰ.tail {x = x} i) = all_mem p (and_right (p x) _ t) i

  pub all_intro : (p : A → Bool) (l : List A) → ((a : A) → Memᴰ a l → T (p a)) → T (all p l)
  all_intro p [] f = tt
  all_intro p (a ∷ l) f = and_both (p a) (all p l) (f a (Memᴰ.head refl)) (all_intro p l (λ b i. f b (Memᴰ.tail i)))

  pub all_append : (p : A → Bool) (l m : List A) → T (all p l) → T (all p m) → T (all p (l ++ m))
  all_append p l m s t = all_intro p (l ++ m) (λ a i. ⊎_elim (all_mem p s) (all_mem p t) (Memᴰ.append_cases l i))

  -- where an element passes the test
  pub any_of : (p : A → Bool) {a : A} {l : List A} → Memᴰ a l → T (p a) → T (any p l)
  any_of p (Memᴰ.head {x = x} e) t = or_left (p x) _ (subst (λ (b : A). T (p b)) e t)
  any_of p (Memᴰ.tail {x = x} i) t = or_right (p x) _ (any_of p i t)

  -- an element that passes the test
  pub any_elim : (p : A → Bool) (l : List A) → T (any p l) → (a : A) × Memᴰ a l × T (p a)
  any_elim p [] t = absurd t
  any_elim p (a ∷ l) t =
      or_elim (p a) (any p l) t (λ s. (a, Memᴰ.head refl, s)) (λ s. let r = any_elim p l s in (r.0, Memᴰ.tail r.1, r.2))

-- where f takes what passes p to what passes q
pub all_map : {A B : Type 0} (p : A → Bool) (q : B → Bool) (f : A → B) → ((a : A) → T (p a) → T (q (f a))) → (l : List A) → T (all p l) → T (all q (map f l))
all_map p q f law [] t = tt
all_map p q f law (a ∷ l) t =
    and_both (q (f a)) (all q (map f l)) (law a (and_left (p a) (all p l) t)) (all_map p q f law l (and_right (p a) (all p l) t))

module _ {A B : Type 0} (g : A → List B) where
  pub flat_perm : {l m : List A} → Permᴰ l m → Permᴰ (flat g l) (flat g m)
  flat_perm Permᴰ.nil = Permᴰ.nil
  flat_perm (Permᴰ.cons {l₁ = l} {l₂ = m} e d) = append_both (flat g l) (flat g m) (perm_eq (ap g e)) (flat_perm d)
  flat_perm (Permᴰ.swap {a = a} {b = b} {l = l} e f) =
      Permᴰ.trans (append_mid (g a) (g b) (flat g l))
      (append_both (g a ++ flat g l) (g _ ++ flat g l) (perm_eq (ap g f)) (Permᴰ.append_right (flat g l) (perm_eq (ap g e))))
  flat_perm (Permᴰ.trans d e) = Permᴰ.trans (flat_perm d) (flat_perm e)

module _ {A B : Type 0} (good : A → Bool) (r : A → A) (h : B → B) (f g : A → List B) (law : (a : A) → T (good a) → Permᴰ (g (r a)) (map h (f a))) where
  pub flat_moved : (l : List A) → T (all good l) → Permᴰ (flat g (map r l)) (map h (flat f l))
  flat_moved [] t = Permᴰ.nil
  flat_moved (a ∷ l) t =
      Permᴰ.trans
      (append_both (flat g (map r l)) (map h (flat f l)) (law a (and_left (good a) _ t)) (flat_moved l (and_right (good a) _ t)))
      (perm_eq (sym (map_append h (f a) (flat f l))))

module _ {A B : Type 0} where
  -- two functions that agree on the members
  pub map_members : (f g : A → B) (l : List A) → ((a : A) → Memᴰ a l → f a ≡ g a) → map f l ≡ map g l
  map_members f g [] e = refl
  map_members f g (a ∷ l) e = ap₂ ◌∷◌ (e a (Memᴰ.head refl)) (map_members f g l (λ b i. e b (Memᴰ.tail i)))

  pub map_map : {C : Type 0} (f : A → B) (g : B → C) (l : List A) → map g (map f l) ≡ map (λ a. g (f a)) l
  map_map f g [] = refl
  map_map f g (a ∷ l) = ap (λ (r : List _). g (f a) ∷ r) (map_map f g l)

pub map_id : {A : Type 0} (l : List A) → map (λ a. a) l ≡ l
map_id [] = refl
map_id (a ∷ l) = ap (λ (r : List _). a ∷ r) (map_id l)

-- ---- members of lists one after the other, and of lists under a condition
pub flat_mem : {A B : Type 0} (g : A → List B) (l : List A) {b : B} → Memᴰ b (flat g l) → (a : A) × Memᴰ a l × Memᴰ b (g a)
flat_mem g [] i = absurd (Memᴰ.not-nil i)
flat_mem g (a ∷ l) i =
    ⊎_elim (λ j. (a, Memᴰ.head refl, j)) (λ j. let r = flat_mem g l j in (r.0, Memᴰ.tail r.1, r.2)) (Memᴰ.append_cases (g a) i)

pub in_cond : {A : Type 0} {a : A} (b : Bool) (l : List A) → Memᴰ a (cond b l []) → T b × Memᴰ a l
in_cond true l i = (tt, i)
in_cond false l i = absurd (Memᴰ.not-nil i)

pub flat_in : {A B : Type 0} (g : A → List B) {a : A} {b : B} {l : List A} → Memᴰ a l → Memᴰ b (g a) → Memᴰ b (flat g l)
flat_in g {b = b} (Memᴰ.head {xs = xs} e) j = Memᴰ.append_left (flat g xs) (subst (λ (x : _). Memᴰ b (g x)) e j)
flat_in g (Memᴰ.tail {x = x} i) j = Memᴰ.append_right (g x) (flat_in g i j)

pub in_true : {A : Type 0} {a : A} (b : Bool) (l : List A) → T b → Memᴰ a l → Memᴰ a (cond b l [])
in_true true l t i = i
in_true false l t i = absurd t

-- ---- each once
pub nodup_flat :
    {A B : Type 0} (g : A → List B) (l : List A) → Nodup l → ((a : A) → Memᴰ a l → Nodup (g a))
    → ((a b : A) (x : B) → Memᴰ x (g a) → Memᴰ x (g b) → a ≡ b) → Nodup (flat g l)
nodup_flat g [] n f h = tt
nodup_flat g (a ∷ l) n f h =
    nodup_append (g a) (flat g l) (f a (Memᴰ.head refl)) (nodup_flat g l n.1 (λ b i. f b (Memᴰ.tail i)) h)
    (λ x i j. let r = flat_mem g l j in n.0 (Memᴰ.cast (h a r.0 x i r.2) r.1))

pub cond_nodup : {A : Type 0} (b : Bool) (l : List A) → Nodup l → Nodup (cond b l [])
cond_nodup true l n = n
cond_nodup false l n = tt

pub nodup_single : {A : Type 0} (a : A) → Nodup (a ∷ [])
nodup_single a = (λ i. Memᴰ.not-nil i, tt)

-- where any two members are equal
pub at_most_one : {A : Type 0} (l : List A) → Nodup l → ((a b : A) → Memᴰ a l → Memᴰ b l → a ≡ b) → length l ≤ 1
at_most_one [] n f = omega arith
at_most_one (a ∷ []) n f = omega arith
at_most_one (a ∷ b ∷ l) n f = absurd (n.0 (Memᴰ.head (f a b (Memᴰ.head refl) (Memᴰ.tail (Memᴰ.head refl)))))

pub in_single : {A : Type 0} {x a : A} (b : Bool) → Memᴰ x (cond b (a ∷ []) []) → x ≡ a
in_single {x = x} {a = a} b i =
    ⊎_elim (λ e. e) (λ j. absurd (Memᴰ.not-nil j)) (Memᴰ.cases_cons (in_cond b (a ∷ []) i).1)

-- ---- what is not empty
pub not_empty : {A : Type 0} (a : A) (l : List A) → (a ∷ l) ≡ [] → ⊥
not_empty a l e = let z : ◌≡◌ {A = ℕ} 0 1 = cc in omega arith

pub empty_map : {A B : Type 0} (f : A → B) (l : List A) → map f l ≡ [] → l ≡ []
empty_map f [] e = refl
empty_map f (a ∷ l) e = absurd (not_empty (f a) (map f l) e)

-- ---- lists under a condition
cond_perm : {A : Type 0} (a b : Bool) (l m : List A) → a ≡ b → Permᴰ l m → Permᴰ (cond a l []) (cond b m [])
cond_perm a true l m e d = subst (λ (x : Bool). Permᴰ (cond x l []) m) (sym e) d
cond_perm a false l m e d = subst (λ (x : Bool). Permᴰ (cond x l []) []) (sym e) Permᴰ.nil

map_cond : {A B : Type 0} (h : A → B) (b : Bool) (l : List A) → map h (cond b l []) ≡ cond b (map h l) []
map_cond h true l = refl
map_cond h false l = refl

pub cond_moved :
    {A B : Type 0} (h : A → B) (a b : Bool) (l : List B) (m : List A) → a ≡ b → Permᴰ l (map h m)
    → Permᴰ (cond a l []) (map h (cond b m []))
cond_moved h a b l m e d = Permᴰ.trans (cond_perm a b l (map h m) e d) (perm_eq (sym (map_cond h b m)))

-- ---- mapped lists
pub map_flat :
    {A B C : Type 0} (h : B → C) (f : A → List B) (g : A → List C) → ((a : A) → map h (f a) ≡ g a) → (l : List A) → map h (flat f l) ≡ flat g l
map_flat h f g law [] = refl
map_flat h f g law (a ∷ l) = map_append h (f a) (flat f l) ∙ ap₂ ◌++◌ (law a) (map_flat h f g law l)

pub flat_length :
    {A B : Type 0} (g : A → List B) (h : A → A) (l : List A) → ((a : A) → Memᴰ a l → length (g (h a)) ≡ length (g a))
    → length (flat g (map h l)) ≡ length (flat g l)
flat_length g h [] e = refl
flat_length g h (a ∷ l) e =
    omega (
      arith,
      length-append (g (h a)) (flat g (map h l)),
      length-append (g a) (flat g l),
      e a (Memᴰ.head refl),
      flat_length g h l (λ b i. e b (Memᴰ.tail i)),
    )

pub take_map : {A B : Type 0} (h : A → B) (n : ℕ) (l : List A) → take n (map h l) ≡ map h (take n l)
take_map h zero l = refl
take_map h (suc n) [] = refl
take_map h (suc n) (a ∷ l) = ap (λ (r : List _). h a ∷ r) (take_map h n l)

-- what stands at a place of the list; the defaults past the ends do not matter
pub at_map : {A B : Type 0} (f : A → B) (l : List A) (n : ℕ) (d : A) (e : B) → n < length l → get_or (map f l) n e ≡ f (get_or l n d)
at_map f [] n d e h = absurd (omega arith)
at_map f (a ∷ l) zero d e h = refl
at_map f (a ∷ l) (suc n) d e h = at_map f l n d e (omega arith)
