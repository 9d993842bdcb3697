-- Permutations leave the folds of a list as they are; a test for permutations. Assumes nothing.
use mathlib.Core.Path.{◌≡◌, refl, sym, ap, ap₂, ◌∙◌, subst}
use mathlib.Core.Bool.{Bool, true, false, ◌&&◌, ◌||◌, cond}
use mathlib.Core.List.Permᴰ
use mathlib.Core.List.{List, [], ◌∷◌, map, Permᴰ}
use Prim.Native.Nat.{ℕ, ◌+◌}
use native.Mathlib.Nat.{add_left_comm}
use lib.Dec.{T, eqb, eqb→eq}
use Rattle.lists.specs.Fold.{every, some, total, all, any, sum}
use Rattle.lists.proofs.Finite.{and_left, and_right, T-eq, or_elim, or_left, or_right}

-- ---- permutations leave the folds as they are

and_swap : (a b c : Bool) → a && (b && c) ≡ b && (a && c)
and_swap true b c = refl
and_swap false true c = refl
and_swap false false c = refl

or_swap : (a b c : Bool) → a || (b || c) ≡ b || (a || c)
or_swap false b c = refl
or_swap true true c = refl
or_swap true false c = refl

pub every_perm : {l m : List Bool} → Permᴰ l m → every l ≡ every m
every_perm Permᴰ.nil = refl
every_perm (Permᴰ.cons e d) = ap₂ ◌&&◌ e (every_perm d)
every_perm (Permᴰ.swap {a = a} {b = b} {l = l} e f) = and_swap a b (every l) ∙ ap₂ (λ (x y : Bool). x && (y && every l)) f e
every_perm (Permᴰ.trans d e) = every_perm d ∙ every_perm e

pub some_perm : {l m : List Bool} → Permᴰ l m → some l ≡ some m
some_perm Permᴰ.nil = refl
some_perm (Permᴰ.cons e d) = ap₂ ◌||◌ e (some_perm d)
some_perm (Permᴰ.swap {a = a} {b = b} {l = l} e f) = or_swap a b (some l) ∙ ap₂ (λ (x y : Bool). x || (y || some l)) f e
some_perm (Permᴰ.trans d e) = some_perm d ∙ some_perm e

pub total_perm : {l m : List ℕ} → Permᴰ l m → total l ≡ total m
total_perm Permᴰ.nil = refl
total_perm (Permᴰ.cons e d) = ap₂ ◌+◌ e (total_perm d)
total_perm (Permᴰ.swap {a = a} {b = b} {l = l} e f) = add_left_comm a b (total l) ∙ ap₂ (λ (x y : ℕ). x + (y + total l)) f e
total_perm (Permᴰ.trans d e) = total_perm d ∙ total_perm e

module _ {A B : Type 0} (f : A → B) where
  pub map_perm : {l m : List A} → Permᴰ l m → Permᴰ (map f l) (map f m)
  map_perm Permᴰ.nil = Permᴰ.nil
  map_perm (Permᴰ.cons e d) = Permᴰ.cons (ap f e) (map_perm d)
  map_perm (Permᴰ.swap e g) = Permᴰ.swap (ap f e) (ap f g)
  map_perm (Permᴰ.trans d e) = Permᴰ.trans (map_perm d) (map_perm e)

-- ---- a list's values under a change of its elements: at each element that is good
module _ {A B : Type 0} (good : A → Bool) (f : A → A) (p q : A → B) (law : (a : A) → T (good a) → q (f a) ≡ p a) where
  pub map_moved : (l : List A) → T (all good l) → map q (map f l) ≡ map p l
  map_moved [] t = refl
  map_moved (a ∷ l) t = ap₂ ◌∷◌ (law a (and_left (good a) _ t)) (map_moved l (and_right (good a) _ t))

-- ---- a test for a permutation of a list of numbers
abbrev pub less : ℕ → List ℕ → List ℕ
less n [] = []
less n (x ∷ xs) = cond (eqb n x) xs (x ∷ less n xs)

abbrev pub is_perm : List ℕ → List ℕ → Bool
is_perm [] [] = true
is_perm [] (y ∷ ys) = false
is_perm (x ∷ xs) ys = any (eqb x) ys && is_perm xs (less x ys)

less_perm : (n : ℕ) (ys : List ℕ) → T (any (eqb n) ys) → Permᴰ (n ∷ less n ys) ys
less_perm n [] t = absurd t
less_perm n (x ∷ xs) t = go (eqb n x) refl t (less_perm n xs)
  where
    go :
        (b : Bool) → eqb n x ≡ b → T (b || any (eqb n) xs) → (T (any (eqb n) xs) → Permᴰ (n ∷ less n xs) xs)
        → Permᴰ (n ∷ cond b xs (x ∷ less n xs)) (x ∷ xs)
    go true e t r = Permᴰ.cons (eqb→eq n x (subst T (sym e) tt)) (Permᴰ.refl xs)
    go false e t r = Permᴰ.trans (Permᴰ.swap refl refl) (Permᴰ.cons refl (r t))

pub is_perm_perm_holds : (xs ys : List ℕ) → T (is_perm xs ys) → Permᴰ xs ys
is_perm_perm_holds [] [] t = Permᴰ.nil
is_perm_perm_holds [] (y ∷ ys) t = absurd t
is_perm_perm_holds (x ∷ xs) ys t =
    Permᴰ.trans (Permᴰ.cons refl (is_perm_perm_holds xs (less x ys) (and_right (any (eqb x) ys) _ t)))
    (less_perm x ys (and_left (any (eqb x) ys) _ t))

-- ---- folds over a list of numbers that a renaming r puts in another order
pub record Shuffled (r : ℕ → ℕ) (good : ℕ → Bool) (l : List ℕ) : Type 0 where
  pub each : T (all good l)
  pub same : Permᴰ (map r l) l

module _ {r : ℕ → ℕ} {good : ℕ → Bool} {l : List ℕ} (s : Shuffled r good l) where
  pub all_over : (f g : ℕ → Bool) → ((t : ℕ) → T (good t) → g (r t) ≡ f t) → all g l ≡ all f l
  all_over f g law =
      every_perm (map_perm g (Permᴰ.symm s.same)) ∙ ap every (map_moved good r f g law l s.each)

  pub any_over : (f g : ℕ → Bool) → ((t : ℕ) → T (good t) → g (r t) ≡ f t) → any g l ≡ any f l
  any_over f g law =
      some_perm (map_perm g (Permᴰ.symm s.same)) ∙ ap some (map_moved good r f g law l s.each)

  pub sum_over : (f g : ℕ → ℕ) → ((t : ℕ) → T (good t) → g (r t) ≡ f t) → sum g l ≡ sum f l
  sum_over f g law =
      total_perm (map_perm g (Permᴰ.symm s.same)) ∙ ap total (map_moved good r f g law l s.each)

-- ---- lines: some line has each of its numbers
abbrev pub any_line : (ℕ → Bool) → List (List ℕ) → Bool
any_line f ls = any (λ l. all f l) ls

-- each line of ls is a line of ks, in some order
abbrev pub sub_lines : List (List ℕ) → List (List ℕ) → Bool
sub_lines ls ks = all (λ l. any (is_perm l) ks) ls

abbrev pub same_lines : (ℕ → ℕ) → List (List ℕ) → Bool
same_lines r ls = sub_lines ls (map (map r) ls) && sub_lines (map (map r) ls) ls

in_lines : (f : ℕ → Bool) (l : List ℕ) (ks : List (List ℕ)) → T (any (is_perm l) ks) → T (all f l) → T (any_line f ks)
in_lines f l [] t a = absurd t
in_lines f l (k ∷ ks) t a =
    or_elim (is_perm l k) (any (is_perm l) ks) t
    (λ x. or_left (all f k) (any_line f ks) (subst T (every_perm (map_perm f (is_perm_perm_holds l k x))) a))
    (λ y. or_right (all f k) (any_line f ks) (in_lines f l ks y a))

sub_lines_holds : (f : ℕ → Bool) (ls ks : List (List ℕ)) → T (sub_lines ls ks) → T (any_line f ls) → T (any_line f ks)
sub_lines_holds f [] ks t a = absurd a
sub_lines_holds f (l ∷ ls) ks t a =
    or_elim (all f l) (any_line f ls) a
    (in_lines f l ks (and_left (any (is_perm l) ks) (sub_lines ls ks) t))
    (sub_lines_holds f ls ks (and_right (any (is_perm l) ks) (sub_lines ls ks) t))

module _ (r : ℕ → ℕ) (good : ℕ → Bool) (f g : ℕ → Bool) (law : (t : ℕ) → T (good t) → g (r t) ≡ f t) where
  line_moved : (l : List ℕ) → T (all good l) → all g (map r l) ≡ all f l
  line_moved l ok = ap every (map_moved good r f g law l ok)

  lines_mapped : (ls : List (List ℕ)) → T (all (all good) ls) → any_line g (map (map r) ls) ≡ any_line f ls
  lines_mapped [] ok = refl
  lines_mapped (l ∷ ls) ok =
      ap₂ ◌||◌ (line_moved l (and_left (all good l) _ ok)) (lines_mapped ls (and_right (all good l) _ ok))

  -- the lines and the renamed lines are the same, in some order
  pub lines_over :
      (ls : List (List ℕ)) → T (all (all good) ls) → T (same_lines r ls) → any_line g ls ≡ any_line f ls
  lines_over ls ok t =
      T-eq (any_line g ls) (any_line g (map (map r) ls))
      (sub_lines_holds g ls (map (map r) ls) (and_left (sub_lines ls (map (map r) ls)) (sub_lines (map (map r) ls) ls) t))
      (sub_lines_holds g (map (map r) ls) ls (and_right (sub_lines ls (map (map r) ls)) (sub_lines (map (map r) ls) ls) t))
      ∙ lines_mapped ls ok
