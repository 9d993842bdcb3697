-- Tests, sums and counts over a list, parts of a list, and the numbers below a bound. These are definitions.
use Rattle.std.specs.Prelude.{Bool, true, false, ◌&&◌, ◌||◌, cond, List, [], ◌∷◌, ◌++◌, map, ℕ, zero, suc, ◌+◌}

-- each of a list of answers is yes; one of them is yes; the sum of a list of numbers
abbrev pub every : List Bool → Bool
every [] = true
every (b ∷ bs) = b && every bs

abbrev pub some : List Bool → Bool
some [] = false
some (b ∷ bs) = b || some bs

abbrev pub total : List ℕ → ℕ
total [] = 0
total (n ∷ ns) = n + total ns

-- 1 for yes, 0 for no
abbrev pub one : Bool → ℕ
one true = 1
one false = 0

-- the test p passes at each element; at one of them; the sum of f of each; how many pass the test p
module _ {A : Type 0} where
  abbrev pub all : (A → Bool) → List A → Bool
  all p l = every (map p l)

  abbrev pub any : (A → Bool) → List A → Bool
  any p l = some (map p l)

  abbrev pub sum : (A → ℕ) → List A → ℕ
  sum f l = total (map f l)

  abbrev pub count : (A → Bool) → List A → ℕ
  count p l = total (map (λ a. one (p a)) l)

-- the lists that g gives at each element, one after the other
module _ {A B : Type 0} where
  abbrev pub flat : (A → List B) → List A → List B
  flat g [] = []
  flat g (a ∷ l) = g a ++ flat g l

-- the elements that pass the test p
module _ {A : Type 0} where
  abbrev pub keep : (A → Bool) → List A → List A
  keep p l = flat (λ a. cond (p a) (a ∷ []) []) l

-- the part of a list after the last element that passes the test p: the whole list where none does
module _ {A : Type 0} where
  abbrev pub after_last : (A → Bool) → List A → List A
  after_last p [] = []
  after_last p (a ∷ l) = cond (any p l) (after_last p l) (cond (p a) l (a ∷ l))

-- the test p passes at each number below n
abbrev pub all_below : ℕ → (ℕ → Bool) → Bool
all_below zero p = true
all_below (suc n) p = p n && all_below n p

-- the numbers below n, ascending, before those of l
abbrev pub up_to : ℕ → List ℕ → List ℕ
up_to zero l = l
up_to (suc n) l = up_to n (n ∷ l)

-- n numbers from a on, ascending
abbrev pub up_from : ℕ → ℕ → List ℕ
up_from zero a = []
up_from (suc n) a = a ∷ up_from n (suc a)
