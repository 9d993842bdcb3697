-- Lists in order: ascending, each once, sorted. These are definitions.
use Rattle.std.specs.Prelude.{◌≡◌, ◌⊎◌, Bool, true, ◌&&◌, not, ℕ, ◌<◌, replicate}
use mathlib.Core.List.{List, [], ◌∷◌, ◌++◌, Memᴰ}
use Rattle.lists.specs.Fold.{any, count}

-- l is ascending and out of ms: each next element is found at or after the place of the one before
pub data Pick {A : Type 0} : List A → List A → Type 0 where
  done : {ms : List A} → Pick ms []
  skip : {m : A} {ms l : List A} → Pick ms l → Pick (m ∷ ms) l
  pick : {m x : A} {ms l : List A} → x ≡ m → Pick (m ∷ ms) l → Pick (m ∷ ms) (x ∷ l)

module _ {A : Type 0} where
  -- no element stands twice
  abbrev pub Nodup : List A → Type 0
  Nodup [] = Unit {0}
  Nodup (x ∷ xs) = (Memᴰ x xs → ⊥) × Nodup xs

-- each element stands in the relation R to each later one
module _ {A : Type 0} (R : A → A → Type 0) where
  abbrev pub Pairwise : List A → Type 0
  Pairwise [] = Unit {0}
  Pairwise (x ∷ l) = ((y : A) → Memᴰ y l → R x y) × Pairwise l

-- the order of a dictionary, on lists of numbers: the first place where they differ decides. A list and a longer one that begins with it
-- do not compare
abbrev pub Lex : List ℕ → List ℕ → Type 0
Lex [] ys = ⊥
Lex (x ∷ xs) [] = ⊥
Lex (x ∷ xs) (y ∷ ys) = (x < y) ⊎ ((x ≡ y) × Lex xs ys)

module _ {A : Type 0} (eq : A → A → Bool) where
  -- how often the element stands in the list
  abbrev pub times : A → List A → ℕ
  times m l = count (eq m) l

  -- the list in the order of ms: each element of ms as often as it stands in the list; others fall out
  abbrev pub arrange : List A → List A → List A
  arrange [] l = []
  arrange (m ∷ ms) l = replicate (times m l) m ++ arrange ms l

  -- no two elements are equal, as a test
  abbrev pub distinct : List A → Bool
  distinct [] = true
  distinct (m ∷ ms) = not (any (eq m) ms) && distinct ms
