-- Lists that stand in another list in its order: with a function at each element, one within the other, and a test for it. Assumes nothing.
use mathlib.Core.Path.{◌≡◌, ap, ◌∙◌}
use mathlib.Core.Bool.{Bool, true, false, cond}
use mathlib.Core.List.{List, [], ◌∷◌, map}
use lib.Dec.{T}
use Rattle.lists.specs.Order.{Pick, done, skip, pick}

-- a function at each element of both
pub pick_mapped : {A B : Type 0} (f : A → B) {ms l : List A} → Pick ms l → Pick (map f ms) (map f l)
pick_mapped f done = done
pick_mapped f (skip d) = skip (pick_mapped f d)
pick_mapped f (pick q d) = pick (ap f q) (pick_mapped f d)

-- out of a list that is itself out of ns
module _ {A : Type 0} where
  under : {n x : A} {ns ms l : List A} → x ≡ n → ((l : List A) → Pick ms l → Pick (n ∷ ns) l) → Pick (x ∷ ms) l → Pick (n ∷ ns) l
  under q r done = done
  under q r (skip {l = l} e) = r l e
  under q r (pick p e) = pick (p ∙ q) (under q r e)

  pub pick_through : {ns ms l : List A} → Pick ns ms → Pick ms l → Pick ns l
  pick_through done done = done
  pick_through (skip d) e = skip (pick_through d e)
  pick_through (pick q d) e = under q (λ l e. pick_through d e) e

-- ---- a test, by equality of elements
module _ {A : Type 0} (eq : A → A → Bool) where
  -- the list without those in front that are m
  abbrev past : A → List A → List A
  past m [] = []
  past m (x ∷ l) = cond (eq x m) (past m l) (x ∷ l)

  abbrev pub picks : List A → List A → Bool
  picks [] [] = true
  picks [] (x ∷ l) = false
  picks (m ∷ ms) l = picks ms (past m l)

  module _ (sound : (a b : A) → T (eq a b) → a ≡ b) where
    past_pick : (m : A) (ms l : List A) → Pick (m ∷ ms) (past m l) → Pick (m ∷ ms) l
    past_pick m ms [] d = d
    past_pick m ms (x ∷ l) d = go (eq x m) (sound x m) (past_pick m ms l) d
      where
        go :
            (b : Bool) → (T b → x ≡ m) → (Pick (m ∷ ms) (past m l) → Pick (m ∷ ms) l)
            → Pick (m ∷ ms) (cond b (past m l) (x ∷ l)) → Pick (m ∷ ms) (x ∷ l)
        go true s r d = pick (s tt) (r d)
        go false s r d = d

    pub picks_pick : (ms l : List A) → T (picks ms l) → Pick ms l
    picks_pick [] [] t = done
    picks_pick [] (x ∷ l) t = absurd t
    picks_pick (m ∷ ms) l t = past_pick m ms l (skip (picks_pick ms (past m l) t))
