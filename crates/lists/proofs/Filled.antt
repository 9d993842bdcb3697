-- An array made by a closure that changes nothing: what holds of each of its answers holds at each place, and where it answers h of each
-- place, the array is the list of those. Assumes nothing.
use Rattle.std.proofs.Common.{ℕ, zero, suc, ◌+◌, ◌≡◌, ◌<◌, List, ◌∷◌, get_or, length, map, refl, ap₂, ◌∙◌, sym, subst, arith}
use Rattle.std.specs.Array.{IsFromFnResultFrom, IsFromFnResult}
use denote.Param.Members.{Mut, Called}
use Rattle.lists.specs.Fold.{up_from}
use Rattle.lists.proofs.Elements.{elements}

-- two functions that agree on n numbers from a on
module _ {B : Type 0} (f g : ℕ → B) where
  same_from : (n a : ℕ) → ((k : ℕ) → a < suc k → k < a + n → f k ≡ g k) → map f (up_from n a) ≡ map g (up_from n a)
  same_from zero a e = refl
  same_from (suc n) a e = ap₂ ◌∷◌ (e a (omega arith) (omega arith)) (same_from n (suc a) (λ k h l. e k (omega arith) (omega arith)))

-- a list of n that has h of each place there
pub by_place : {B : Type 0} (h : ℕ → B) (ys : List B) (n : ℕ) (d : B) → length ys ≡ n → ((k : ℕ) → k < n → get_or ys k d ≡ h k) → ys ≡ map h (up_from n 0)
by_place h ys n d size at = elements d n ys size ∙ same_from (λ k. get_or ys k d) h n 0 (λ k l m. at k (omega arith))

module _ {F B : Type 0} (g : Mut F (ℕ × Unit {0}) B) (f : F) where
  -- each answer is as P says of its place
  abbrev pub Answers : (ℕ → B → Type 0) → Type 0
  Answers P = (i : ℕ) (y : B) (q : F) → Called g f (i, tt) y q → (q ≡ f) × P i y

  module _ (P : ℕ → B → Type 0) (answers : Answers P) where
    from : (ys : List B) (d : B) (n i : ℕ) → IsFromFnResultFrom g f ys i n → (k j : ℕ) → k < n → i + k ≡ j → P j (get_or ys j d)
    from ys d zero i r k j l e = absurd (omega arith)
    from ys d (suc n) i (q, y, here, called, r) zero j l e =
        let place : i ≡ j = omega arith in
        subst (λ j. P j (get_or ys j d)) place (subst (P i) (sym (here.1 d)) (answers i y q called).1)
    from ys d (suc n) i (q, y, here, called, r) (suc k) j l e =
        from ys d n (i + 1) (subst (λ p. IsFromFnResultFrom g p ys (i + 1) n) (answers i y q called).0 r) k j (omega arith) (omega arith)

    pub at_each : {ys : List B} {n : ℕ} → IsFromFnResult g f ys n → (d : B) (k : ℕ) → k < n → P k (get_or ys k d)
    at_each {ys} {n} r d k l = from ys d n 0 r.each k k l (omega arith)

  pub filled : (h : ℕ → B) → Answers (λ i y. y ≡ h i) → {ys : List B} {n : ℕ} → IsFromFnResult g f ys n → (d : B) → ys ≡ map h (up_from n 0)
  filled h answers {ys} {n} r d = by_place h ys n d r.long (at_each (λ i y. y ≡ h i) answers r d)
