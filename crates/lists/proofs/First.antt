-- A test over the first n of a list, as a loop makes it: what one element adds, from the front. Assumes nothing.
use mathlib.Core.Path.{◌≡◌, sym, ap, ◌∙◌}
use mathlib.Core.Bool.{Bool, true, false, ◌&&◌}
use mathlib.Core.List.{List, [], ◌∷◌}
use Prim.Native.Nat.{ℕ, zero, suc, ◌+◌, ◌<◌, ◌≤◌}
use native.Mathlib.Nat.{not-suc-le-zero, le_of_suc-le-suc}
use native.Mathlib.Numerals.{add-one}
use native.Mathlib.Omega.{arith}
use lib.Dec.{T}
use lib.ListN.{length, get_or, take, drop, length-take, drop_of_length-le}
use lib.Seq.{drop-cons, get_or-take}
use Rattle.lists.specs.Fold.{all}
use Rattle.lists.proofs.Finite.{and_left, and_right}

module _ {A : Type 0} (p : A → Bool) where
  pub all_at : (l : List A) (i : ℕ) (d : A) → T (all p l) → i < length l → T (p (get_or l i d))
  all_at [] i d t h = absurd (not-suc-le-zero h)
  all_at (a ∷ l) zero d t h = and_left (p a) (all p l) t
  all_at (a ∷ l) (suc i) d t h = all_at l i d (and_right (p a) (all p l) t) (le_of_suc-le-suc h)

  module _ (l : List A) (n i : ℕ) (fits : n ≤ length l) where
    first_length : length (take n l) ≡ n
    first_length = length-take n l ∙ omega arith

    pub first_at : (d : A) → T (all p (take n l)) → i < n → T (p (get_or l i d))
    first_at d t h = rw (get_or-take n l i d) at (all_at (take n l) i d t (let e = first_length in omega arith))

    first_next : (d : A) → i < n → all p (drop i (take n l)) ≡ p (get_or l i d) && all p (drop (i + 1) (take n l))
    first_next d h =
        let k : i < length (take n l) = (let e = first_length in omega arith) in
        rw (add-one, drop-cons (take n l) i d, get_or-take n l i d)

    pub first_pass : (d : A) → i < n → p (get_or l i d) ≡ true → all p (drop (i + 1) (take n l)) ≡ all p (drop i (take n l))
    first_pass d h e = sym (first_next d h ∙ ap (λ (b : Bool). b && all p (drop (i + 1) (take n l))) e)

    pub first_fail : (d : A) → i < n → p (get_or l i d) ≡ false → all p (drop i (take n l)) ≡ false
    first_fail d h e = first_next d h ∙ ap (λ (b : Bool). b && all p (drop (i + 1) (take n l))) e

    pub first_end : n ≤ i → all p (drop i (take n l)) ≡ true
    first_end h =
        let k : length (take n l) ≤ i = (let e = first_length in omega arith) in
        ap (all p) (drop_of_length-le (take n l) {i = i} k)
