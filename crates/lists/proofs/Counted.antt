-- How often an element stands in a list, in a list in order, and in two lists together. Assumes nothing.
use mathlib.Core.Path.{◌≡◌, refl, sym, ap, ◌∙◌}
use mathlib.Core.Logic.{◌⊎◌, inl, inr, ⊎_elim}
use mathlib.Core.Bool.{Bool, true, false}
use mathlib.Core.List.Memᴰ
use mathlib.Core.List.{List, [], ◌∷◌, ◌++◌, Memᴰ}
use Prim.Native.Nat.{ℕ, zero, suc, ◌+◌, ◌≤◌}
use native.Mathlib.Omega.{arith}
use lib.Dec.{T}
use lib.ListN.{length, length-append, length-replicate, replicate}
use Rattle.lists.specs.Fold.{one}
use Rattle.lists.specs.Order.{Nodup, times, arrange}
use Rattle.lists.proofs.Arranged.{times_yes, times_zero, pick_mem, arrange_pick}
use Rattle.lists.proofs.Sums.{sum_append}

module _ {A : Type 0} where
  -- a member of n times the same
  in_repeat : (n : ℕ) {x m : A} → Memᴰ x (replicate n m) → (x ≡ m) × (1 ≤ n)
  in_repeat zero i = absurd (Memᴰ.not-nil i)
  in_repeat (suc n) i = (⊎_elim (λ e. e) (λ j. (in_repeat n j).0) (Memᴰ.cases_cons i), omega arith)

module _ {A : Type 0} (eq : A → A → Bool) where
  -- in order, two lists together are as long as each alone
  pub arranged_length : (ms k l : List A) → length (arrange eq ms (k ++ l)) ≡ length (arrange eq ms k) + length (arrange eq ms l)
  arranged_length [] k l = refl
  arranged_length (m ∷ ms) k l =
      omega (
        arith,
        arranged_length ms k l,
        sum_append (λ y. one (eq m y)) k l,
        length-append (replicate (times eq m (k ++ l)) m) (arrange eq ms (k ++ l)),
        length-append (replicate (times eq m k) m) (arrange eq ms k),
        length-append (replicate (times eq m l) m) (arrange eq ms l),
        length-replicate (times eq m (k ++ l)) m,
        length-replicate (times eq m k) m,
        length-replicate (times eq m l) m,
      )

module _ {A : Type 0} (eq : A → A → Bool) (sound : (a b : A) → T (eq a b) → a ≡ b) (self : (a : A) → T (eq a a)) where
  pub times_in : {x : A} {l : List A} → Memᴰ x l → 1 ≤ times eq x l
  times_in {x} (Memᴰ.head {xs = xs} e) = omega (arith, times_yes eq sound self xs (sym e))
  times_in (Memᴰ.tail i) = let h = times_in i in omega arith

  pub in_times : (x : A) (l : List A) → 1 ≤ times eq x l → Memᴰ x l
  in_times x [] h = absurd (omega arith)
  in_times x (y ∷ l) h = go (eq x y) (sound x y) (in_times x l) h
    where
      go : (b : Bool) → (T b → x ≡ y) → (1 ≤ times eq x l → Memᴰ x l) → 1 ≤ one b + times eq x l → Memᴰ x (y ∷ l)
      go true f r h = Memᴰ.head (f tt)
      go false f r h = Memᴰ.tail (r (omega arith))

  pub times_once : (x : A) (l : List A) → Nodup l → times eq x l ≤ 1
  times_once x [] n = omega arith
  times_once x (y ∷ l) n = go (eq x y) (sound x y) (times_once x l n.1)
    where
      go : (b : Bool) → (T b → x ≡ y) → times eq x l ≤ 1 → one b + times eq x l ≤ 1
      go true f r = omega (arith, times_zero eq sound self x l (λ i. n.0 (Memᴰ.cast (sym (f tt)) i)))
      go false f r = omega arith

  times_repeat : (n : ℕ) {x m : A} → m ≡ x → times eq x (replicate n m) ≡ n
  times_repeat zero e = refl
  times_repeat (suc n) {m = m} e = times_yes eq sound self (replicate n m) e ∙ ap suc (times_repeat n e)

  -- a list in order has each candidate as often as the list
  pub times_arranged : (ms l : List A) {x : A} → Nodup ms → Memᴰ x ms → times eq x (arrange eq ms l) ≡ times eq x l
  times_arranged [] l n i = absurd (Memᴰ.not-nil i)
  times_arranged (m ∷ ms) l {x} n i = sum_append (λ y. one (eq x y)) (replicate (times eq m l) m) (arrange eq ms l) ∙ go (times_arranged ms l n.1) (Memᴰ.cases_cons i)
    where
      go :
          (Memᴰ x ms → times eq x (arrange eq ms l) ≡ times eq x l) → (x ≡ m) ⊎ Memᴰ x ms
          → times eq x (replicate (times eq m l) m) + times eq x (arrange eq ms l) ≡ times eq x l
      go r (inl e) =
          let a = times_repeat (times eq m l) (sym e) in
          let b = times_zero eq sound self x (arrange eq ms l) (λ j. n.0 (Memᴰ.cast (sym e) (pick_mem (arrange_pick eq sound self ms l) j))) in
          let d : times eq m l ≡ times eq x l = ap (λ (y : A). times eq y l) (sym e) in
          omega arith
      go r (inr j) =
          let a = times_zero eq sound self x (replicate (times eq m l) m) (λ k. n.0 (Memᴰ.cast (sym (in_repeat (times eq m l) k).0) j)) in
          let b = r j in
          omega arith

  -- a list in order has no other members than the list
  pub in_arranged : (ms l : List A) {x : A} → Memᴰ x (arrange eq ms l) → Memᴰ x l
  in_arranged [] l i = absurd (Memᴰ.not-nil i)
  in_arranged (m ∷ ms) l i =
      ⊎_elim
      (λ j. let r = in_repeat (times eq m l) j in Memᴰ.cast r.0 (in_times m l r.1))
      (in_arranged ms l) (Memᴰ.append_cases (replicate (times eq m l) m) i)
