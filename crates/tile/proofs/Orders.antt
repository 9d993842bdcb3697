-- How three change places: six ways, which six tests go through, and what holds of each. Assumes nothing.
use mathlib.Core.Path.{◌≡◌, refl, sym, ap, ◌∙◌}
use mathlib.Core.Bool.{Bool, true, false, ◌&&◌, ◌||◌, cond}
use Prim.Native.Nat.{ℕ, zero, suc, ◌≤◌, ◌<◌}
use native.Mathlib.Omega.{arith}
use lib.Dec.{T, eqb, ltb, eqb→eq, ltb→lt}
use Rattle.lists.specs.Fold.{all_below}
use Rattle.lists.proofs.Finite.{at, and_left, and_right}
use Rattle.tile.specs.declared.Order.{Order}
use Rattle.tile.specs.declared.Order.TheVariants.{Abc, Acb, Bac, Bca, Cab, Cba}
use Rattle.tile.specs.Renaming.{order_to, order_back}
use Rattle.tile.specs.Described.{is_suit, OneToOne}

-- ---- the test p passes at each order
abbrev pub all_orders : (Order → Bool) → Bool
all_orders p = p Abc && (p Acb && (p Bac && (p Bca && (p Cab && p Cba))))

pub orders_at : (p : Order → Bool) → T (all_orders p) → (o : Order) → T (p o)
orders_at p t Abc = and_left (p Abc) _ t
orders_at p t Acb = and_left (p Acb) _ (and_right (p Abc) _ t)
orders_at p t Bac = and_left (p Bac) _ (and_right (p Acb) _ (and_right (p Abc) _ t))
orders_at p t Bca = and_left (p Bca) _ (and_right (p Bac) _ (and_right (p Acb) _ (and_right (p Abc) _ t)))
orders_at p t Cab = and_left (p Cab) _ (and_right (p Bca) _ (and_right (p Bac) _ (and_right (p Acb) _ (and_right (p Abc) _ t))))
orders_at p t Cba = and_right (p Cab) _ (and_right (p Bca) _ (and_right (p Bac) _ (and_right (p Acb) _ (and_right (p Abc) _ t))))

-- and at each of the three places
pub places_at : (p : Order → ℕ → Bool) → T (all_orders (λ o. all_below 3 (p o))) → (o : Order) (s : ℕ) → s < 3 → T (p o s)
places_at p ok o = at 3 (p o) (orders_at (λ o. all_below 3 (p o)) ok o)

-- ---- what holds of each
small : (a b : Bool) (x y z : ℕ) → x ≤ 2 → y ≤ 2 → z ≤ 2 → cond a x (cond b y z) ≤ 2
small true b x y z p q r = p
small false true x y z p q r = q
small false false x y z p q r = r

-- a place is at most 2, whatever number is asked for; and so is the answer of `Order::of`
pub order_small : (o : Order) (s : ℕ) → order_to o s ≤ 2
order_small Abc s = small (eqb s 0) (eqb s 1) _ _ _ (omega arith) (omega arith) (omega arith)
order_small Acb s = small (eqb s 0) (eqb s 1) _ _ _ (omega arith) (omega arith) (omega arith)
order_small Bac s = small (eqb s 0) (eqb s 1) _ _ _ (omega arith) (omega arith) (omega arith)
order_small Bca s = small (eqb s 0) (eqb s 1) _ _ _ (omega arith) (omega arith) (omega arith)
order_small Cab s = small (eqb s 0) (eqb s 1) _ _ _ (omega arith) (omega arith) (omega arith)
order_small Cba s = small (eqb s 0) (eqb s 1) _ _ _ (omega arith) (omega arith) (omega arith)

pub order_bound : (o : Order) (s r : ℕ) → r ≡ order_to o s → r ≤ 2
order_bound o s r e = rw e (order_small o s)

-- it is undone by the order that says so, and that by it
pub order_undone : (o : Order) (s : ℕ) → s < 3 → order_to (order_back o) (order_to o s) ≡ s
order_undone o s h = eqb→eq _ _ (places_at (λ o s. eqb (order_to (order_back o) (order_to o s)) s) tt o s h)

pub order_back_holds : (o : Order) → order_back (order_back o) ≡ o
order_back_holds Abc = refl
order_back_holds Acb = refl
order_back_holds Bac = refl
order_back_holds Bca = refl
order_back_holds Cab = refl
order_back_holds Cba = refl

-- no two places become the same
pub order_one_to_one : (o : Order) → OneToOne is_suit (order_to o)
order_one_to_one o =
    record {
      among = λ s h. places_at (λ o s. ltb (order_to o s) 3) tt o s (ltb→lt s 3 h);
      apart = λ s u h k e.
          sym (order_undone o s (ltb→lt s 3 h)) ∙ ap (order_to (order_back o)) e ∙ order_undone o u (ltb→lt u 3 k);
    }

-- ---- and each way to change places is one
-- the order in which a goes to the place x and b to y
abbrev pub order : ℕ → ℕ → Order
order x y = cond (eqb x 0) (cond (eqb y 1) Abc Acb) (cond (eqb x 1) (cond (eqb y 0) Bac Bca) (cond (eqb y 0) Cab Cba))

-- it sends a to x, b to y and c to z
abbrev sends : ℕ → ℕ → ℕ → Bool
sends x y z = eqb (order_to (order x y) 0) x && (eqb (order_to (order x y) 1) y && eqb (order_to (order x y) 2) z)

-- two of the places are the same, or the order sends a, b and c there
abbrev same_or_sends : ℕ → ℕ → ℕ → Bool
same_or_sends x y z = eqb x y || (eqb x z || (eqb y z || sends x y z))

orders_test : T (all_below 3 (λ x. all_below 3 (λ y. all_below 3 (same_or_sends x y))))
orders_test = tt

or_not : (a b : Bool) → (T a → ⊥) → T (a || b) → T b
or_not true b n t = absurd (n tt)
or_not false b n t = t

module _ (σ : ℕ → ℕ) (one : OneToOne is_suit σ) where
  differ : (s u : ℕ) → T (is_suit s) → T (is_suit u) → (s ≡ u → ⊥) → T (eqb (σ s) (σ u)) → ⊥
  differ s u h k n t = n (one.apart s u h k (eqb→eq (σ s) (σ u) t))

  abbrev goes : ℕ → Bool
  goes s = eqb (order_to (order (σ 0) (σ 1)) s) (σ s)

  place : (s : ℕ) → T (is_suit s) → σ s < 3
  place s h = ltb→lt (σ s) 3 (one.among s h)

  sent : T (sends (σ 0) (σ 1) (σ 2))
  sent =
      or_not (eqb (σ 1) (σ 2)) _ (differ 1 2 tt tt (λ e. omega arith))
      (or_not (eqb (σ 0) (σ 2)) _ (differ 0 2 tt tt (λ e. omega arith))
      (or_not (eqb (σ 0) (σ 1)) _ (differ 0 1 tt tt (λ e. omega arith))
      (at 3 (same_or_sends (σ 0) (σ 1))
      (at 3 (λ y. all_below 3 (same_or_sends (σ 0) y))
      (at 3 (λ x. all_below 3 (λ y. all_below 3 (same_or_sends x y))) orders_test (σ 0) (place 0 tt))
      (σ 1) (place 1 tt))
      (σ 2) (place 2 tt))))

  pub order_sends : (s : ℕ) → s < 3 → order_to (order (σ 0) (σ 1)) s ≡ σ s
  order_sends zero h = eqb→eq _ _ (and_left (goes 0) _ sent)
  order_sends (suc zero) h = eqb→eq _ _ (and_left (goes 1) _ (and_right (goes 0) _ sent))
  order_sends (suc (suc zero)) h = eqb→eq _ _ (and_right (goes 1) _ (and_right (goes 0) _ sent))
  order_sends (suc (suc (suc s))) h = absurd (omega arith)

-- an order is told by what a and b become
pub order_is : (o : Order) → order (order_to o 0) (order_to o 1) ≡ o
order_is Abc = refl
order_is Acb = refl
order_is Bac = refl
order_is Bca = refl
order_is Cab = refl
order_is Cba = refl
