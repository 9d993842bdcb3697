-- Tests over the 12 renamings of the numbers alone, the 12 of the honors alone and all tiles that antt computes, and the laws of renamed tiles
-- that they give for all 144: what a renaming does to a tile is done by one of its two parts. Assumes nothing.
use mathlib.Core.Path.{◌≡◌, refl, sym, ap, subst, ◌∙◌}
use mathlib.Core.Bool.{Bool, true, false, ◌&&◌, beq}
use Prim.Native.Nat.{ℕ, ◌≤◌, ◌<◌}
use native.Mathlib.Omega.{arith}
use lib.Dec.{T, eqb, ltb, leb, eqb→eq, ltb→lt}
use borrow.Author.Tests.{eq-eqb, ne_eqb, lt-ltb, le-ltb, ltb-true, ltb-false}
use Rattle.lists.specs.Fold.{all_below}
use Rattle.lists.proofs.Finite.{at, beq→eq, and_left, and_right, true→t, T-eq}
use Rattle.tile.specs.declared.Order.{Order}
use Rattle.tile.specs.declared.Order.TheVariants.{Abc}
use Rattle.tile.specs.declared.Numbers.{Numbers}
use Rattle.tile.specs.declared.Honors.{Honors}
use Rattle.tile.specs.declared.Renaming.{Renaming}
use Rattle.tile.specs.Renaming.{ren, back}
use Rattle.tile.specs.Tile.{is_suited, is_honor, is_wind, is_dragon, is_terminal, is_simple, is_terminal_or_honor}
use Rattle.tile.specs.Named.{East, White, Red}
use Rattle.tile.proofs.Orders.{all_orders, orders_at, order_back_holds}

-- ---- a renaming by what it does to suits, numbers, dragons and winds
abbrev pub renaming : Order → Bool → Bool → Order → Renaming
renaming s m d v = record { numbers = record { suits = s; mirror = m }; honors = record { dragons = d; winds = v } }

-- the one that leaves all honors, and the one that leaves all tiles of suits
abbrev pub numbers_alone : Numbers → Renaming
numbers_alone ν = record { numbers = ν; honors = record { dragons = false; winds = Abc } }

abbrev pub honors_alone : Honors → Renaming
honors_alone η = record { numbers = record { suits = Abc; mirror = false }; honors = η }

-- ---- the test p passes at each of the 12 of numbers, each of the 12 of honors
abbrev all_bool : (Bool → Bool) → Bool
all_bool p = p true && p false

bool_at : (p : Bool → Bool) → T (all_bool p) → (b : Bool) → T (p b)
bool_at p t true = and_left (p true) (p false) t
bool_at p t false = and_right (p true) (p false) t

abbrev pub all_numbers : (Numbers → Bool) → Bool
all_numbers p = all_orders (λ s. all_bool (λ m. p (record { suits = s; mirror = m })))

pub numbers_at : (p : Numbers → Bool) → T (all_numbers p) → (ν : Numbers) → T (p ν)
numbers_at p t ν =
    bool_at (λ m. p (record { suits = ν.suits; mirror = m }))
    (orders_at (λ s. all_bool (λ m. p (record { suits = s; mirror = m }))) t ν.suits) ν.mirror

abbrev pub all_honors : (Honors → Bool) → Bool
all_honors p = all_orders (λ v. all_bool (λ d. p (record { dragons = d; winds = v })))

pub honors_at : (p : Honors → Bool) → T (all_honors p) → (η : Honors) → T (p η)
honors_at p t η =
    bool_at (λ d. p (record { dragons = d; winds = η.winds }))
    (orders_at (λ v. all_bool (λ d. p (record { dragons = d; winds = v }))) t η.winds) η.dragons

-- and at both, 24 together: each renaming that has one part alone
abbrev pub all_ren : (Renaming → Bool) → Bool
all_ren p = all_numbers (λ ν. p (numbers_alone ν)) && all_honors (λ η. p (honors_alone η))

-- a test that asks for tiles of suits alone needs only the 12 of numbers, whatever the honors do, and one that asks for honors alone the others
pub numbers_test : (p : Renaming → Bool) (ρ : Renaming) → T (all_numbers (λ ν. p (record { numbers = ν; honors = ρ.honors }))) → T (p ρ)
numbers_test p ρ ok = numbers_at (λ ν. p (record { numbers = ν; honors = ρ.honors })) ok ρ.numbers

pub honors_test : (p : Renaming → Bool) (ρ : Renaming) → T (all_honors (λ η. p (record { numbers = ρ.numbers; honors = η }))) → T (p ρ)
honors_test p ρ ok = honors_at (λ η. p (record { numbers = ρ.numbers; honors = η })) ok ρ.honors

module _ (p : Renaming → Bool) (ok : T (all_ren p)) where
  pub at_numbers : (ν : Numbers) → T (p (numbers_alone ν))
  at_numbers = numbers_at (λ ν. p (numbers_alone ν)) (and_left (all_numbers (λ ν. p (numbers_alone ν))) _ ok)

  pub at_honors : (η : Honors) → T (p (honors_alone η))
  at_honors = honors_at (λ η. p (honors_alone η)) (and_right (all_numbers (λ ν. p (numbers_alone ν))) _ ok)

-- ---- which part renames a tile
pub by_numbers : (ρ : Renaming) (t : ℕ) → t < 27 → ren ρ t ≡ ren (numbers_alone ρ.numbers) t
by_numbers ρ t h = simp (lt-ltb t 27 h)

pub by_honors : (ρ : Renaming) (t : ℕ) → 27 ≤ t → ren ρ t ≡ ren (honors_alone ρ.honors) t
by_honors ρ t h = simp (le-ltb t 27 h)

and_false : (b : Bool) → b && false ≡ false
and_false true = refl
and_false false = refl

-- a number above 33 stays
pub ren_above : (ρ : Renaming) (t : ℕ) → 33 < t → ren ρ t ≡ t
ren_above ρ t h =
    simp (
      le-ltb t 27 (omega arith),
      ne_eqb t White (λ e. omega arith),
      ne_eqb t Red (λ e. omega arith),
      le-ltb t 31 (omega arith),
      and_false ρ.honors.dragons,
      and_false (leb 28 t),
    )

-- ---- laws of tiles, each by a test that antt computes

-- a test of each tile and the tile that it becomes
pub tiles_at_holds : (q : ℕ → ℕ → Bool) → T (all_ren (λ ρ. all_below 34 (λ t. q t (ren ρ t)))) → (ρ : Renaming) (t : ℕ) → t < 34 → T (q t (ren ρ t))
tiles_at_holds q ok ρ t h = go (ltb t 27) refl
  where
    go : (b : Bool) → ltb t 27 ≡ b → T (q t (ren ρ t))
    go true e =
        subst (λ (u : ℕ). T (q t u)) (sym (by_numbers ρ t (ltb-true t 27 e)))
        (at 34 (λ t. q t (ren (numbers_alone ρ.numbers) t)) (at_numbers (λ ρ. all_below 34 (λ t. q t (ren ρ t))) ok ρ.numbers) t h)
    go false e =
        subst (λ (u : ℕ). T (q t u)) (sym (by_honors ρ t (ltb-false t 27 e)))
        (at 34 (λ t. q t (ren (honors_alone ρ.honors) t)) (at_honors (λ ρ. all_below 34 (λ t. q t (ren ρ t))) ok ρ.honors) t h)

-- a question of a tile that no renaming changes
pub tile_law : (p : ℕ → Bool) → T (all_ren (λ ρ. all_below 34 (λ t. beq (p (ren ρ t)) (p t)))) → (ρ : Renaming) (t : ℕ) → t < 34 → p (ren ρ t) ≡ p t
tile_law p ok ρ t h = beq→eq _ _ (tiles_at_holds (λ t u. beq (p u) (p t)) ok ρ t h)

pub ren_lt : (ρ : Renaming) (t : ℕ) → t < 34 → ren ρ t < 34
ren_lt ρ t h = ltb→lt (ren ρ t) 34 (tiles_at_holds (λ t u. ltb u 34) tt ρ t h)

pub ren_is_suited_holds : (ρ : Renaming) (t : ℕ) → t < 34 → is_suited (ren ρ t) ≡ is_suited t
ren_is_suited_holds = tile_law is_suited tt

-- ---- the numbers first, and then the honors
-- the renaming that leaves every tile
abbrev pub still : Renaming
still = renaming Abc false false Abc

ren_still : (t : ℕ) → t < 34 → ren still t ≡ t
ren_still t h = eqb→eq _ _ (at 34 (λ t. eqb (ren still t) t) tt t h)

pub ren_parts : (ρ : Renaming) (t : ℕ) → t < 34 → ren ρ t ≡ ren (honors_alone ρ.honors) (ren (numbers_alone ρ.numbers) t)
ren_parts ρ t h = go (ltb t 27) refl
  where
    go : (b : Bool) → ltb t 27 ≡ b → ren ρ t ≡ ren (honors_alone ρ.honors) (ren (numbers_alone ρ.numbers) t)
    go true e =
        let n = numbers_alone ρ.numbers in
        by_numbers ρ t (ltb-true t 27 e)
        ∙ sym (by_numbers (honors_alone ρ.honors) (ren n t) (ltb-true (ren n t) 27 (ren_is_suited_holds n t h ∙ e)) ∙ ren_still (ren n t) (ren_lt n t h))
    go false e =
        let k = ltb-false t 27 e in
        by_honors ρ t k ∙ ap (ren (honors_alone ρ.honors)) (sym (by_honors (numbers_alone ρ.numbers) t k ∙ ren_still t h))

-- ---- undone
back_test : T (all_ren (λ ρ. all_below 34 (λ t. eqb (ren (back ρ) (ren ρ t)) t)))
back_test = tt

pub back_ren : (ρ : Renaming) (t : ℕ) → t < 34 → ren (back ρ) (ren ρ t) ≡ t
back_ren ρ t h = go (ltb t 27) refl
  where
    undone : (τ : Renaming) → T (all_below 34 (λ t. eqb (ren (back τ) (ren τ t)) t)) → ren (back τ) (ren τ t) ≡ t
    undone τ ok = eqb→eq _ _ (at 34 (λ t. eqb (ren (back τ) (ren τ t)) t) ok t h)

    go : (b : Bool) → ltb t 27 ≡ b → ren (back ρ) (ren ρ t) ≡ t
    go true e =
        let n = numbers_alone ρ.numbers in
        ap (ren (back ρ)) (by_numbers ρ t (ltb-true t 27 e))
        ∙ by_numbers (back ρ) (ren n t) (ltb-true _ 27 (ren_is_suited_holds n t h ∙ e))
        ∙ undone n (at_numbers (λ ρ. all_below 34 (λ t. eqb (ren (back ρ) (ren ρ t)) t)) back_test ρ.numbers)
    go false e =
        let n = honors_alone ρ.honors in
        ap (ren (back ρ)) (by_honors ρ t (ltb-false t 27 e))
        ∙ by_honors (back ρ) (ren n t) (ltb-false _ 27 (ren_is_suited_holds n t h ∙ e))
        ∙ undone n (at_honors (λ ρ. all_below 34 (λ t. eqb (ren (back ρ) (ren ρ t)) t)) back_test ρ.honors)

-- what undoes it is undone by it
pub back_back : (ρ : Renaming) → back (back ρ) ≡ ρ
back_back ρ =
    λ i. renaming (order_back_holds ρ.numbers.suits i) ρ.numbers.mirror ρ.honors.dragons (order_back_holds ρ.honors.winds i)

pub ren_back : (ρ : Renaming) (t : ℕ) → t < 34 → ren ρ (ren (back ρ) t) ≡ t
ren_back ρ t h = subst (λ (τ : Renaming). ren τ (ren (back ρ) t) ≡ t) (back_back ρ) (back_ren (back ρ) t h)

-- so no two tiles become the same
pub ren_eqb : (ρ : Renaming) (t u : ℕ) → t < 34 → u < 34 → eqb (ren ρ t) (ren ρ u) ≡ eqb t u
ren_eqb ρ t u h k =
    T-eq (eqb (ren ρ t) (ren ρ u)) (eqb t u)
    (λ e. true→t _ (eq-eqb t u (sym (back_ren ρ t h) ∙ ap (ren (back ρ)) (eqb→eq (ren ρ t) (ren ρ u) e) ∙ back_ren ρ u k)))
    (λ e. true→t _ (eq-eqb (ren ρ t) (ren ρ u) (ap (ren ρ) (eqb→eq t u e))))

-- ---- what stays what it is; of East and of winds this holds of every number
any_number : (p : ℕ → Bool) (ρ : Renaming) → ((t : ℕ) → t < 34 → p (ren ρ t) ≡ p t) → (t : ℕ) → p (ren ρ t) ≡ p t
any_number p ρ law t = go (ltb t 34) refl
  where
    go : (b : Bool) → ltb t 34 ≡ b → p (ren ρ t) ≡ p t
    go true e = law t (ltb-true t 34 e)
    go false e = ap p (ren_above ρ t (let h = ltb-false t 34 e in omega arith))

-- East stays, and nothing else becomes East
pub ren_east : (ρ : Renaming) (t : ℕ) → eqb (ren ρ t) East ≡ eqb t East
ren_east ρ = any_number (λ t. eqb t East) ρ (tile_law (λ t. eqb t East) tt ρ)

pub ren_is_wind_holds : (ρ : Renaming) (t : ℕ) → is_wind (ren ρ t) ≡ is_wind t
ren_is_wind_holds ρ = any_number is_wind ρ (tile_law is_wind tt ρ)

pub ren_is_honor_holds : (ρ : Renaming) (t : ℕ) → t < 34 → is_honor (ren ρ t) ≡ is_honor t
ren_is_honor_holds = tile_law is_honor tt

pub ren_is_dragon_holds : (ρ : Renaming) (t : ℕ) → t < 34 → is_dragon (ren ρ t) ≡ is_dragon t
ren_is_dragon_holds = tile_law is_dragon tt

pub ren_is_terminal_holds : (ρ : Renaming) (t : ℕ) → t < 34 → is_terminal (ren ρ t) ≡ is_terminal t
ren_is_terminal_holds = tile_law is_terminal tt

pub ren_is_simple_holds : (ρ : Renaming) (t : ℕ) → t < 34 → is_simple (ren ρ t) ≡ is_simple t
ren_is_simple_holds = tile_law is_simple tt

pub ren_is_terminal_or_honor_holds : (ρ : Renaming) (t : ℕ) → t < 34 → is_terminal_or_honor (ren ρ t) ≡ is_terminal_or_honor t
ren_is_terminal_or_honor_holds = tile_law is_terminal_or_honor tt
