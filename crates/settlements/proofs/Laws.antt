-- What the settlements promise: each is even, who pays what in the words of the rule, what the winner is given, and when the counter rises. Assumes nothing.
use mathlib.Core.Path.{◌≡◌, refl, ◌∙◌, subst}
use mathlib.Core.Bool.{Bool, true, false, cond}
use mathlib.Core.List.{List, [], ◌∷◌}
use Prim.Native.Nat.{ℕ, ◌+◌, ◌*◌, ◌<◌}
use native.Mathlib.Omega.{arith}
use Rattle.std.specs.Prelude.{Some}
use lib.Dec.{T, eqb}
use lib.ListN.{get_or}
use borrow.Author.Tests.{eq-eqb, ne_eqb, lt-ltb}
use Rattle.lists.proofs.Finite.{below_four}
use Rattle.scoring.specs.declared.Payment.{Payment}
use Rattle.scoring.specs.declared.Payment.TheVariants.{Ron, DealerTsumo, Tsumo}
use Rattle.scoring.specs.Payment.{total_at}
use Rattle.seat_book.specs.declared.Deal.{Deal}
use Rattle.seat_book.specs.Points.{four_of}
use Rattle.seat_book.specs.Book.{Even, gets_of, pays_of, is_taken}
use Rattle.settlements.specs.declared.Winner.{Winner}
use Rattle.settlements.specs.Settlements.{of_discarder, owes, gain, given, win_settlement, draw_settlement}

-- ---- what the seats get is what they pay
one_given : (n w : ℕ) → w < 4 → four_of (λ s. given (eqb s w) n) ≡ n
one_given n w h = below_four (λ w. four_of (λ s. given (eqb s w) n) ≡ n) (omega arith) (omega arith) (omega arith) (omega arith) w h

pub win_even : (p : Payment) (counter : ℕ) (w : Winner) (d : Deal) → w.seat < 4 → Even (win_settlement p counter w d)
unfolding win_settlement
win_even p counter w d h = one_given (gain p counter w d) w.seat h

pub draw_even : Even draw_settlement
unfolding draw_settlement
draw_even = refl

-- ---- who pays what: n, and m from the dealer, are the amounts of the payment, c is the counter
module _ (n c : ℕ) (w : Winner) (d : Deal) where
  -- by ron
  pub discarder_pays : owes (Ron n) c w d w.discarder ≡ n + 300 * c
  discarder_pays = rw (eq-eqb w.discarder w.discarder refl)

  pub others_pay_nothing : (s : ℕ) → (s ≡ w.discarder → ⊥) → owes (Ron n) c w d s ≡ 0
  others_pay_nothing s f = rw (ne_eqb s w.discarder f)

  -- by the dealer's tsumo
  pub each_pays : (s : ℕ) → (s ≡ w.seat → ⊥) → owes (DealerTsumo n) c w d s ≡ n + 100 * c
  each_pays s f = rw (ne_eqb s w.seat f)

  pub dealer_pays_nothing : owes (DealerTsumo n) c w d w.seat ≡ 0
  dealer_pays_nothing = rw (eq-eqb w.seat w.seat refl)

  -- by another's tsumo
  module _ (m : ℕ) where
    pub dealer_pays : (d.dealer ≡ w.seat → ⊥) → owes (Tsumo m n) c w d d.dealer ≡ m + 100 * c
    dealer_pays f = rw (ne_eqb d.dealer w.seat f, eq-eqb d.dealer d.dealer refl)

    pub other_pays : (s : ℕ) → (s ≡ d.dealer → ⊥) → (s ≡ w.seat → ⊥) → owes (Tsumo m n) c w d s ≡ n + 100 * c
    other_pays s f g = rw (ne_eqb s d.dealer f, ne_eqb s w.seat g)

    pub winner_pays_nothing : owes (Tsumo m n) c w d w.seat ≡ 0
    winner_pays_nothing = rw (eq-eqb w.seat w.seat refl)

-- ---- what the winner gets: the payment's total, and 300 for each counter in all
-- the seats fit the payment: by ron there is a discarder, by tsumo the winner is the dealer or not
abbrev pub Fitting : Payment → Winner → Deal → Type 0
Fitting (Ron n) w d = w.discarder < 4
Fitting (DealerTsumo n) w d = w.seat < 4
Fitting (Tsumo m n) w d = (w.seat < 4) × ((d.dealer < 4) × (eqb w.seat d.dealer ≡ false))

never : {X : Type 0} → ◌≡◌ {A = Bool} true false → X
never e = absurd (subst (λ b. T b) e tt)

abbrev Shared : ℕ → ℕ → ℕ → ℕ → ℕ → Type 0
Shared m n c w d = eqb w d ≡ false → four_of (λ s. cond (eqb s w) 0 (cond (eqb s d) m n + 100 * c)) ≡ m + n * 2 + 300 * c

by_tsumo_holds : (m n c w d : ℕ) → w < 4 → d < 4 → Shared m n c w d
by_tsumo_holds m n c w d hw hd =
    below_four (λ w. Shared m n c w d) (below_four (Shared m n c 0) (λ e. never e) (λ e. omega arith) (λ e. omega arith) (λ e. omega arith) d hd)
    (below_four (Shared m n c 1) (λ e. omega arith) (λ e. never e) (λ e. omega arith) (λ e. omega arith) d hd)
    (below_four (Shared m n c 2) (λ e. omega arith) (λ e. omega arith) (λ e. never e) (λ e. omega arith) d hd)
    (below_four (Shared m n c 3) (λ e. omega arith) (λ e. omega arith) (λ e. omega arith) (λ e. never e) d hd) w hw

all_from_one : (n c : ℕ) → of_discarder n c true ≡ n + 300 * c
all_from_one n c = omega arith

pub gain_is : (p : Payment) (c : ℕ) (w : Winner) (d : Deal) → Fitting p w d → gain p c w d ≡ total_at 4 p + 300 * c
gain_is (Ron n) c w d h = one_given (of_discarder n c true) w.discarder h ∙ all_from_one n c
gain_is (DealerTsumo n) c w d h =
    below_four (λ k. four_of (λ s. cond (eqb s k) 0 (n + 100 * c)) ≡ n * 3 + 300 * c) (omega arith) (omega arith) (omega arith) (omega arith) w.seat h
gain_is (Tsumo m n) c w d h = by_tsumo_holds m n c w.seat d.dealer h.0 h.1.0 h.1.1

-- ---- a settlement of a win by its seats
module _ (p : Payment) (c : ℕ) (w : Winner) (d : Deal) where
  pub winner_gets_gain : w.seat < 4 → gets_of (win_settlement p c w d) w.seat ≡ gain p c w d
  unfolding win_settlement
  winner_gets_gain h = at_winner (gain p c w d) w.seat h
    where
      at_winner : (n s : ℕ) → s < 4 → get_or (given (eqb 0 s) n ∷ given (eqb 1 s) n ∷ given (eqb 2 s) n ∷ given (eqb 3 s) n ∷ []) s 0 ≡ n
      at_winner n s h = below_four (λ s. get_or (given (eqb 0 s) n ∷ given (eqb 1 s) n ∷ given (eqb 2 s) n ∷ given (eqb 3 s) n ∷ []) s 0 ≡ n) refl refl refl refl s h

  pub others_get_nothing : (s : ℕ) → s < 4 → (s ≡ w.seat → ⊥) → gets_of (win_settlement p c w d) s ≡ 0
  unfolding win_settlement
  others_get_nothing s h f =
      below_four (λ s. (s ≡ w.seat → ⊥) → gets_of (win_settlement p c w d) s ≡ 0) (λ f. rw (ne_eqb 0 w.seat f)) (λ f. rw (ne_eqb 1 w.seat f)) (λ f. rw (ne_eqb 2 w.seat f))
      (λ f. rw (ne_eqb 3 w.seat f)) s h f

  pub each_pays_owed : (s : ℕ) → s < 4 → pays_of (win_settlement p c w d) s ≡ owes p c w d s
  unfolding win_settlement
  each_pays_owed s h = below_four (λ s. pays_of (win_settlement p c w d) s ≡ owes p c w d s) refl refl refl refl s h

  pub winner_takes : (win_settlement p c w d).taker ≡ Some w.seat
  unfolding win_settlement
  winner_takes = refl

  pub sticks_taken : w.seat < 4 → is_taken (win_settlement p c w d) ≡ true
  unfolding win_settlement
  sticks_taken h = lt-ltb w.seat 4 h

  -- ---- the counter rises after a dealer's win, and returns after any other
  pub dealer_raises : w.seat ≡ d.dealer → (win_settlement p c w d).raises ≡ true
  unfolding win_settlement
  dealer_raises e = rw (eq-eqb w.seat d.dealer e)

  pub other_returns : (w.seat ≡ d.dealer → ⊥) → (win_settlement p c w d).raises ≡ false
  unfolding win_settlement
  other_returns f = rw (ne_eqb w.seat d.dealer f)

-- which seats declared is no part of it
pub declared_apart : (p : Payment) (c : ℕ) (w : Winner) (d : Deal) (l : List Bool) → win_settlement p c w (record { dealer = d.dealer; declared = l }) ≡ win_settlement p c w d
unfolding win_settlement
declared_apart (Ron n) c w d l = refl
declared_apart (DealerTsumo n) c w d l = refl
declared_apart (Tsumo m n) c w d l = refl

-- ---- a draw
pub draw_raises : draw_settlement.raises ≡ true
unfolding draw_settlement
draw_raises = refl

pub sticks_stay : is_taken draw_settlement ≡ false
unfolding draw_settlement
sticks_stay = refl

pub draw_moves_nothing : (s : ℕ) → s < 4 → (gets_of draw_settlement s ≡ 0) × (pays_of draw_settlement s ≡ 0)
unfolding draw_settlement
draw_moves_nothing s h = below_four (λ s. (gets_of draw_settlement s ≡ 0) × (pays_of draw_settlement s ≡ 0)) (refl, refl) (refl, refl) (refl, refl) (refl, refl) s h
