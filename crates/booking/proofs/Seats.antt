-- The seats of a deal: that they are those of four players, as a test and as a fact, and the winner's seat wind. Assumes nothing.
use mathlib.Core.Path.{◌≡◌, refl, ap, ◌∙◌, sym}
use mathlib.Core.Logic.{◌≢◌}
use mathlib.Core.Bool.{Bool, true, false, ◌&&◌, ◌||◌, not}
use Prim.Native.Nat.{ℕ, ◌+◌, ◌%◌, ◌<◌}
use lib.Dec.{T, ltb, eqb, ltb→lt}
use borrow.Author.Tests.{lt-ltb, ne_eqb, eqb-false, not-true}
use Rattle.lists.proofs.Finite.{and_left, and_right, T→true, true→t, below_four}
use Rattle.tile.specs.Named.{East, South, West, North}
use Rattle.context.specs.Named.{by_ron, by_tsumo}
use Rattle.seat_book.specs.declared.Deal.{Deal}
use Rattle.settlements.specs.declared.Winner.{Winner}
use Rattle.booking.specs.Booking.{is_other, are_seats, seat_wind, type_of}
use Rattle.booking.specs.Refusals.{Seated}

-- ---- each test is its fact
module _ (d : Deal) (p : Winner) (h : are_seats d p ≡ true) where
  later : T (ltb p.seat 4 && is_other p)
  later = and_right (ltb d.dealer 4) (ltb p.seat 4 && is_other p) (true→t (are_seats d p) h)

  pub dealer_seated : d.dealer < 4
  dealer_seated = ltb→lt d.dealer 4 (and_left (ltb d.dealer 4) (ltb p.seat 4 && is_other p) (true→t (are_seats d p) h))

  pub winner_seated : p.seat < 4
  winner_seated = ltb→lt p.seat 4 (and_left (ltb p.seat 4) (is_other p) later)

  discarder_seated : p.has_discarder ≡ true → (p.discarder < 4) × (p.discarder ≢ p.seat)
  discarder_seated e =
      let apart = not (eqb p.discarder p.seat) in
      let last = T→true (is_other p) (and_right (ltb p.seat 4) (is_other p) later) in
      let t = true→t (ltb p.discarder 4 && apart) (sym (ap (λ b. not b || (ltb p.discarder 4 && apart)) e) ∙ last) in (
        ltb→lt p.discarder 4 (and_left (ltb p.discarder 4) apart t),
        eqb-false p.discarder p.seat (not-true (eqb p.discarder p.seat) (T→true apart (and_right (ltb p.discarder 4) apart t))),
      )

  pub is_seated : Seated d p
  is_seated = record { dealer = dealer_seated; winner = winner_seated; discarder = discarder_seated }

pub seated_is : (d : Deal) (p : Winner) → Seated d p → are_seats d p ≡ true
seated_is d p h = go p.has_discarder refl
  where
    go : (t : Bool) → p.has_discarder ≡ t → are_seats d p ≡ true
    go true e =
        let f = h.discarder e in
        rw (lt-ltb d.dealer 4 h.dealer, lt-ltb p.seat 4 h.winner, e, lt-ltb p.discarder 4 f.0, ne_eqb p.discarder p.seat f.1)
    go false e = rw (lt-ltb d.dealer 4 h.dealer, lt-ltb p.seat 4 h.winner, e)

-- ---- the winds in turn order from the dealer on: East is the dealer's, and nobody else's
abbrev EastAt : ℕ → ℕ → Type 0
EastAt d s = eqb (seat_wind d s) East ≡ eqb s d

pub dealer_is_east : (d s : ℕ) → d < 4 → s < 4 → eqb (seat_wind d s) East ≡ eqb s d
dealer_is_east d s hd hs =
    below_four (λ d. EastAt d s) (below_four (EastAt 0) refl refl refl refl s hs) (below_four (EastAt 1) refl refl refl refl s hs)
    (below_four (EastAt 2) refl refl refl refl s hs) (below_four (EastAt 3) refl refl refl refl s hs) d hd

pub next_is_south : (d : ℕ) → d < 4 → seat_wind d ((d + 1) % 4) ≡ South
next_is_south d h = below_four (λ d. seat_wind d ((d + 1) % 4) ≡ South) refl refl refl refl d h

pub across_is_west : (d : ℕ) → d < 4 → seat_wind d ((d + 2) % 4) ≡ West
across_is_west d h = below_four (λ d. seat_wind d ((d + 2) % 4) ≡ West) refl refl refl refl d h

pub before_is_north : (d : ℕ) → d < 4 → seat_wind d ((d + 3) % 4) ≡ North
before_is_north d h = below_four (λ d. seat_wind d ((d + 3) % 4) ≡ North) refl refl refl refl d h

-- ---- a discarder makes it a ron
pub ron_if_discarded : type_of true ≡ by_ron
ron_if_discarded = refl

pub tsumo_if_not : type_of false ≡ by_tsumo
tsumo_if_not = refl
