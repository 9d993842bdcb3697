-- What a booked win does not read. Assumes nothing.
use mathlib.Core.Path.{◌≡◌, refl, ap}
use mathlib.Core.Bool.{Bool, cond}
use mathlib.Core.List.{List}
use Prim.Native.Nat.{ℕ}
use lib.Dec.{eqb}
use Rattle.context.specs.declared.GameContext.{GameContext}
use Rattle.context.specs.Context.{seated_as}
use Rattle.checks.specs.declared.Calls.{Calls}
use Rattle.win.specs.Win.{score_win}
use Rattle.seat_book.specs.declared.SeatBook.{SeatBook}
use Rattle.seat_book.specs.declared.Deal.{Deal}
use Rattle.seat_book.specs.declared.Settlement.{Settlement}
use Rattle.seat_book.specs.Book.{has_room}
use Rattle.seat_book.specs.History.{refused}
use Rattle.settlements.specs.declared.Winner.{Winner}
use Rattle.settlements.proofs.Laws.{declared_apart}
use Rattle.booking.specs.Booking.{are_seats, seated, raising, scored_outcome, win_outcome}

module _ (b : SeatBook) (cs : List ℕ) (k : Calls) (w : GameContext) (d : Deal) (p : Winner) where
  -- the win's own type and seat wind: the seats say them
  pub own_seat_unread : (t v : ℕ) → win_outcome b cs k (seated_as t v w) d p ≡ win_outcome b cs k w d p
  unfolding win_outcome
  own_seat_unread t v = refl

  -- which seats declared, so that it is not compared with the riichi flag
  pub declared_unread : (l : List Bool) → win_outcome b cs k w (record { dealer = d.dealer; declared = l }) p ≡ win_outcome b cs k w d p
  unfolding win_outcome scored_outcome
  declared_unread l =
      let n = (score_win cs k (seated d p w)).number in
      ap (λ (x : Settlement). cond (are_seats d p) (cond (has_room b) (cond (eqb n 0) (raising b x) (refused n)) (refused 16)) (refused 15))
      (declared_apart (score_win cs k (seated d p w)).score.payment b.counter p d l)
