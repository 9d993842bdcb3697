-- The number that refuses to book a win: that of the first check that fails, scoring's in their place. Assumes nothing.
use mathlib.Core.Path.{◌≡◌, refl}
use mathlib.Core.Logic.{◌↔◌}
use mathlib.Core.List.{List}
use Prim.Native.Nat.{ℕ}
use Rattle.lists.specs.Refusals.{Answers}
use Rattle.rules.specs.Rules.{four}
use Rattle.context.specs.declared.GameContext.{GameContext}
use Rattle.checks.specs.declared.Calls.{Calls}
use Rattle.win.specs.Win.{score_win}
use Rattle.win.specs.Refusals.{score_checks}
use Rattle.win_promises.proofs.Refusals.{score_refusals}
use Rattle.seat_book.specs.declared.SeatBook.{SeatBook}
use Rattle.seat_book.specs.declared.Deal.{Deal}
use Rattle.seat_book.specs.History.{number_of}
use Rattle.settlements.specs.declared.Winner.{Winner}
use Rattle.booking.specs.Booking.{seated, win_outcome}
use Rattle.booking.specs.Refusals.{win_book_checks}
use Rattle.booking.proofs.Refusals.{win_book_refusals_by}

-- n is answered exactly where the checks before it pass and this one fails; 0 where all pass
pub win_book_refusals :
    (b : SeatBook) (cs : List ℕ) (k : Calls) (w : GameContext) (d : Deal) (p : Winner) (n : ℕ)
    → (number_of (win_outcome b cs k w d p) ≡ n) ↔ Answers (win_book_checks b d p (score_checks four cs k (seated d p w))) n
win_book_refusals b cs k w d p =
    let v = seated d p w in
    win_book_refusals_by b d p (score_checks four cs k v) tt cs k w ((score_refusals four cs k v (score_win cs k v).number).0 refl)
