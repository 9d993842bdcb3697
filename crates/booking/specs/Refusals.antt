-- What a booking asks, in the words of document 02. These are definitions.
use Rattle.std.specs.Prelude.{◌≡◌, ◌≢◌, true, List, [], ◌∷◌, ◌++◌, ◌<◌}
use Rattle.lists.specs.Refusals.{Check, unless}
use Rattle.seat_book.specs.declared.SeatBook.{SeatBook}
use Rattle.seat_book.specs.declared.Deal.{Deal}
use Rattle.seat_book.specs.Refusals.{Roomy}
use Rattle.settlements.specs.declared.Winner.{Winner}

-- no seat is above 3, and the discarder, if there is one, is another than the winner
pub record Seated (d : Deal) (p : Winner) : Type 0 where
  pub dealer : d.dealer < 4
  pub winner : p.seat < 4
  pub discarder : p.has_discarder ≡ true → (p.discarder < 4) × (p.discarder ≢ p.seat)

-- a win of the dealer does not raise a counter of 255
abbrev pub Countable : SeatBook → Deal → Winner → Type 0
Countable b d p = p.seat ≡ d.dealer → b.counter ≢ 255

-- a win: the seats, the book, what scoring asks, and last the counter
abbrev pub win_book_checks : SeatBook → Deal → Winner → List Check → List Check
win_book_checks b d p scoring = unless 15 (Seated d p) ∷ unless 16 (Roomy b) ∷ (scoring ++ (unless 16 (Countable b d p) ∷ []))

-- a draw: the dealer's seat, the book and the counter
abbrev pub draw_book_checks : SeatBook → Deal → List Check
draw_book_checks b d = unless 15 (d.dealer < 4) ∷ unless 16 (Roomy b) ∷ unless 16 (b.counter ≢ 255) ∷ []
