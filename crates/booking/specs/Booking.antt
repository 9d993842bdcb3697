-- Bookings: a draw, and a win that the unit scores. b is the book, cs are the counts, k the calls, w is the win, d the deal, p who won. These are
-- definitions.
use Rattle.std.specs.Prelude.{Bool, true, false, ◌&&◌, ◌||◌, not, cond, List, ℕ, ◌+◌, ◌-◌, ◌%◌, eqb, ltb}
use Rattle.tile.specs.Named.{East}
use Rattle.context.specs.declared.GameContext.{GameContext}
use Rattle.context.specs.Context.{seated_as}
use Rattle.context.specs.Named.{by_ron, by_tsumo}
use Rattle.checks.specs.declared.Calls.{Calls}
use Rattle.choice.specs.declared.ScoreAnswer.{ScoreAnswer}
use Rattle.win.specs.Win.{score_win}
use Rattle.seat_book.specs.declared.SeatBook.{SeatBook}
use Rattle.seat_book.specs.declared.Deal.{Deal}
use Rattle.seat_book.specs.declared.Settlement.{Settlement}
use Rattle.seat_book.specs.Book.{has_room}
use Rattle.seat_book.specs.History.{Outcome, refused, settles, number_of, book_after, Kind}
use Rattle.settlements.specs.declared.Winner.{Winner}
use Rattle.settlements.specs.Settlements.{win_settlement, draw_settlement}
use Rattle.booking.specs.declared.Booked.{Booked}

-- ---- the win as it is scored: its seat wind follows from the dealer's seat in turn order, its type from whether a discarder is given
abbrev pub seat_wind : ℕ → ℕ → ℕ
seat_wind dealer seat = East + (seat + 4 - dealer) % 4

abbrev pub type_of : Bool → ℕ
type_of discarded = cond discarded by_ron by_tsumo

abbrev pub seated : Deal → Winner → GameContext → GameContext
seated d p w = seated_as (type_of p.has_discarder) (seat_wind d.dealer p.seat) w

-- ---- 15: a seat is above 3, or the discarder is the winner
abbrev pub is_other : Winner → Bool
is_other p = not p.has_discarder || (ltb p.discarder 4 && not (eqb p.discarder p.seat))

abbrev pub are_seats : Deal → Winner → Bool
are_seats d p = ltb d.dealer 4 && (ltb p.seat 4 && is_other p)

-- ---- 16, last of all: this deal would raise a counter of 255
unfoldable pub raising : SeatBook → Settlement → Outcome
raising b x = cond (x.raises && eqb b.counter 255) (refused 16) (settles x)

-- ---- a win: 15, 16 where the book has no room, scoring's number, 16 of the counter, or the settlement
unfoldable pub scored_outcome : SeatBook → Deal → Winner → ScoreAnswer → Outcome
scored_outcome b d p a = cond (eqb a.number 0) (raising b (win_settlement a.score.payment b.counter p d)) (refused a.number)

unfoldable pub win_outcome : SeatBook → List ℕ → Calls → GameContext → Deal → Winner → Outcome
win_outcome b cs k w d p = cond (are_seats d p) (cond (has_room b) (scored_outcome b d p (score_win cs k (seated d p w))) (refused 16)) (refused 15)

-- ---- a draw: 15, 16, or the settlement
unfoldable pub draw_outcome : SeatBook → Deal → Outcome
draw_outcome b d = cond (ltb d.dealer 4) (cond (has_room b) (raising b draw_settlement) (refused 16)) (refused 15)

-- ---- what is answered: the number, and the book as the booking leaves it
abbrev pub answer_of : SeatBook → Deal → Outcome → Booked
answer_of b d o = record { number = number_of o; book = book_after b d o }

-- ---- the bookings, for histories
pub data Booking : Type 0 where
  draw : Deal → Booking
  won : Deal → Winner → List ℕ → Calls → GameContext → Booking

abbrev deal_of : Booking → Deal
deal_of (draw d) = d
deal_of (won d p cs k w) = d

abbrev is_win : Booking → Bool
is_win (draw d) = false
is_win (won d p cs k w) = true

-- the counter rises after a draw and after a dealer's win
abbrev raises : Booking → Bool
raises (draw d) = true
raises (won d p cs k w) = eqb p.seat d.dealer

abbrev outcome : SeatBook → Booking → Outcome
outcome b (draw d) = draw_outcome b d
outcome b (won d p cs k w) = win_outcome b cs k w d p

abbrev pub bookings : Kind
bookings = record { Booking = Booking; deal_of = deal_of; is_win = is_win; raises = raises; outcome = outcome }
