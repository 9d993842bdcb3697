-- What it asks of a book that it takes another deal, as facts. These are definitions.
use Rattle.std.specs.Prelude.{ℕ, ◌≤◌, ◌<◌, ℤ, pos, negsuc, ◌≤ℤ◌}
use Rattle.seat_book.specs.declared.SeatBook.{SeatBook}
use Rattle.seat_book.specs.Book.{points_of}

-- not beyond 1,000,000,000 points either way
abbrev pub Within : ℤ → Type 0
Within p = (negsuc 999999999 ≤ℤ p) × (p ≤ℤ pos 1000000000)

-- fewer than 1,024 deals are booked, no seat is beyond its limits, and there are no more than 4,096 sticks
pub record Roomy (b : SeatBook) : Type 0 where
  pub deals : b.deals < 1024
  pub points : (s : ℕ) → s < 4 → Within (points_of b s)
  pub sticks : b.sticks ≤ 4096
