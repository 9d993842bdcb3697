-- Settled deals, computed: what the sticks do to the seats, and what is left on the table. Assumes nothing.
use mathlib.Core.Path.{◌≡◌, refl}
use mathlib.Core.Bool.{Bool, true, false}
use mathlib.Core.List.{List, [], ◌∷◌, map}
use Prim.Native.Nat.{ℕ}
use lib.IntN.{ℤ, pos, negsuc}
use Rattle.std.specs.Prelude.{Option, None, Some}
use Rattle.seat_book.specs.declared.SeatBook.{SeatBook}
use Rattle.seat_book.specs.declared.Deal.{Deal}
use Rattle.seat_book.specs.declared.Settlement.{Settlement}
use Rattle.seat_book.specs.Book.{new_book, settled}

-- a book with these points, sticks, deals and counter
abbrev book : List ℤ → ℕ → ℕ → ℕ → SeatBook
book points sticks deals counter = record { points = points; sticks = sticks; deals = deals; counter = counter; reserved = 0 }

abbrev declaring : List Bool → Deal
declaring l = record { dealer = 0; declared = l }

-- a seat, or nobody, takes the sticks, the first seat takes 1,000 from the last, and the counter rises or not
abbrev taking : Option ℕ → Bool → Settlement
taking s raises = record { gets = 1000 ∷ 0 ∷ 0 ∷ 0 ∷ []; pays = 0 ∷ 0 ∷ 0 ∷ 1000 ∷ []; taker = s; raises = raises }

pub record Example : Type 0 where
  pub before : SeatBook
  pub deal : Deal
  pub settlement : Settlement
  pub after : SeatBook

abbrev examples : List Example
examples =
    -- two seats declare and nobody takes the sticks: each has 1,000 less, and two lie on the table
    record {
      before = new_book;
      deal = declaring (false ∷ true ∷ true ∷ false ∷ []);
      settlement = taking None true;
      after = book (pos 26000 ∷ pos 24000 ∷ pos 24000 ∷ pos 24000 ∷ []) 2 1 1;
    }
    -- a number above 3 is no seat, so that nobody takes them either
    ∷ record {
      before = new_book;
      deal = declaring (false ∷ true ∷ true ∷ false ∷ []);
      settlement = taking (Some 4) true;
      after = book (pos 26000 ∷ pos 24000 ∷ pos 24000 ∷ pos 24000 ∷ []) 2 1 1;
    }
    -- seat 0 takes those and its own
    ∷ record {
      before = book (pos 26000 ∷ pos 24000 ∷ pos 24000 ∷ pos 24000 ∷ []) 2 1 1;
      deal = declaring (true ∷ false ∷ false ∷ false ∷ []);
      settlement = taking (Some 0) true;
      after = book (pos 29000 ∷ pos 24000 ∷ pos 24000 ∷ pos 23000 ∷ []) 0 2 2;
    }
    -- the counter returns, and a seat falls below zero
    ∷ record {
      before = book (pos 29000 ∷ pos 47500 ∷ pos 23000 ∷ pos 500 ∷ []) 0 2 2;
      deal = declaring (false ∷ false ∷ false ∷ true ∷ []);
      settlement = taking (Some 1) false;
      after = book (pos 30000 ∷ pos 48500 ∷ pos 23000 ∷ negsuc 1499 ∷ []) 0 3 0;
    }
    ∷ []

-- each comes to what is told of it
pub settled_as_told : map (λ e. settled e.before e.deal e.settlement) examples ≡ map (λ e. e.after) examples
unfolding settled
settled_as_told = refl
