-- Deals as a table keeps them, each on a book of its own: what they come to, seat by seat, is computed. Assumes nothing.
use mathlib.Core.Path.{◌≡◌, refl}
use mathlib.Core.Bool.{Bool, true, false}
use mathlib.Core.List.{List, [], ◌∷◌, map}
use Prim.Native.Nat.{ℕ}
use lib.IntN.{ℤ, pos, negsuc}
use Rattle.scoring.specs.declared.Payment.TheVariants.{Ron, DealerTsumo, Tsumo}
use Rattle.seat_book.specs.declared.SeatBook.{SeatBook}
use Rattle.seat_book.specs.declared.Deal.{Deal}
use Rattle.seat_book.specs.declared.Settlement.{Settlement}
use Rattle.seat_book.specs.Book.{new_book, settled}
use Rattle.settlements.specs.Settlements.{win_settlement, draw_settlement}

-- how a deal ends: in a draw, by ron of the first seat from the second, by tsumo of a seat
pub data Ending : Type 0 where
  draw : Ending
  ron : ℕ → ℕ → ℕ → Ending
  dealer_tsumo : ℕ → ℕ → Ending
  tsumo : ℕ → ℕ → ℕ → Ending

-- a book with these points, sticks, deals and counter
abbrev book : List ℤ → ℕ → ℕ → ℕ → SeatBook
book points sticks deals counter = record { points = points; sticks = sticks; deals = deals; counter = counter; reserved = 0 }

-- one deal: the book before it, the dealer, who declared, how it ends, and the book after it
pub record Example : Type 0 where
  pub before : SeatBook
  pub deal : Deal
  pub ending : Ending
  pub after : SeatBook

abbrev dealt : ℕ → List Bool → Deal
dealt dealer declared = record { dealer = dealer; declared = declared }

abbrev nobody_declares : List Bool
nobody_declares = false ∷ false ∷ false ∷ false ∷ []

abbrev settlement_of : ℕ → Deal → Ending → Settlement
settlement_of counter d draw = draw_settlement
settlement_of counter d (ron s from n) = win_settlement (Ron n) counter (record { seat = s; has_discarder = true; discarder = from }) d
settlement_of counter d (dealer_tsumo s n) = win_settlement (DealerTsumo n) counter (record { seat = s; has_discarder = false; discarder = 0 }) d
settlement_of counter d (tsumo s m n) = win_settlement (Tsumo m n) counter (record { seat = s; has_discarder = false; discarder = 0 }) d

abbrev comes_to : Example → SeatBook
comes_to e = settled e.before e.deal (settlement_of e.before.counter e.deal e.ending)

abbrev examples : List Example
examples =
    -- seat 2 declares, and the deal is drawn: the stick stays, the counter rises
    record {
      before = new_book;
      deal = dealt 0 (false ∷ false ∷ true ∷ false ∷ []);
      ending = draw;
      after = book (pos 25000 ∷ pos 25000 ∷ pos 24000 ∷ pos 25000 ∷ []) 1 1 1;
    }
    -- then seat 1, who declares too, wins by tsumo, 700 from the dealer and 400 from the others: 100 more from each, both sticks, the counter back to 0
    ∷ record {
      before = book (pos 25000 ∷ pos 25000 ∷ pos 24000 ∷ pos 25000 ∷ []) 1 1 1;
      deal = dealt 0 (false ∷ true ∷ false ∷ false ∷ []);
      ending = tsumo 1 700 400;
      after = book (pos 24200 ∷ pos 27800 ∷ pos 23500 ∷ pos 24500 ∷ []) 0 2 0;
    }
    -- the dealer, seat 1, wins 1,500 by ron from seat 3: the counter rises
    ∷ record {
      before = book (pos 24200 ∷ pos 27800 ∷ pos 23500 ∷ pos 24500 ∷ []) 0 2 0;
      deal = dealt 1 nobody_declares;
      ending = ron 1 3 1500;
      after = book (pos 24200 ∷ pos 29300 ∷ pos 23500 ∷ pos 23000 ∷ []) 0 3 1;
    }
    -- with the counter at 2 the discarder pays 600 more, and falls below zero
    ∷ record {
      before = book (pos 31000 ∷ pos 29000 ∷ pos 38000 ∷ pos 2000 ∷ []) 0 9 2;
      deal = dealt 2 nobody_declares;
      ending = ron 0 3 8000;
      after = book (pos 39600 ∷ pos 29000 ∷ pos 38000 ∷ negsuc 6599 ∷ []) 0 10 0;
    }
    -- the dealer, seat 3, wins 4,000 from each by tsumo at a counter of 1, with two sticks on the table and two more declared, his own among them
    ∷ record {
      before = book (pos 30000 ∷ pos 20000 ∷ pos 24000 ∷ pos 24000 ∷ []) 2 5 1;
      deal = dealt 3 (true ∷ false ∷ false ∷ true ∷ []);
      ending = dealer_tsumo 3 4000;
      after = book (pos 24900 ∷ pos 15900 ∷ pos 19900 ∷ pos 39300 ∷ []) 0 6 2;
    }
    ∷ []

-- each comes to what is told of it
pub deals_as_told : map comes_to examples ≡ map (λ e. e.after) examples
unfolding settled win_settlement draw_settlement
deals_as_told = refl
