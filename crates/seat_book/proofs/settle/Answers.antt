-- `settle` meets its contract: each field is the definition's. Assumes nothing.
use Rattle.std.proofs.Common.{rules, tests, ◌≡◌, ◌∙◌, ap, List, ℕ}
use lib.IntN.{ℤ, pos}
use Rattle.seat_book.specs.declared.SeatBook.{SeatBook}
use Rattle.seat_book.specs.Book.{points_after, sticks_after, settled}
use Rattle.lists.proofs.Filled.{filled}
use Rattle.seat_book.proofs.settle.Goals as goal

-- two books of which each field is the same
made :
    {p q : List ℤ} {s s' n c c' v : ℕ} → p ≡ q → s ≡ s' → c ≡ c'
    → ◌≡◌ {A = SeatBook} (record { points = p; sticks = s; deals = n; counter = c; reserved = v }) (record { points = q; sticks = s'; deals = n; counter = c'; reserved = v })
made {n = n} {v = v} e es ec = λ i. record { points = e i; sticks = es i; deals = n; counter = ec i; reserved = v }

pub returns : goal.returns
unfolding settled
returns c =
    let a = c.args in
    made (filled _ _ (points_after a.b a.d a.x) (λ i y q k. search (rules, tests)) c.from_fn.ensures.items (pos 0))
    (c.sticks_after.ensures ∙ ap (sticks_after a.x.taker) c.on_table-sticks.ensures.0) c.counter_after.ensures
