-- Who pays whom what for a win and at a draw. p is a payment, w who won, d the deal, s a seat. These are definitions.
use Rattle.std.specs.Prelude.{Bool, true, cond, [], ◌∷◌, ℕ, ◌+◌, ◌*◌, eqb, None, Some}
use Rattle.scoring.specs.declared.Payment.{Payment}
use Rattle.scoring.specs.declared.Payment.TheVariants.{Ron, DealerTsumo, Tsumo}
use Rattle.seat_book.specs.declared.Deal.{Deal}
use Rattle.seat_book.specs.declared.Settlement.{Settlement}
use Rattle.seat_book.specs.Points.{four_of}
use Rattle.settlements.specs.declared.Winner.{Winner}

-- by ron the discarder pays all, with 300 for each counter, and any other seat nothing
abbrev pub of_discarder : ℕ → ℕ → Bool → ℕ
of_discarder amount counter discards = cond discards (amount + 300 * counter) 0

-- by tsumo each payer adds 100 for each counter, and the winner pays nothing
abbrev pub of_payer : ℕ → ℕ → Bool → ℕ
of_payer amount counter wins = cond wins 0 (amount + 100 * counter)

-- what the seat s owes the winner, the counter being the one before this deal
abbrev pub owes : Payment → ℕ → Winner → Deal → ℕ → ℕ
owes (Ron n) counter w d s = of_discarder n counter (eqb s w.discarder)
owes (DealerTsumo n) counter w d s = of_payer n counter (eqb s w.seat)
owes (Tsumo dealer other) counter w d s = of_payer (cond (eqb s d.dealer) dealer other) counter (eqb s w.seat)

-- the winner gets what the four seats owe
abbrev pub gain : Payment → ℕ → Winner → Deal → ℕ
gain p counter w d = four_of (owes p counter w d)

abbrev pub given : Bool → ℕ → ℕ
given wins n = cond wins n 0

-- a win: the winner takes the sticks too, and the counter rises if the winner is the dealer
unfoldable pub win_settlement : Payment → ℕ → Winner → Deal → Settlement
win_settlement p counter w d =
    record {
      gets =
          given (eqb 0 w.seat) (gain p counter w d) ∷ given (eqb 1 w.seat) (gain p counter w d) ∷ given (eqb 2 w.seat) (gain p counter w d)
          ∷ given (eqb 3 w.seat) (gain p counter w d) ∷ [];
      pays = owes p counter w d 0 ∷ owes p counter w d 1 ∷ owes p counter w d 2 ∷ owes p counter w d 3 ∷ [];
      taker = Some w.seat;
      raises = eqb w.seat d.dealer;
    }

-- a draw: nobody gets or pays, nobody takes the sticks, and the counter rises
unfoldable pub draw_settlement : Settlement
draw_settlement = record { gets = 0 ∷ 0 ∷ 0 ∷ 0 ∷ []; pays = 0 ∷ 0 ∷ 0 ∷ 0 ∷ []; taker = None; raises = true }
