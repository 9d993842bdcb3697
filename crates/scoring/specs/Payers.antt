-- What each of the others at the table pays, and how often the winner receives the basic points. The laws `payers_total` and `total_near` say
-- that a total is what these pay, and near to so many times the basic points. These are definitions.
use Rattle.std.specs.Prelude.{Bool, cond, List, ◌∷◌, ℕ, ◌-◌, ◌*◌, replicate}
use Rattle.scoring.specs.declared.Payment.{Payment}
use Rattle.scoring.specs.declared.Payment.TheVariants.{Ron, DealerTsumo, Tsumo}

-- each of the others at a table of so many players: by ron the discarder pays and the rest nothing; by a dealer's tsumo all pay alike; by
-- another's tsumo the dealer pays, and the rest alike
abbrev pub payers : ℕ → Payment → List ℕ
payers players (Ron n) = n ∷ replicate (players - 2) 0
payers players (DealerTsumo n) = replicate (players - 1) n
payers players (Tsumo dealer other) = dealer ∷ replicate (players - 2) other

-- how many of them are asked to pay: the discarder alone, or all
abbrev pub asked : ℕ → Bool → ℕ
asked players tsumo = cond tsumo (players - 1) 1

-- how often they owe the basic points together: by ron 4 times, to the dealer 6 times; by tsumo as often as there are players, to the dealer
-- each twice
abbrev pub owed_in_all : ℕ → Bool → Bool → ℕ
owed_in_all players tsumo dealer = cond tsumo (cond dealer ((players - 1) * 2) players) (cond dealer 6 4)
