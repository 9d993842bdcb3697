-- The operations' answers as plain numbers, for C. These are definitions.
use Rattle.std.specs.Prelude.{cond, ℕ, eqb}
use Rattle.unit.specs.Listing.{Listing}
use Rattle.unit.specs.Listing.{number_of, readings_of, bytes_of}
use Rattle.scoring.specs.declared.ScoreLevel.{ScoreLevel}
use Rattle.scoring.specs.declared.ScoreLevel.TheVariants.{Normal, Mangan, Haneman, Baiman, Sanbaiman, Yakuman}
use Rattle.scoring.specs.declared.Payment.{Payment}
use Rattle.scoring.specs.declared.Payment.TheVariants.{Ron, DealerTsumo, Tsumo}
use Rattle.scoring.specs.Payment.{PaymentAnswer, Refused, Paid, total_at}
use Rattle.choice.specs.declared.ScoreAnswer.{ScoreAnswer}
use Rattle.win.specs.declared.WaitsAnswer.{WaitsAnswer}
use Rattle.answers.specs.declared.ListingAnswer.{ListingAnswer}
use Rattle.answers.specs.declared.LevelAnswer.{LevelAnswer}
use Rattle.answers.specs.declared.PaymentValues.{PaymentValues}
use Rattle.answers.specs.declared.ScoreValues.{ScoreValues}
use Rattle.answers.specs.declared.WaitsValues.{WaitsValues}

-- the version of the interface: rises with each change of it
abbrev pub version : ℕ
version = 8

-- the refusal's number, or 0 with how many readings and how many bytes were written
abbrev pub listing_answer : Listing → ListingAnswer
listing_answer a = record { number = number_of a; readings = readings_of a; bytes = bytes_of a }

-- the level's place in ScoreLevel, and how many times a yakuman counts
abbrev pub level_answer : ScoreLevel → LevelAnswer
level_answer Normal = record { level = 0; count = 0 }
level_answer Mangan = record { level = 1; count = 0 }
level_answer Haneman = record { level = 2; count = 0 }
level_answer Baiman = record { level = 3; count = 0 }
level_answer Sanbaiman = record { level = 4; count = 0 }
level_answer (Yakuman n) = record { level = 5; count = n }

-- the settlement, 1 ron, 2 tsumo of the dealer, 3 tsumo of another; what each non-dealer, the dealer and the discarder pays; and the total
-- at a table of so many players
abbrev pub paid : ℕ → Payment → PaymentValues
paid players (Ron n) = record { number = 0; settlement = 1; from_non_dealer = 0; from_dealer = 0; from_discarder = n; total = total_at players (Ron n) }
paid players (DealerTsumo n) = record { number = 0; settlement = 2; from_non_dealer = n; from_dealer = 0; from_discarder = 0; total = total_at players (DealerTsumo n) }
paid players (Tsumo d n) = record { number = 0; settlement = 3; from_non_dealer = n; from_dealer = d; from_discarder = 0; total = total_at players (Tsumo d n) }

abbrev pub payment_values_at : ℕ → PaymentAnswer → PaymentValues
payment_values_at players (Refused n) = record { number = n; settlement = 0; from_non_dealer = 0; from_dealer = 0; from_discarder = 0; total = 0 }
payment_values_at players (Paid p) = paid players p

-- the settlement beside an answer's number: 0, none, beside a refusal
abbrev pub settlement_beside : ℕ → ℕ → ℕ
settlement_beside number settlement = cond (eqb number 0) settlement 0

-- a score, its level, its dora and its payment in plain numbers; a refusal has its number, and 0 in every other place
abbrev pub score_values_at : ℕ → ScoreAnswer → ScoreValues
score_values_at players a =
    record {
      number = a.number;
      settlement = settlement_beside a.number (paid players a.score.payment).settlement;
      reading = a.reading;
      tallies = a.score.tallies;
      han = a.score.han;
      fu = a.score.fu;
      is_yakuman = a.score.is_yakuman;
      level = (level_answer a.score.score_level).level;
      yakuman_count = (level_answer a.score.score_level).count;
      regular_dora = a.score.dora.regular;
      ura_dora = a.score.dora.ura;
      basic_points = a.score.basic_points;
      from_non_dealer = (paid players a.score.payment).from_non_dealer;
      from_dealer = (paid players a.score.payment).from_dealer;
      from_discarder = (paid players a.score.payment).from_discarder;
      total = (paid players a.score.payment).total;
    }

-- at a table of four
abbrev pub payment_values : PaymentAnswer → PaymentValues
payment_values a = payment_values_at 4 a

abbrev pub score_values : ScoreAnswer → ScoreValues
score_values a = score_values_at 4 a

-- the refusal's number, or 0 with the tallies of the six waits
abbrev pub waits_values : WaitsAnswer → WaitsValues
waits_values a = record { number = a.number; waits = a.waits }
