-- Laws of rounding, of the ron factor and of totals, and the bound of basic points. Assumes nothing.
use mathlib.Core.Path.{◌≡◌, refl}
use mathlib.Core.Bool.{Bool, true, false, cond}
use Prim.Native.Nat.{ℕ, zero, suc, ◌+◌, ◌-◌, ◌*◌, ◌%◌, ◌^◌, ◌<◌, ◌≤◌}
use native.Mathlib.Omega.{arith}
use lib.Dec.{lit≤}
use lib.ListN.{length, replicate, length-replicate}
use Rattle.lists.specs.Fold.{one, total as added}
use Rattle.scoring.specs.declared.Payment.{Payment}
use Rattle.scoring.specs.declared.Payment.TheVariants.{Ron, DealerTsumo, Tsumo}
use Rattle.scoring.specs.Level.{reaches_yakuman, reaches_sanbaiman, reaches_baiman, reaches_haneman, reaches_mangan, highest, points_at, basic_points}
use Rattle.scoring.specs.Payment.{round_up_to100, payment, total_at}
use Rattle.scoring.specs.Payers.{payers}

-- ---- rounding: the least multiple of 100 that is not below n
pub round_up_above : (n : ℕ) → n ≤ round_up_to100 n
round_up_above n = omega arith

pub round_up_near : (n : ℕ) → round_up_to100 n < n + 100
round_up_near n = omega arith

pub round_up_multiple : (n : ℕ) → round_up_to100 n % 100 ≡ 0
round_up_multiple n = omega arith

pub round_up_least : (n k : ℕ) → n ≤ k * 100 → round_up_to100 n ≤ k * 100
round_up_least n k h = omega arith

-- ---- the ron factor: how many times the basic points a ron costs the discarder
-- four plus twice the dealer's 0 or 1 is six for the dealer and four otherwise
pub ron_factor : (dealer : Bool) → 4 + 2 * one dealer ≡ cond dealer 6 4
ron_factor true = refl
ron_factor false = refl

-- ---- totals
repeated : (k n : ℕ) → added (replicate k n) ≡ n * k
repeated zero n = omega arith
repeated (suc k) n = let rest = repeated k n in omega arith

-- the winner receives what all the others pay together
pub payers_total : (players : ℕ) (p : Payment) → added (payers players p) ≡ total_at players p
payers_total players (Ron n) = let nothing = repeated (players - 2) 0 in omega arith
payers_total players (DealerTsumo n) = let all = repeated (players - 1) n in omega arith
payers_total players (Tsumo dealer other) = let others = repeated (players - 2) other in omega arith

-- and these are all but the winner
pub payers_many : (players : ℕ) (p : Payment) → 2 ≤ players → length (payers players p) ≡ players - 1
payers_many players (Ron n) h = let rest = length-replicate {A = ℕ} (players - 2) 0 in omega arith
payers_many players (DealerTsumo n) h = length-replicate (players - 1) n
payers_many players (Tsumo dealer other) h = let rest = length-replicate (players - 2) other in omega arith

-- what the winner receives at a table of so many players: each payer's amount is rounded up once, after multiplication
pub total :
    (players basic : ℕ) (tsumo dealer : Bool)
    → total_at players (payment tsumo dealer basic)
    ≡ cond tsumo
    (cond dealer (round_up_to100 (basic * 2) * (players - 1)) (round_up_to100 (basic * 2) + round_up_to100 basic * (players - 2)))
    (round_up_to100 (basic * cond dealer 6 4))
unfolding payment
total players basic false dealer = refl
total players basic true false = refl
total players basic true true = refl

-- ---- basic points
highest_le : (n : ℕ) (a b c d m : Bool) → points_at (highest a b c d m) n ≤ 8000
highest_le n true b c d m = lit≤ tt
highest_le n false true c d m = lit≤ tt
highest_le n false false true d m = lit≤ tt
highest_le n false false false true m = lit≤ tt
highest_le n false false false false true = lit≤ tt
highest_le n false false false false false = omega arith

-- a byte of han makes at most 19 yakuman
pub basic_le : (han fu : ℕ) (yakuman : Bool) → han ≤ 255 → basic_points han fu yakuman ≤ 152000
unfolding basic_points
basic_le han fu true h = omega arith
basic_le han fu false h =
    let k = highest_le (fu * 2 ^ (han + 2)) (reaches_yakuman han) (reaches_sanbaiman han) (reaches_baiman han) (reaches_haneman han) (reaches_mangan han fu) in
    omega arith
