-- The parts of fu by examples, as a referee counts them: whole readings with base, closed ron, tsumo, melds, pair, wait and rounding.
-- Assumes nothing.
use mathlib.Core.Path.{◌≡◌, refl}
use mathlib.Core.Bool.{true, false}
use mathlib.Core.List.{[], ◌∷◌}
use Prim.Native.Nat.{ℕ}
use Rattle.tile.specs.Named.{man, pin, sou, East, White, Red}
use Rattle.meld.specs.Named.{run, triplet, chi, pon, closed_kan}
use Rattle.context.specs.Named.{dealer_wins, ron, tsumo, by_ron}
use Rattle.hand.specs.Reading.{pairs, orphans, standard}
use Rattle.wait.specs.Wait.{pinfu}
use Rattle.explained.specs.declared.breakdown.FuBreakdown.{FuBreakdown}
use Rattle.explained.specs.Breakdown.{counted_parts, breakdown, meld_fu_at}

-- base, closed ron, tsumo, melds, pair, wait, rounding
abbrev row : ℕ → ℕ → ℕ → ℕ → ℕ → ℕ → ℕ → FuBreakdown
row base ron tsumo melds pair wait rounding =
    record { base = base; menzen_ron = ron; tsumo = tsumo; melds = melds; pair = pair; wait = wait; rounding = rounding }

-- man 222 333 444, pin 567, sou 88, ron on sou 8: three concealed triplets and the wait on the pair, 44 and 6 to 50
pub three_triplets : breakdown (ron (sou 8)) false (standard (sou 8) (triplet (man 2) ∷ triplet (man 3) ∷ triplet (man 4) ∷ run (pin 5) ∷ [])) ≡ row 20 10 0 12 0 2 6
unfolding breakdown counted_parts pinfu
three_triplets = refl

-- the same tiles as three sequences: the wait on the pair alone, 32 and 8 to 40
pub three_sequences : breakdown (ron (sou 8)) false (standard (sou 8) (run (man 2) ∷ run (man 2) ∷ run (man 2) ∷ run (pin 5) ∷ [])) ≡ row 20 10 0 0 0 2 8
unfolding breakdown counted_parts pinfu
three_sequences = refl

-- an open hand without fu of its own: 20, and 10 to the least that an open hand has
pub open_sequences : breakdown (ron (sou 8)) true (standard (man 5) (chi (man 1) ∷ run (pin 4) ∷ run (sou 2) ∷ run (sou 6) ∷ [])) ≡ row 20 0 0 0 0 0 10
unfolding breakdown counted_parts pinfu
open_sequences = refl

-- the same by tsumo: 22, and 8
pub open_tsumo : breakdown (tsumo (sou 8)) true (standard (man 5) (chi (man 1) ∷ run (pin 4) ∷ run (sou 2) ∷ run (sou 6) ∷ [])) ≡ row 20 0 2 0 0 0 8
unfolding breakdown counted_parts pinfu
open_tsumo = refl

-- pinfu: 20 by tsumo, 20 and 10 by ron
pub pinfu_tsumo : breakdown (tsumo (sou 8)) false (standard (man 5) (run (man 1) ∷ run (pin 4) ∷ run (sou 2) ∷ run (sou 6) ∷ [])) ≡ row 20 0 0 0 0 0 0
unfolding breakdown counted_parts pinfu
pinfu_tsumo = refl

pub pinfu_ron : breakdown (ron (sou 8)) false (standard (man 5) (run (man 1) ∷ run (pin 4) ∷ run (sou 2) ∷ run (sou 6) ∷ [])) ≡ row 20 10 0 0 0 0 0
unfolding breakdown counted_parts pinfu
pinfu_ron = refl

-- 3455 won on the 5, from both sides and on the pair: pinfu has no fu for the wait
pub pinfu_two_waits : breakdown (ron (sou 5)) false (standard (sou 5) (run (man 1) ∷ run (pin 4) ∷ run (sou 3) ∷ run (man 7) ∷ [])) ≡ row 20 10 0 0 0 0 0
unfolding breakdown counted_parts pinfu
pinfu_two_waits = refl

-- a closed hand by tsumo that is no pinfu: 8 for the triplet of terminals, 30 with no rounding
pub terminals_tsumo : breakdown (tsumo (sou 8)) false (standard (man 5) (triplet (man 1) ∷ run (pin 4) ∷ run (sou 2) ∷ run (sou 6) ∷ [])) ≡ row 20 0 2 8 0 0 0
unfolding breakdown counted_parts pinfu
terminals_tsumo = refl

-- a pair of the double wind has 4: the dealer's East in the round East, 34 and 6 to 40
pub double_wind_pair : breakdown (dealer_wins by_ron (sou 8) []) false (standard East (run (man 1) ∷ run (pin 4) ∷ run (sou 2) ∷ run (sou 6) ∷ [])) ≡ row 20 10 0 0 4 0 6
unfolding breakdown counted_parts pinfu
double_wind_pair = refl

-- a closed kan of terminals has 32, a pair of Red 2; by tsumo on a wait from both sides that is 56, and 4 to 60
pub closed_kan_tsumo : breakdown (tsumo (sou 8)) false (standard Red (closed_kan (man 1) ∷ run (pin 4) ∷ run (sou 2) ∷ run (sou 6) ∷ [])) ≡ row 20 0 2 32 2 0 4
unfolding breakdown counted_parts pinfu
closed_kan_tsumo = refl

-- a ron that completes a triplet: sou 888 counts as called, 2, beside a called triplet of White, 4: 26 and 4 to 30
pub ron_triplet : breakdown (ron (sou 8)) true (standard (man 5) (pon White ∷ run (pin 4) ∷ run (sou 2) ∷ triplet (sou 8) ∷ [])) ≡ row 20 0 0 6 0 0 4
unfolding breakdown counted_parts pinfu
ron_triplet = refl

-- its melds one by one: 4, 0, 0 and 2; no fifth
pub pon_of_white : meld_fu_at (ron (sou 8)) 0 (standard (man 5) (pon White ∷ run (pin 4) ∷ run (sou 2) ∷ triplet (sou 8) ∷ [])) ≡ 4
unfolding meld_fu_at
pon_of_white = refl

pub second_sequence : meld_fu_at (ron (sou 8)) 2 (standard (man 5) (pon White ∷ run (pin 4) ∷ run (sou 2) ∷ triplet (sou 8) ∷ [])) ≡ 0
unfolding meld_fu_at
second_sequence = refl

pub triplet_of_the_ron : meld_fu_at (ron (sou 8)) 3 (standard (man 5) (pon White ∷ run (pin 4) ∷ run (sou 2) ∷ triplet (sou 8) ∷ [])) ≡ 2
unfolding meld_fu_at
triplet_of_the_ron = refl

pub no_fifth_meld : meld_fu_at (ron (sou 8)) 4 (standard (man 5) (pon White ∷ run (pin 4) ∷ run (sou 2) ∷ triplet (sou 8) ∷ [])) ≡ 0
unfolding meld_fu_at
no_fifth_meld = refl

-- seven pairs have 25 and nothing else, with a pair of Red and by tsumo too
pub seven_pairs_holds : breakdown (tsumo Red) false (pairs (man 1 ∷ man 3 ∷ pin 5 ∷ pin 6 ∷ sou 2 ∷ East ∷ Red ∷ [])) ≡ row 25 0 0 0 0 0 0
unfolding breakdown counted_parts pinfu
seven_pairs_holds = refl

-- thirteen orphans have 30
pub thirteen_orphans_holds : breakdown (ron Red) false (orphans East) ≡ row 30 0 0 0 0 0 0
unfolding breakdown counted_parts pinfu
thirteen_orphans_holds = refl
