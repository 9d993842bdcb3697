-- Which of two scores ranks higher, and who pays, by examples. Assumes nothing.
use mathlib.Core.Path.{◌≡◌, refl}
use mathlib.Core.Bool.{Bool, true, false, not}
use mathlib.Core.List.{[], ◌∷◌}
use Prim.Native.Nat.{ℕ}
use lib.Dec.{T, ltb}
use Rattle.tile.specs.Named.{man, East, South}
use Rattle.context.specs.Named.{win, dealer_wins, ron, tsumo, by_ron, by_tsumo}
use Rattle.scoring.specs.declared.Payment.TheVariants.{Ron, DealerTsumo, Tsumo}
use Rattle.scoring.specs.Level.{basic_points}
use Rattle.scoring.specs.Payment.{payment}
use Rattle.dora.specs.Dora.{no_dora}
use Rattle.reading_score.specs.declared.ScoringResult.{ScoringResult}
use Rattle.reading_score.specs.Score.{result, rank}

-- a score by ron with a yaku, of so many han and fu, counted or of a yakuman
abbrev counted : ℕ → ℕ → ScoringResult
counted han fu = result (ron (man 1)) (1 ∷ []) han fu false no_dora

abbrev of_yakuman : ℕ → ℕ → ScoringResult
of_yakuman han fu = result (ron (man 1)) (1 ∷ []) han fu true no_dora

-- the first ranks above the second at a table of so many players
abbrev Above : ℕ → ScoringResult → ScoringResult → Type 0
Above players x y = T (ltb (rank players y) (rank players x))

-- ---- the greater total first, whatever the table and the han: 3 han 50 fu pay 6,400, 4 han 20 fu 5,200
pub total_before_han : (players : ℕ) → Above players (counted 3 50) (counted 4 20)
unfolding result payment basic_points rank
total_before_han players = tt

-- and whatever the fu: 2 han 30 fu pay 2,000, 1 han 50 fu 1,600
pub total_before_fu : (players : ℕ) → Above players (counted 2 30) (counted 1 50)
unfolding result payment basic_points rank
total_before_fu players = tt

-- ---- of equal totals a yakuman before none: both pay 32,000
pub yakuman_before_han : (players : ℕ) → Above players (of_yakuman 13 30) (counted 20 50)
unfolding result payment basic_points rank
yakuman_before_han players = tt

-- ---- then more han: 4 han 25 fu and 3 han 50 fu both pay 6,400
pub han_before_fu : (players : ℕ) → Above players (counted 4 25) (counted 3 50)
unfolding result payment basic_points rank
han_before_fu players = tt

-- ---- then more fu: 5 han are Mangan with 20 and with 30
pub fu_last : (players : ℕ) → Above players (counted 5 30) (counted 5 20)
unfolding result payment basic_points rank
fu_last players = tt

-- and nothing else tells them apart: not which yaku it is
pub same_score_same_rank :
    (players : ℕ)
    → rank players (result (ron (man 1)) (1 ∷ 0 ∷ []) 5 30 false no_dora)
    ≡ rank players (result (ron (man 1)) (0 ∷ 1 ∷ []) 5 30 false no_dora)
unfolding result payment basic_points rank
same_score_same_rank players = refl

-- ---- without a yaku the rank is 0, whatever is paid; with one, even the least is above it
pub no_yaku_no_rank : (players : ℕ) → rank players (result (ron (man 1)) (0 ∷ 0 ∷ []) 5 30 false no_dora) ≡ 0
unfolding result payment basic_points rank
no_yaku_no_rank players = refl

pub least_above_none : (players : ℕ) → Above players (counted 1 30) (result (ron (man 1)) (0 ∷ 0 ∷ []) 5 30 false no_dora)
unfolding result payment basic_points rank
least_above_none players = tt

-- ---- the total is that of the table: 3 han 30 fu pay 3,900 by ron; by tsumo 4,000 at a table of four and 3,000 at one of three
abbrev drawn : ScoringResult
drawn = result (tsumo (man 1)) (1 ∷ []) 3 30 false no_dora

pub tsumo_first_of_four : Above 4 drawn (counted 3 30)
unfolding result payment basic_points rank
tsumo_first_of_four = tt

pub ron_first_of_three : Above 3 (counted 3 30) drawn
unfolding result payment basic_points rank
ron_first_of_three = tt

-- ---- who pays: 3 han 30 fu of the seat South, and of the dealer, by ron and by tsumo
pub south_by_ron : (result (ron (man 1)) (1 ∷ []) 3 30 false no_dora).payment ≡ Ron 3900
unfolding result payment basic_points
south_by_ron = refl

pub dealer_by_ron : (result (dealer_wins by_ron (man 1) []) (1 ∷ []) 3 30 false no_dora).payment ≡ Ron 5800
unfolding result payment basic_points
dealer_by_ron = refl

pub south_by_tsumo : (result (tsumo (man 1)) (1 ∷ []) 3 30 false no_dora).payment ≡ Tsumo 2000 1000
unfolding result payment basic_points
south_by_tsumo = refl

pub dealer_by_tsumo : (result (dealer_wins by_tsumo (man 1) []) (1 ∷ []) 3 30 false no_dora).payment ≡ DealerTsumo 2000
unfolding result payment basic_points
dealer_by_tsumo = refl

-- in the round South the dealer sits East all the same, and the seat South is no dealer
pub south_round_east_seat : (result (win by_ron (man 1) South East []) (1 ∷ []) 3 30 false no_dora).payment ≡ Ron 5800
unfolding result payment basic_points
south_round_east_seat = refl

pub south_round_south_seat : (result (win by_ron (man 1) South South []) (1 ∷ []) 3 30 false no_dora).payment ≡ Ron 3900
unfolding result payment basic_points
south_round_south_seat = refl
