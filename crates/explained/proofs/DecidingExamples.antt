-- What decided between two scores, by the examples of the choice (crates/reading_score/proofs/Examples.antt). Assumes nothing.
use mathlib.Core.Path.{◌≡◌, refl}
use mathlib.Core.Bool.{Bool, true, false}
use mathlib.Core.List.{[], ◌∷◌}
use Prim.Native.Nat.{ℕ}
use Rattle.tile.specs.Named.{man}
use Rattle.context.specs.Named.{ron}
use Rattle.scoring.specs.Level.{basic_points}
use Rattle.scoring.specs.Payment.{payment}
use Rattle.dora.specs.Dora.{no_dora}
use Rattle.reading_score.specs.declared.ScoringResult.{ScoringResult}
use Rattle.reading_score.specs.Score.{result}
use Rattle.explained.specs.declared.decided.Decided.TheVariants.{Total, Yakuman, Han, Fu, Order}
use Rattle.explained.specs.Decided.{decided_by}

-- a score by ron with a yaku, of so many han and fu, of a yakuman or not
abbrev scored : ℕ → ℕ → Bool → ScoringResult
scored han fu yakuman = result (ron (man 1)) (1 ∷ []) han fu yakuman no_dora

-- 3 han 50 fu pay 6,400, 4 han 20 fu 5,200
pub by_the_total : (players : ℕ) → decided_by players (scored 4 20 false) (scored 3 50 false) ≡ Total
unfolding decided_by result payment basic_points
by_the_total players = refl

-- both pay 32,000
pub by_the_yakuman : (players : ℕ) → decided_by players (scored 20 50 false) (scored 13 30 true) ≡ Yakuman
unfolding decided_by result payment basic_points
by_the_yakuman players = refl

-- 4 han 25 fu and 3 han 50 fu both pay 6,400
pub by_the_han : (players : ℕ) → decided_by players (scored 3 50 false) (scored 4 25 false) ≡ Han
unfolding decided_by result payment basic_points
by_the_han players = refl

-- 5 han are Mangan with 20 and with 30
pub by_the_fu : (players : ℕ) → decided_by players (scored 5 20 false) (scored 5 30 false) ≡ Fu
unfolding decided_by result payment basic_points
by_the_fu players = refl

-- han and fu alike: which yaku it is tells nothing
pub by_the_order :
    (players : ℕ)
    → decided_by players (result (ron (man 1)) (1 ∷ 0 ∷ []) 5 30 false no_dora) (result (ron (man 1)) (0 ∷ 1 ∷ []) 5 30 false no_dora) ≡ Order
unfolding decided_by result payment basic_points
by_the_order players = refl
