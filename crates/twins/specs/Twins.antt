-- Twins are a win and the same win renamed, each scored by the unit. The calls renamed, by value; and whether the two answers agree, as a test
-- that code can make. These are definitions; `SameAnswer` in agreement/specs/Agreement.antt says it in words, and the law `agree_means` that
-- yes means that.
use Rattle.std.specs.Prelude.{Bool, ◌&&◌, map, ℕ, ◌+◌, eqb}
use Rattle.tile.specs.declared.Renaming.{Renaming}
use Rattle.meld.specs.Renamed.{ren_meld}
use Rattle.checks.specs.declared.Calls.{Calls}
use Rattle.scoring.specs.declared.ScoreLevel.{ScoreLevel}
use Rattle.scoring.specs.declared.ScoreLevel.TheVariants.{Normal, Mangan, Haneman, Baiman, Sanbaiman, Yakuman}
use Rattle.scoring.specs.declared.Payment.{Payment}
use Rattle.scoring.specs.declared.Payment.TheVariants.{Ron, DealerTsumo, Tsumo}
use Rattle.choice.specs.declared.ScoreAnswer.{ScoreAnswer}

-- as many calls, and each of the four melds renamed in its place
abbrev pub ren_calls : Renaming → Calls → Calls
ren_calls ρ k = record { count = k.count; melds = map (ren_meld ρ) k.melds }

-- a level as a number, different for each
abbrev pub level_number : ScoreLevel → ℕ
level_number Normal = 0
level_number Mangan = 1
level_number Haneman = 2
level_number Baiman = 3
level_number Sanbaiman = 4
level_number (Yakuman n) = 5 + n

-- a settlement (who pays what, Payment in the code) as three numbers: its kind, and its one or two amounts
abbrev pub kind_of : Payment → ℕ
kind_of (Ron n) = 0
kind_of (DealerTsumo n) = 1
kind_of (Tsumo d n) = 2

abbrev pub first_amount : Payment → ℕ
first_amount (Ron n) = n
first_amount (DealerTsumo n) = n
first_amount (Tsumo d n) = d

abbrev pub second_amount : Payment → ℕ
second_amount (Ron n) = 0
second_amount (DealerTsumo n) = 0
second_amount (Tsumo d n) = n

-- the same number, han, dora, fu, level, basic points and payments
unfoldable pub agrees : ScoreAnswer → ScoreAnswer → Bool
agrees a b =
    eqb a.number b.number
    && (eqb a.score.han b.score.han
    && (eqb a.score.dora.regular b.score.dora.regular
    && (eqb a.score.dora.ura b.score.dora.ura
    && (eqb a.score.fu b.score.fu
    && (eqb (level_number a.score.score_level) (level_number b.score.score_level)
    && (eqb a.score.basic_points b.score.basic_points
    && (eqb (kind_of a.score.payment) (kind_of b.score.payment)
    && (eqb (first_amount a.score.payment) (first_amount b.score.payment)
    && eqb (second_amount a.score.payment) (second_amount b.score.payment)))))))))
