-- `rank` meets its contract, and its number fits: a total of u32 amounts, a digit for the yakuman, and two bytes. Assumes nothing.
use mathlib.Core.Path.{◌≡◌, refl, ap, ◌∙◌}
use mathlib.Core.Bool.{Bool, true, false, not}
use mathlib.Core.List.{List}
use Prim.Native.Nat.{ℕ, ◌*◌, ◌≤◌}
use native.Mathlib.Omega.{arith}
use borrow.Author.Rules.{rules}
use mir.Val.{Val}
use denote.Laws.{Is}
use Rattle.std.specs.Int.{from_bool}
use Rattle.rules.specs.declared.Variant.{Variant}
use Rattle.rules.specs.Rules.{game}
use Rattle.rules.proofs.Games.{table}
use Rattle.scoring.specs.declared.Payment.{Payment}
use Rattle.scoring.specs.Payment.{total_at}
use Rattle.scoring.specs.contracts.Payment as P
use Rattle.scoring.proofs.Shares.{table_rises}
use Rattle.reading_score.specs.Score.{yakuman_first}
use Rattle.reading_score.proofs.Fits.{total_fits, rank_none, rank_some}
use Rattle.reading_score.proofs.rank.Goals as goal

-- the total of either game, at most that of four
small : (p : Payment) (v : Variant) (vs : List Val) (t : ℕ) → Is P.the_row p vs → t ≡ total_at (game v).players p → t ≤ 3 * 4294967295
small p v vs t is e =
    let four = total_fits p vs is in
    let few = table_rises p (game v).players 4 (table v).1 in
    omega arith

-- the digit of the yakuman
digit : (b : Bool) → from_bool b ≡ yakuman_first b
digit true = refl
digit false = refl

digit_le : (b : Bool) → from_bool b ≤ 1
digit_le true = omega arith
digit_le false = omega arith

pub overflow_mul-result : goal.overflow_mul-result
overflow_mul-result c =
    let total = small c.args.x.payment c.args.v _ c.total-total.result c.well_formed.0.1.1.1.1.1.1.1.1.0 c.total-total.ensures in
    omega arith

pub returns-then-not-has_yaku : goal.returns-then-not-has_yaku
returns-then-not-has_yaku c =
    let a = c.args in
    rank_none (game a.v).players a.x c.has_yaku.result c.has_yaku.ensures (ap not c.if-not-has_yaku.true)

pub returns : goal.returns
returns c =
    let a = c.args in
    simp (c.from-han.ensures, c.from-fu.ensures)
    (rank_some (game a.v).players a.x c.has_yaku.result c.total-total.result c.from-yakuman.result
    c.has_yaku.ensures (ap not c.if-not-has_yaku.false) c.total-total.ensures (c.from-yakuman.ensures ∙ digit a.x.is_yakuman))
