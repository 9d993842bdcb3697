-- What the proof of `rank` uses: a payment's amounts, each a u32, have a total that leaves room for the other digits, and the digits are the
-- definition's. Assumes nothing.
use mathlib.Core.Path.{◌≡◌, sym, subst}
use mathlib.Core.Bool.{Bool, true, false, not}
use mathlib.Core.List.{List}
use Prim.Native.Nat.{ℕ, ◌+◌, ◌*◌, ◌≤◌}
use native.Mathlib.Omega.{arith}
use native.Mathlib.Numerals.{add-one}
use lib.Dec.{T}
use mir.Val.{Val}
use denote.Laws.{Is}
use denote.Enum.Laws.{owed}
use Rattle.scoring.specs.declared.Payment.{Payment}
use Rattle.scoring.specs.declared.Payment.TheVariants.{Ron, DealerTsumo, Tsumo}
use Rattle.scoring.specs.Payment.{total_at}
use Rattle.scoring.specs.contracts.Payment as P
use Rattle.scoring.proofs.Payment.TheLaws as L
use Rattle.reading_score.specs.declared.ScoringResult.{ScoringResult}
use Rattle.reading_score.specs.Score.{has_yaku, yakuman_first, in_digits, rank}

-- three payers at most, at a table of four
pub total_fits : (p : Payment) (vs : List Val) → Is P.the_row p vs → total_at 4 p ≤ 3 * 4294967295
total_fits (Ron n) vs is = let one = owed P.the_type L.the_laws (Ron n) vs is in omega arith
total_fits (DealerTsumo n) vs is = let one = owed P.the_type L.the_laws (DealerTsumo n) vs is in omega arith
total_fits (Tsumo m n) vs is = let both = owed P.the_type L.the_laws (Tsumo m n) vs is in omega arith

-- without a yaku the rank is 0, with one it has the four digits
pub rank_none : (players : ℕ) (x : ScoringResult) (b : Bool) → b ≡ has_yaku x → not b ≡ true → 0 ≡ rank players x
unfolding rank
rank_none players x true e n = absurd (subst T (sym n) tt)
rank_none players x false e n = rw (sym e)

pub rank_some :
    (players : ℕ) (x : ScoringResult) (b : Bool) (total digit : ℕ) → b ≡ has_yaku x → not b ≡ false → total ≡ total_at players x.payment
    → digit ≡ yakuman_first x.is_yakuman
    → in_digits total digit x.han x.fu + 1 ≡ rank players x
unfolding rank
rank_some players x false total digit e n t d = absurd (subst T n tt)
rank_some players x true total digit e n t d = rw (sym e, t, d, add-one)
