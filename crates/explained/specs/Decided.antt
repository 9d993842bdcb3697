-- What decided between the scores of two readings: the first rule of the choice (crates/reading_score/specs/Preferred.antt) in which they
-- differ. Without a yaku a reading is never chosen, so the laws speak of two scores with a yaku. These are definitions.
use Rattle.std.specs.Prelude.{Bool, not, cond, ℕ, eqb}
use Rattle.std.specs.Bool.{beq}
use Rattle.scoring.specs.Payment.{total_at}
use Rattle.reading_score.specs.declared.ScoringResult.{ScoringResult}
use Rattle.reading_score.specs.Preferred.{Preferred, by_total, by_yakuman, by_han, by_fu}
use Rattle.explained.specs.declared.decided.Decided.{Decided}
use Rattle.explained.specs.declared.decided.Decided.TheVariants.{Total, Yakuman, Han, Fu, Order}

-- the first rule by which two scores differ, from whether they differ by each
abbrev pub first_of : Bool → Bool → Bool → Bool → Decided
first_of total yakuman han fu = cond total Total (cond yakuman Yakuman (cond han Han (cond fu Fu Order)))

-- at a table of so many players: a greater total, a yakuman, more han, more fu
unfoldable pub decided_by : ℕ → ScoringResult → ScoringResult → Decided
decided_by players x y =
    first_of
    (not (eqb (total_at players x.payment) (total_at players y.payment)))
    (not (beq x.is_yakuman y.is_yakuman))
    (not (eqb x.han y.han))
    (not (eqb x.fu y.fu))

-- the rule by which y is preferred to x
abbrev pub rule_of : {players : ℕ} {x y : ScoringResult} → Preferred players x y → Decided
rule_of (by_total l) = Total
rule_of (by_yakuman e f g) = Yakuman
rule_of (by_han e f l) = Han
rule_of (by_fu e f g l) = Fu
