-- Which of two scores is preferred, as the rule of the choice says it. The law `rank_order` says that the rank, by which the choice goes,
-- orders the scores with a yaku in this way. This is a definition.
use Rattle.std.specs.Prelude.{◌≡◌, true, false, ℕ, ◌<◌}
use Rattle.scoring.specs.Payment.{total_at}
use Rattle.reading_score.specs.declared.ScoringResult.{ScoringResult}

-- y is preferred to x at a table of so many players: the greater total; then a yakuman before none, more han, more fu
pub data Preferred (players : ℕ) (x y : ScoringResult) : Type 0 where
  by_total : total_at players x.payment < total_at players y.payment → Preferred players x y
  by_yakuman :
      total_at players x.payment ≡ total_at players y.payment
      → x.is_yakuman ≡ false → y.is_yakuman ≡ true → Preferred players x y
  by_han :
      total_at players x.payment ≡ total_at players y.payment
      → x.is_yakuman ≡ y.is_yakuman
      → x.han < y.han → Preferred players x y
  by_fu :
      total_at players x.payment ≡ total_at players y.payment
      → x.is_yakuman ≡ y.is_yakuman
      → x.han ≡ y.han
      → x.fu < y.fu → Preferred players x y
