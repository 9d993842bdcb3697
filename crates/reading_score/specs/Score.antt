-- The score of a reading: all that is answered of it. w is the win, `opened` whether something was called from another player, s the answers
-- to the yaku that depend on the tiles alone (tile_yaku), d the dora of hand and calls together, r the reading. These are definitions.
use Rattle.std.specs.Prelude.{Bool, cond, not, List, ℕ, suc, ◌+◌, ◌*◌, eqb}
use Rattle.lists.specs.Fold.{any}
use Rattle.context.specs.declared.GameContext.{GameContext}
use Rattle.context.specs.Context.{is_dealer, is_tsumo}
use Rattle.hand.specs.Reading.{Reading}
use Rattle.tile_yaku.specs.declared.TileYaku.{TileYaku}
use Rattle.yaku.specs.Tally.{tallies, is_yakuman}
use Rattle.yaku.specs.Han.{han}
use Rattle.fu.specs.Fu.{fu}
use Rattle.dora.specs.declared.DoraCount.{DoraCount}
use Rattle.dora.specs.Dora.{total_han}
use Rattle.scoring.specs.Level.{level, basic_points}
use Rattle.scoring.specs.Payment.{payment, total_at}
use Rattle.reading_score.specs.declared.ScoringResult.{ScoringResult}

-- what yaku, han, fu and dora come to; ts are the tallies: for each yaku, by its place, how often it counts. The dora are in the han already
unfoldable pub result : GameContext → List ℕ → ℕ → ℕ → Bool → DoraCount → ScoringResult
result w ts han fu yakuman d =
    record {
      tallies = ts;
      han = han;
      fu = fu;
      is_yakuman = yakuman;
      score_level = level han fu yakuman;
      basic_points = basic_points han fu yakuman;
      payment = payment (is_tsumo w) (is_dealer w) (basic_points han fu yakuman);
      dora = d;
    }

-- the han of the reading r: those of its yaku, with dora where there is no yakuman; also where there is no yaku
abbrev pub han_with : GameContext → Bool → TileYaku → DoraCount → Reading → ℕ
han_with w opened s d r = total_han d (is_yakuman w opened s r) (han w opened s r)

-- the score of the reading r
unfoldable pub score_of : GameContext → Bool → TileYaku → DoraCount → Reading → ScoringResult
score_of w opened s d r = result w (tallies w opened s r) (han_with w opened s d r) (fu w opened r) (is_yakuman w opened s r) d

-- at least one yaku; dora is none
abbrev pub has_yaku : ScoringResult → Bool
has_yaku x = any (λ n. not (eqb n 0)) x.tallies

-- 1 with a yakuman, 0 without
abbrev pub yakuman_first : Bool → ℕ
yakuman_first yakuman = cond yakuman 1 0

-- four numbers as the digits of one: as a yakuman is 0 or 1 and han and fu are below 256 (`han_small`, `fu_small`), the total decides, then
-- the yakuman, and so on; the law `rank_order` says so
abbrev pub in_digits : ℕ → ℕ → ℕ → ℕ → ℕ
in_digits total yakuman han fu = ((total * 2 + yakuman) * 256 + han) * 256 + fu

-- the rank in the choice at a table of so many players: the greatest total; then a yakuman before none, more han, more fu. 0 without a yaku.
unfoldable pub rank : ℕ → ScoringResult → ℕ
rank players x =
    cond (has_yaku x)
    (suc (in_digits (total_at players x.payment) (yakuman_first x.is_yakuman) x.han x.fu))
    0
