-- One reading in two rooms: what the room gives for the pair of the double wind changes no tally, no han and no yakuman; where it gives two, fu, level,
-- basic points and total are at most those of another room, and the same where the pair is not the double wind. Assumes nothing.
use mathlib.Core.Path.{◌≡◌, refl, sym, ap₂, subst, ◌∙◌}
use mathlib.Core.Bool.{Bool, not}
use Prim.Native.Nat.{ℕ, ◌≤◌}
use native.Mathlib.Omega.{arith}
use lib.Dec.{T}
use Rattle.context.specs.declared.GameContext.{GameContext}
use Rattle.context.specs.Context.{is_dealer, is_tsumo, in_room}
use Rattle.hand.specs.Reading.{Reading}
use Rattle.tile_yaku.specs.declared.TileYaku.{TileYaku}
use Rattle.yaku.specs.Tally.{is_yakuman}
use Rattle.yaku.proofs.AnyRoom.{tallies_any_room, han_any_room, yakuman_any_room}
use Rattle.fu.specs.Fu.{fu}
use Rattle.fu.proofs.DoubleWind.{has_double_wind, fu_any_room, fu_two_le}
use Rattle.dora.specs.declared.DoraCount.{DoraCount}
use Rattle.dora.specs.Dora.{total_han}
use Rattle.scoring.specs.Level.{basic_points, place}
use Rattle.scoring.specs.Payment.{total_at}
use Rattle.scoring.proofs.Rising.{level_rises, basic_rises}
use Rattle.scoring.proofs.Shares.{total_rises}
use Rattle.reading_score.specs.declared.ScoringResult.{ScoringResult}
use Rattle.reading_score.specs.Score.{result, han_with, score_of}

-- x is the score where the room gives two, y that of another room
pub record LessFu (x y : ScoringResult) : Type 0 where
  pub same_tallies : x.tallies ≡ y.tallies
  pub same_han : x.han ≡ y.han
  pub same_yakuman : x.is_yakuman ≡ y.is_yakuman
  pub fu_le : x.fu ≤ y.fu
  pub level_le : place x.score_level ≤ place y.score_level
  pub basic_le : x.basic_points ≤ y.basic_points
  pub total_le : (players : ℕ) → total_at players x.payment ≤ total_at players y.payment

pub less_itself : (x : ScoringResult) → LessFu x x
less_itself x =
    record {
      same_tallies = refl;
      same_han = refl;
      same_yakuman = refl;
      fu_le = omega arith;
      level_le = omega arith;
      basic_le = omega arith;
      total_le = λ players. omega arith;
    }

module _ (w : GameContext) (n : ℕ) (opened : Bool) (s : TileYaku) (d : DoraCount) (r : Reading) where
  -- two wins that differ in the room alone
  same_yakuman : is_yakuman (in_room 2 w) opened s r ≡ is_yakuman (in_room n w) opened s r
  same_yakuman = yakuman_any_room 2 w.dora_indicators w.ura_dora_indicators w opened s r ∙ sym (yakuman_any_room n w.dora_indicators w.ura_dora_indicators w opened s r)

  same_han : han_with (in_room 2 w) opened s d r ≡ han_with (in_room n w) opened s d r
  same_han = ap₂ (total_han d) same_yakuman (han_any_room 2 w.dora_indicators w.ura_dora_indicators w opened s r ∙ sym (han_any_room n w.dora_indicators w.ura_dora_indicators w opened s r))

  no_more_han : han_with (in_room 2 w) opened s d r ≤ han_with (in_room n w) opened s d r
  no_more_han = let e = same_han in omega arith

  no_other_yakuman : T (is_yakuman (in_room 2 w) opened s r) → T (is_yakuman (in_room n w) opened s r)
  no_other_yakuman h = subst T same_yakuman h

  no_more_basic :
      basic_points (han_with (in_room 2 w) opened s d r) (fu (in_room 2 w) opened r) (is_yakuman (in_room 2 w) opened s r)
      ≤ basic_points (han_with (in_room n w) opened s d r) (fu (in_room n w) opened r) (is_yakuman (in_room n w) opened s r)
  no_more_basic = basic_rises _ _ _ _ no_more_han (fu_two_le w n opened r) _ _ no_other_yakuman

  pub score_in_two : LessFu (score_of (in_room 2 w) opened s d r) (score_of (in_room n w) opened s d r)
  unfolding score_of result
  score_in_two =
      record {
        same_tallies = tallies_any_room 2 w.dora_indicators w.ura_dora_indicators w opened s r ∙ sym (tallies_any_room n w.dora_indicators w.ura_dora_indicators w opened s r);
        same_han = same_han;
        same_yakuman = same_yakuman;
        fu_le = fu_two_le w n opened r;
        level_le = level_rises _ _ _ _ no_more_han (fu_two_le w n opened r) _ _ no_other_yakuman;
        basic_le = no_more_basic;
        total_le = λ players. total_rises players (is_tsumo w) (is_dealer w) _ _ no_more_basic;
      }

  -- where the pair is not the double wind, every room scores alike
  pub score_any_room : T (not (has_double_wind w r)) → score_of (in_room n w) opened s d r ≡ score_of w opened s d r
  unfolding score_of result
  score_any_room h =
      λ i.
      let y = yakuman_any_room n w.dora_indicators w.ura_dora_indicators w opened s r i in
      result w (tallies_any_room n w.dora_indicators w.ura_dora_indicators w opened s r i) (total_han d y (han_any_room n w.dora_indicators w.ura_dora_indicators w opened s r i)) (fu_any_room w n opened r h i) y d
