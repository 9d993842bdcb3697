-- The fields of a reading's answer, each by itself: its number, tallies, dora, han as they add up, fu, and its waits. Assumes nothing.
use mathlib.Core.Path.{◌≡◌, refl, sym, ap, subst}
use mathlib.Core.Bool.{Bool, cond}
use mathlib.Core.List.{List}
use Prim.Native.Nat.{ℕ, ◌+◌}
use Rattle.rules.specs.Rules.{Game}
use Rattle.context.specs.declared.GameContext.{GameContext}
use Rattle.hand.specs.Reading.{Reading}
use Rattle.wait.specs.Wait.{waits}
use Rattle.tile_yaku.specs.declared.TileYaku.{TileYaku}
use Rattle.yaku.specs.Tally.{tallies, is_yakuman}
use Rattle.yaku.specs.Han.{han_of, dot, han}
use Rattle.fu.specs.Fu.{fu}
use Rattle.dora.specs.declared.DoraCount.{DoraCount}
use Rattle.dora.specs.Dora.{total_han}
use Rattle.checks.specs.declared.Calls.{Calls}
use Rattle.unit.specs.Listing.{hand_readings}
use Rattle.reading_score.specs.Score.{result, score_of}
use Rattle.choice.specs.declared.ScoreAnswer.{ScoreAnswer}
use Rattle.choice.specs.Choice.{scored}
use Rattle.choice.specs.Standing.{StandsAt}
use Rattle.win.specs.declared.WaitsAnswer.{WaitsAnswer}
use Rattle.win.specs.Win.{win_check_in, is_opened, tiles_together, dora_together, score_in, score_win_in, score_reading_in, name_waits_in}
use Rattle.win.proofs.Answers.{scored_at, named_at}
use Rattle.win_promises.proofs.Winning.{same_by_number}
use Rattle.answers.specs.declared.ScoreValues.{ScoreValues}
use Rattle.answers.specs.Answers.{score_values_at, waits_values}

-- the han that the tallies add up to: each as often as it counts, times the han of its yaku, closed or open as the hand is
abbrev pub yaku_han : Bool → ScoreValues → ℕ
yaku_han opened v = dot (han_of opened) v.tallies

-- the values of the reading r, which has the number n; d are the dora of hand and calls together
pub record ValuesOf (w : GameContext) (opened : Bool) (s : TileYaku) (d : DoraCount) (r : Reading) (n : ℕ) (v : ScoreValues) : Type 0 where
  pub reading_is : v.reading ≡ n
  pub tallies_are : v.tallies ≡ tallies w opened s r
  -- a yakuman takes no dora; otherwise both sorts add
  pub han_adds_up : v.han ≡ cond v.is_yakuman (yaku_han opened v) (yaku_han opened v + (v.regular_dora + v.ura_dora))
  pub regular_is : v.regular_dora ≡ d.regular
  pub ura_is : v.ura_dora ≡ d.ura
  pub fu_is : v.fu ≡ fu w opened r
  pub yakuman_is : v.is_yakuman ≡ is_yakuman w opened s r

values_of :
    (players : ℕ) (w : GameContext) (opened : Bool) (s : TileYaku) (d : DoraCount) (r : Reading) (n : ℕ)
    → ValuesOf w opened s d r n (score_values_at players (scored n (score_of w opened s d r)))
unfolding score_of result han total_han
values_of players w opened s d r n =
    record { reading_is = refl; tallies_are = refl; han_adds_up = refl; regular_is = refl; ura_is = refl; fu_is = refl; yakuman_is = refl }

module _ (g : Game) (cs : List ℕ) (k : Calls) (w : GameContext) (passes : win_check_in g cs k w ≡ 0) where
  -- by its number, of the reading r that stands at the number n
  module _ (n : ℕ) (r : Reading) (stands : StandsAt r n (hand_readings cs k)) where
    -- its values are those of r: the number n, the tallies, the dora, the han they add up to, the fu, and whether there is a yakuman
    pub reading_values : ValuesOf w (is_opened k) (tiles_together cs k w) (dora_together cs k w) r n (score_values_at g.players (score_reading_in g cs k w n))
    unfolding score_in
    reading_values =
        subst (λ (a : ScoreAnswer). ValuesOf w (is_opened k) (tiles_together cs k w) (dora_together cs k w) r n (score_values_at g.players a))
        (sym (scored_at g cs k w passes n r stands)) (values_of g.players w (is_opened k) (tiles_together cs k w) (dora_together cs k w) r n)

    -- its waits are those of the winning tile in r
    pub waits_values_holds : (waits_values (name_waits_in g cs k w n)).waits ≡ waits w.winning_tile r
    waits_values_holds = ap (λ (a : WaitsAnswer). (waits_values a).waits) (named_at g cs k w passes n r stands)

  -- a win that is scored answers what its chosen reading answers by its number
  pub win_values :
      (score_values_at g.players (score_win_in g cs k w)).number ≡ 0
      → score_values_at g.players (score_reading_in g cs k w (score_values_at g.players (score_win_in g cs k w)).reading) ≡ score_values_at g.players (score_win_in g cs k w)
  win_values e = ap (score_values_at g.players) (same_by_number g cs k w passes e)
