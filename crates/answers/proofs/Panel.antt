-- What a panel shows of a reading: its waits, as they are named by its number, and its yaku, as it is scored by its number, do not
-- contradict each other. Assumes nothing.
use mathlib.Core.Path.{◌≡◌, refl, sym, ap, ◌∙◌}
use mathlib.Core.List.{List, [], ◌∷◌}
use Prim.Native.Nat.{ℕ, zero, suc}
use native.Mathlib.Decide.{ℕ_discrete}
use Rattle.rules.specs.Rules.{Game}
use Rattle.context.specs.declared.GameContext.{GameContext}
use Rattle.hand.specs.Reading.{Reading, orphans}
use Rattle.wait.specs.Wait.{waits}
use Rattle.wait.proofs.Doubled.{tanki_in, kokushi13_in}
use Rattle.yaku.specs.declared.names.Yaku.TheVariants.{KokushiMusou, Kokushi13Wait}
use Rattle.yaku.specs.Names.{tallied}
use Rattle.yaku.proofs.Orphans.{kokushi13_agrees, tanki_agrees}
use Rattle.checks.specs.declared.Calls.{Calls}
use Rattle.unit.specs.Listing.{hand_readings}
use Rattle.records.specs.Pick.{pick_at}
use Rattle.reading_score.specs.Score.{result, score_of}
use Rattle.choice.specs.declared.ScoreAnswer.{ScoreAnswer}
use Rattle.choice.specs.Choice.{refused, scored}
use Rattle.choice.specs.Standing.{StandsAt}
use Rattle.win.specs.declared.WaitsAnswer.{WaitsAnswer}
use Rattle.win.specs.Win.{is_opened, tiles_together, win_check_in, score_in, score_reading_in, refused_waits, named_waits, name_waits_in}
use Rattle.win.proofs.Answers.{reading_refused, waits_refused, reading_picked, waits_picked}
use Rattle.answers.specs.Answers.{score_values_at, waits_values}
use Rattle.answers.proofs.Fields.{reading_values, waits_values_holds}

module _ (g : Game) (cs : List ℕ) (k : Calls) (w : GameContext) (n : ℕ) where
  -- the two answers, as they are picked out of the readings or refused
  abbrev Agree : WaitsAnswer → ScoreAnswer → Type 0
  Agree a b = kokushi13_in (waits_values a).waits ≡ tallied Kokushi13Wait (score_values_at g.players b).tallies

  picked : (l : List Reading) (m : ℕ) → Agree (pick_at (refused_waits 12) (λ r. named_waits (waits w.winning_tile r)) l m) (pick_at (refused 12) (λ r. scored n (score_in cs k w r)) l m)
  unfolding score_in score_of result
  picked [] m = refl
  picked (r ∷ l) zero = kokushi13_agrees w (is_opened k) (tiles_together cs k w) r
  picked (r ∷ l) (suc m) = picked l m

  -- the wait Kokushi13 is tallied exactly where the yaku Kokushi13Wait is, whatever is asked; beside a refusal neither is
  pub kokushi13_values : kokushi13_in (waits_values (name_waits_in g cs k w n)).waits ≡ tallied Kokushi13Wait (score_values_at g.players (score_reading_in g cs k w n)).tallies
  kokushi13_values = go (ℕ_discrete (win_check_in g cs k w) 0)
    where
      go : Dec (win_check_in g cs k w ≡ 0) → Agree (name_waits_in g cs k w n) (score_reading_in g cs k w n)
      go (yes z) = rw (waits_picked g cs k w z n, reading_picked g cs k w z n) (picked (hand_readings cs k) n)
      go (no f) = rw (← waits_refused g cs k w (win_check_in g cs k w) refl f n, ← reading_refused g cs k w (win_check_in g cs k w) refl f n) refl

  -- and of thirteen orphans the wait Tanki exactly where the yaku KokushiMusou is
  pub tanki_values :
      win_check_in g cs k w ≡ 0 → (p : ℕ) → StandsAt (orphans p) n (hand_readings cs k)
      → tanki_in (waits_values (name_waits_in g cs k w n)).waits ≡ tallied KokushiMusou (score_values_at g.players (score_reading_in g cs k w n)).tallies
  tanki_values z p i =
      ap tanki_in (waits_values_holds g cs k w z n (orphans p) i)
      ∙ tanki_agrees w (is_opened k) (tiles_together cs k w) p
      ∙ ap (tallied KokushiMusou) (sym (reading_values g cs k w z n (orphans p) i).tallies_are)
