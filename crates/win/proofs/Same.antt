-- What is shown of a checked hand holds of the counts and the calls that were checked, the win w having passed in the game g. Assumes nothing.
use mathlib.Core.Path.{◌≡◌, sym, ap, ap₂, ◌∙◌}
use mathlib.Core.Bool.{Bool}
use mathlib.Core.List.{List}
use Prim.Native.Nat.{ℕ}
use lib.ListN.{length}
use Rattle.rules.specs.Rules.{Game}
use Rattle.context.specs.declared.GameContext.{GameContext}
use Rattle.checks.specs.declared.Calls.{Calls}
use Rattle.checks.specs.declared.checked.CheckedHand.{CheckedHand}
use Rattle.choice.specs.declared.ScoreAnswer.{ScoreAnswer}
use Rattle.win.specs.declared.WaitsAnswer.{WaitsAnswer}
use Rattle.win.specs.Win.{win_check_in, is_opened, score_win_in, score_reading_in, name_waits_in}

module _ (g : Game) (counts : List ℕ) (k : Calls) (w : GameContext) (hand : CheckedHand) (same : (hand.counts.now ≡ counts) × (hand.calls ≡ k)) where
  pub same_passes : 0 ≡ win_check_in g counts k w → win_check_in g hand.counts.now hand.calls w ≡ 0
  same_passes ok = ap₂ (λ (cs : List ℕ) (k : Calls). win_check_in g cs k w) same.0 same.1 ∙ sym ok

  pub same_four : length k.melds ≡ 4 → length hand.calls.melds ≡ 4
  same_four four = ap (λ (k : Calls). length k.melds) same.1 ∙ four

  pub same_opened : {b : Bool} → b ≡ is_opened k → b ≡ is_opened hand.calls
  same_opened e = e ∙ ap is_opened (sym same.1)

  pub same_win : {a : ScoreAnswer} → a ≡ score_win_in g hand.counts.now hand.calls w → a ≡ score_win_in g counts k w
  same_win e = e ∙ ap₂ (λ (cs : List ℕ) (k : Calls). score_win_in g cs k w) same.0 same.1

  pub same_reading : (n : ℕ) {a : ScoreAnswer} → a ≡ score_reading_in g hand.counts.now hand.calls w n → a ≡ score_reading_in g counts k w n
  same_reading n e = e ∙ ap₂ (λ (cs : List ℕ) (k : Calls). score_reading_in g cs k w n) same.0 same.1

  pub same_waits : (n : ℕ) {a : WaitsAnswer} → a ≡ name_waits_in g hand.counts.now hand.calls w n → a ≡ name_waits_in g counts k w n
  same_waits n e = e ∙ ap₂ (λ (cs : List ℕ) (k : Calls). name_waits_in g cs k w n) same.0 same.1
