-- The fu of a meld by its place: none past the end of the list, and at a place that of the meld there. Assumes nothing.
use mathlib.Core.Path.{◌≡◌, sym, ap, ◌∙◌}
use mathlib.Core.Bool.{Bool}
use mathlib.Core.List.{List, map}
use Prim.Native.Nat.{ℕ, ◌<◌, ◌≤◌}
use lib.ListN.{length, get_or, length-map, get_or-eq_default}
use Rattle.lists.proofs.Members.{at_map}
use Rattle.meld.specs.declared.Meld.{Meld}
use Rattle.context.specs.declared.GameContext.{GameContext}
use Rattle.wait.specs.Concealed.{spared}
use Rattle.fu.specs.Fu.{meld_fu}
use Rattle.explained.specs.Breakdown.{fu_at}

module _ (w : GameContext) (ms : List Meld) (i : ℕ) where
  pub past_places : length ms ≤ i → 0 ≡ fu_at w ms i
  past_places h = sym (get_or-eq_default (map (meld_fu w (spared w ms)) ms) 0 {n = i} (rw length-map h))

  pub at_place : (kept : Bool) (d : Meld) (n : ℕ) → i < length ms → kept ≡ spared w ms → n ≡ meld_fu w kept (get_or ms i d) → n ≡ fu_at w ms i
  at_place kept d n h k e = e ∙ ap (λ (b : Bool). meld_fu w b (get_or ms i d)) k ∙ sym (at_map (meld_fu w (spared w ms)) ms i d 0 h)
