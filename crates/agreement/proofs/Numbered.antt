-- A reading by its number, and its renamed one at whatever number that stands: the same waits, whatever is shown, and the same score where the two are
-- comparable. Assumes nothing.
use mathlib.Core.Path.{sym, ap, subst₂, ◌∙◌}
use mathlib.Core.List.Memᴰ
use mathlib.Core.List.Permᴰ
use mathlib.Core.List.{List}
use Prim.Native.Nat.{ℕ}
use Rattle.lists.proofs.Members.{perm_mem}
use Rattle.tile.specs.declared.Renaming.{Renaming}
use Rattle.rules.specs.Rules.{Game}
use Rattle.context.specs.declared.Indicators.{Indicators}
use Rattle.context.specs.declared.GameContext.{GameContext}
use Rattle.context.specs.Context.{ren_win, indicating}
use Rattle.hand.specs.Reading.{Reading}
use Rattle.renamed.specs.Renamed.{ren_reading, ren_counts}
use Rattle.renamed_scores.proofs.Waits.{waits_renamed}
use Rattle.checks.specs.declared.Calls.{Calls}
use Rattle.unit.specs.Listing.{hand_readings}
use Rattle.choice.specs.Standing.{StandsAt}
use Rattle.choice.proofs.Standing.{stands_mem, mem_stands}
use Rattle.win.specs.Win.{named_waits, score_reading_in}
use Rattle.win.proofs.Answers.{scored_at, named_at}
use Rattle.win.proofs.Passed.{Checked, checks}
use Rattle.agreement.specs.Agreement.{StaysAllowed, SameAnswer, NotGreen, Comparable, SameReading, RenamedCalls}
use Rattle.agreement.proofs.Indicators.{BothRenamed}
use Rattle.agreement.proofs.Twin.{checked_renamed, readings_renamed}
use Rattle.agreement.proofs.Scored.{answers_alike, is_reading_holds, score_renamed}

module _
    {g : Game} {ρ : Renaming} (stays : StaysAllowed g ρ) {cs : List ℕ} {k j : Calls} {w : GameContext} (c : RenamedCalls ρ k j) (p : Checked g cs k w)
    {d u : Indicators}
    (both : BothRenamed ρ w d u)
  where
    abbrev v : GameContext
    v = indicating d u (ren_win ρ w)

    pub same_reading : (n : ℕ) (r : Reading) → StandsAt r n (hand_readings cs k) → SameReading g ρ cs k j w v n r
    same_reading n r i =
        let m = stands_mem r n (hand_readings cs k) i in
        let q = mem_stands (perm_mem (Permᴰ.symm (readings_renamed g cs c p.hand)) (Memᴰ.map (ren_reading ρ) m)) in
        let two = checks (ren_counts ρ cs) j v (checked_renamed g stays c both p) in
        record {
          number = q.0;
          stands = q.1;
          waits = λ o s.
              named_at g (ren_counts ρ cs) j v two o (ren_reading ρ r) s
              ∙ ap named_waits (waits_renamed ρ w.winning_tile p.tile r (is_reading_holds cs k r m))
              ∙ sym (named_at g cs k w (checks cs k w p) n r i);
        }

    pub same_score :
        NotGreen cs k → NotGreen (ren_counts ρ cs) j → Comparable ρ w
        → (n : ℕ) (r : Reading) → StandsAt r n (hand_readings cs k)
        → (m : ℕ) → StandsAt (ren_reading ρ r) m (hand_readings (ren_counts ρ cs) j)
        → SameAnswer (score_reading_in g (ren_counts ρ cs) j v m) (score_reading_in g cs k w n)
    same_score plain plain' fair n r i m s =
        let two = checks (ren_counts ρ cs) j v (checked_renamed g stays c both p) in
        subst₂ SameAnswer (sym (scored_at g (ren_counts ρ cs) j v two m (ren_reading ρ r) s)) (sym (scored_at g cs k w (checks cs k w p) n r i))
        (answers_alike (score_renamed c p plain plain' both fair r (stands_mem r n (hand_readings cs k) i)) m n)
