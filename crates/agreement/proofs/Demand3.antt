-- Two tables of one game agree: a win and the same win renamed, where each tile in the wall becomes one that is in it. The second hand's readings are the first's renamed, whatever wins go with them; where the first win
-- passes the checks so does the second, with the same waits, whatever indicators are shown. They score alike where neither hand is all green and, if an indicator is shown, suits
-- alone are exchanged. Where the first is refused for its indicators, so is the second. Assumes nothing.
use mathlib.Core.Path.{◌≡◌, sym, ap, subst, subst₂, ◌∙◌}
use mathlib.Core.Bool.{Bool}
use mathlib.Core.List.{List, map}
use Prim.Native.Nat.{ℕ, ◌≤◌}
use lib.ListN.{length, length-map}
use Rattle.lists.proofs.Members.{length_perm}
use Rattle.tile.specs.declared.Renaming.{Renaming}
use Rattle.rules.specs.Rules.{Game, four}
use Rattle.meld.specs.declared.Meld.{Meld}
use Rattle.context.specs.declared.Indicators.{Indicators}
use Rattle.context.specs.declared.GameContext.{GameContext}
use Rattle.context.specs.Context.{is_dealer, is_tsumo, ren_win, indicating}
use Rattle.context.proofs.Renamed.{dealer_renamed}
use Rattle.hand.specs.Counts.{held}
use Rattle.hand.specs.Records.{records}
use Rattle.hand.specs.Readings.{readings}
use Rattle.renamed.specs.Renamed.{ren_reading, ren_counts}
use Rattle.renamed.proofs.Counts.{held_renamed}
use Rattle.renamed.proofs.Records.{records_renamed}
use Rattle.checks.specs.declared.Calls.{Calls}
use Rattle.checks.specs.Checks.{called, hand_check_in}
use Rattle.checks.proofs.Passed.{passes_four}
use Rattle.unit.specs.Listing.{hand_readings, hand_records}
use Rattle.unit.proofs.Passes.{melds_called}
use Rattle.promises.proofs.Listing.{once}
use Rattle.dora.specs.declared.DoraCount.{DoraCount}
use Rattle.win.specs.Win.{dora_together, scores, score_win_in}
use Rattle.win.proofs.Answers.{win_choice}
use Rattle.win.proofs.Passed.{Checked, checked, checks}
use Rattle.agreement.specs.Agreement.{StaysAllowed, SameAnswer, NotGreen, Comparable, Listed, Wins, Scored, AlikeIn, Alike, RenamedCalls, RenamedWin}
use Rattle.agreement.proofs.Indicators.{BothRenamed}
use Rattle.agreement.proofs.Twin.{hand_renamed, readings_renamed, checked_renamed}
use Rattle.agreement.proofs.Listed.{same_listing, listing_writes}
use Rattle.agreement.proofs.Scored.{dora_stays, ranks_renamed}
use Rattle.agreement.proofs.Numbered.{same_reading, same_score}
use Rattle.agreement.proofs.Chosen.{Valued, choice_agrees}
use Rattle.agreement.proofs.Valued.{scores_valued}
use Rattle.agreement.proofs.Fourteen.{refused_14}

-- ---- the two hands; the melds of the calls are four (an array of four in the code)
module _ (g : Game) {ρ : Renaming} (cs : List ℕ) {k j : Calls} (c : RenamedCalls ρ k j) (hand : hand_check_in g cs k ≡ 0) where
  -- as many readings, and as many bytes of records
  many_renamed : length (hand_readings (ren_counts ρ cs) j) ≡ length (hand_readings cs k)
  many_renamed = length_perm (readings_renamed g cs c hand) ∙ length-map (hand_readings cs k) (ren_reading ρ)

  bytes_renamed : length (hand_records (ren_counts ρ cs) j) ≡ length (hand_records cs k)
  unfolding hand_records hand_readings
  bytes_renamed =
      ap (λ (l : List Meld). length (records (readings (held (ren_counts ρ cs)) l))) c.calls
      ∙ records_renamed ρ (held cs) (held (ren_counts ρ cs)) (held_renamed ρ cs) (called k) (melds_called cs k (passes_four g cs k hand))

  listed_renamed : StaysAllowed g ρ → (w v : GameContext) → length j.melds ≡ 4 → Listed g ρ cs k j w v
  listed_renamed stays w v four' =
      let second = hand_renamed g stays cs c hand in
      let these = readings_renamed g cs c hand in
      record {
        readings = these;
        once = once g (ren_counts ρ cs) j four' second;
        listings = same_listing g cs (ren_counts ρ cs) k j (second ∙ sym hand) many_renamed bytes_renamed;
        writes = λ buffer h.
            listing_writes g (ren_counts ρ cs) j four' second (map (ren_reading ρ) (hand_readings cs k)) these buffer
            (subst (λ (n : ℕ). n ≤ length buffer) (sym bytes_renamed) h);
      }

-- ---- the two wins, the second with the indicators d and u
module _
    {g : Game} {ρ : Renaming} (stays : StaysAllowed g ρ) {cs : List ℕ} {k j : Calls} {w : GameContext} (c : RenamedCalls ρ k j) (p : Checked g cs k w)
    {d u : Indicators}
    (both : BothRenamed ρ w d u)
  where
    abbrev v : GameContext
    v = indicating d u (ren_win ρ w)

    wins_renamed : Wins g ρ cs k j w v
    wins_renamed = record { passes = checks (ren_counts ρ cs) j v (checked_renamed g stays c both p); numbered = same_reading stays c p both }

    module _
        (four : length k.melds ≡ 4)
        (four' : length j.melds ≡ 4)
        (plain : NotGreen cs k)
        (plain' : NotGreen (ren_counts ρ cs) j)
        (fair : Comparable ρ w)
      where
        -- the two scored wins
        won_renamed : SameAnswer (score_win_in g (ren_counts ρ cs) j v) (score_win_in g cs k w)
        won_renamed =
            let q = checked_renamed g stays c both p in
            let dora = dora_stays c p plain plain' both fair in
            subst₂ SameAnswer (sym (win_choice g (ren_counts ρ cs) j v (checks (ren_counts ρ cs) j v q)))
            (sym (win_choice g cs k w (checks cs k w p)))
            (choice_agrees g.players (is_tsumo w) (is_dealer w) (dora_together cs k w) (scores (ren_counts ρ cs) j v) (scores cs k w)
            (ranks_renamed c p plain plain' both fair g.players)
            (λ x i. subst₂ (λ (b : Bool) (n : DoraCount). Valued (is_tsumo w) b n x) (dealer_renamed ρ w) dora (scores_valued (ren_counts ρ cs) j four' v q x i))
            (scores_valued cs k four w p))

        scored_renamed : Scored g ρ cs k j w v
        scored_renamed = record { numbered = same_score stays c p both plain plain' fair; won = won_renamed }

-- of any game, under any renaming that keeps the tiles in its wall there
pub demand3_in :
    (g : Game) (ρ : Renaming) → StaysAllowed g ρ → (cs : List ℕ) (k j : Calls) (w v : GameContext) → length k.melds ≡ 4 → length j.melds ≡ 4
    → RenamedCalls ρ k j → RenamedWin ρ w v → AlikeIn g ρ cs k j w v
demand3_in g ρ stays cs k j w v four four' c r =
    let both : BothRenamed ρ w v.dora_indicators v.ura_dora_indicators = record { dora = r.dora; ura = r.ura } in
    subst (AlikeIn g ρ cs k j w) (sym r.rest)
    (record {
      listed = λ hand. listed_renamed g cs c hand stays w _ four';
      wins = λ passes. wins_renamed stays c (checked cs k w passes) both;
      scored = λ passes plain plain' fair. scored_renamed stays c (checked cs k w passes) both four four' plain plain' fair;
      refused = refused_14 g stays cs c both;
    })

-- with four players every tile is in the wall, under every renaming
pub four_stays : (ρ : Renaming) → StaysAllowed four ρ
four_stays ρ t h a = tt

pub demand3 :
    (ρ : Renaming) (cs : List ℕ) (k j : Calls) (w v : GameContext) → length k.melds ≡ 4 → length j.melds ≡ 4
    → RenamedCalls ρ k j → RenamedWin ρ w v → Alike ρ cs k j w v
demand3 ρ = demand3_in four ρ (four_stays ρ)
