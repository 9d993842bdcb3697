-- A reading of a win and its renamed one score alike, in all but the places of the honors' tallies, and so have the same rank.
-- Assumes nothing.
use mathlib.Core.Path.{◌≡◌, refl, sym, ap, ap₂, subst, ◌∙◌}
use mathlib.Core.Bool.{Bool, cond}
use mathlib.Core.List.{List, map, Memᴰ, Permᴰ}
use Prim.Native.Nat.{ℕ, suc, ◌<◌}
use lib.Dec.{T}
use Rattle.lists.specs.Fold.{any, some}
use Rattle.lists.proofs.Permuted.{map_perm}
use Rattle.lists.proofs.Members.{perm_eq, map_map, map_members}
use Rattle.tile.specs.declared.Renaming.{Renaming}
use Rattle.tile.specs.Renaming.{ren}
use Rattle.rules.specs.Rules.{Game}
use Rattle.meld.specs.declared.Meld.{Meld}
use Rattle.meld.specs.Meld.{is_open}
use Rattle.meld.specs.Renamed.{ren_meld}
use Rattle.context.specs.declared.Indicators.{Indicators}
use Rattle.context.specs.declared.GameContext.{GameContext}
use Rattle.context.specs.Context.{in_range, is_tsumo, ren_win, indicating}
use Rattle.context.proofs.Renamed.{dealer_renamed}
use Rattle.hand.specs.Counts.{held}
use Rattle.hand.specs.Reading.{Reading}
use Rattle.tile_yaku.specs.declared.TileYaku.{TileYaku}
use Rattle.scoring.specs.Level.{level, basic_points}
use Rattle.scoring.specs.Payment.{payment, total_at}
use Rattle.dora.specs.declared.DoraCount.{DoraCount}
use Rattle.dora.specs.Dora.{total_han}
use Rattle.renamed.specs.Renamed.{ren_reading, ren_counts}
use Rattle.renamed.proofs.Keeps.{keeps}
use Rattle.renamed.proofs.Records.{is_reading, listed_reading}
use Rattle.renamed_scores.proofs.Tiles.{tile_yaku_renamed_holds}
use Rattle.renamed_scores.proofs.Yaku.{any_tally_renamed_holds}
use Rattle.renamed_scores.proofs.Score.{score_alike}
use Rattle.checks.specs.declared.Calls.{Calls}
use Rattle.checks.specs.Checks.{called, together}
use Rattle.unit.specs.Listing.{hand_readings}
use Rattle.reading_score.specs.declared.ScoringResult.{ScoringResult}
use Rattle.reading_score.specs.Score.{result, han_with, score_of, has_yaku, rank, yakuman_first, in_digits}
use Rattle.reading_score.proofs.Counted.{by_dora_alone}
use Rattle.choice.specs.Choice.{scored}
use Rattle.win.specs.Win.{is_opened, tiles_together, dora_together, score_in, scores}
use Rattle.agreement.specs.Agreement.{NotGreen, Comparable, SameAnswer, RenamedCalls}
use Rattle.win.proofs.Passed.{Checked}
use Rattle.agreement.proofs.Indicators.{BothRenamed, same_dora}
use Rattle.agreement.proofs.Twin.{renamed_twin, together_twin, readings_renamed}

-- two scores are alike
pub record SameResult (x y : ScoringResult) : Type 0 where
  pub same_yaku : has_yaku x ≡ has_yaku y
  pub same_yakuman : x.is_yakuman ≡ y.is_yakuman
  pub same_han : x.han ≡ y.han
  pub same_dora : x.dora ≡ y.dora
  pub same_fu : x.fu ≡ y.fu
  pub same_level : x.score_level ≡ y.score_level
  pub same_basic : x.basic_points ≡ y.basic_points
  pub same_payment : x.payment ≡ y.payment

module _ {x y : ScoringResult} (e : SameResult x y) where
  -- so they have the same rank at each table, and answers that say them agree
  pub rank_alike : (players : ℕ) → rank players x ≡ rank players y
  unfolding rank
  rank_alike players =
      λ i.
      cond (e.same_yaku i)
      (suc (in_digits (total_at players (e.same_payment i)) (yakuman_first (e.same_yakuman i)) (e.same_han i) (e.same_fu i)))
      0

  pub answers_alike : (i j : ℕ) → SameAnswer (scored i x) (scored j y)
  answers_alike i j =
      record {
        same_number = refl;
        same_han = e.same_han;
        same_dora = e.same_dora;
        same_fu = e.same_fu;
        same_level = e.same_level;
        same_basic = e.same_basic;
        same_payment = e.same_payment;
      }

-- the same hand, open or not, with the same yaku of its tiles and the same dora n
scored_alike :
    (ρ : Renaming) (w : GameContext) → T (in_range w) → w.winning_tile < 34 → (opened : Bool) (s : TileYaku) (n : DoraCount) (r : Reading)
    → T (is_reading r) → SameResult (score_of (ren_win ρ w) opened s n (ren_reading ρ r)) (score_of w opened s n r)
unfolding score_of result
scored_alike ρ w range h opened s n r v =
    let e = score_alike ρ w range h opened r v s in
    let y = e.same_yakuman in
    let han : han_with (ren_win ρ w) opened s n (ren_reading ρ r) ≡ han_with w opened s n r = ap₂ (total_han n) y e.same_han in
    let fu = e.same_fu in
    let basic : basic_points (han_with (ren_win ρ w) opened s n (ren_reading ρ r)) _ _ ≡ basic_points (han_with w opened s n r) _ _ =
    λ i. basic_points (han i) (fu i) (y i) in
    record {
      same_yaku = any_tally_renamed_holds ρ w range h opened s r v;
      same_yakuman = y;
      same_han = han;
      same_dora = refl;
      same_fu = e.same_fu;
      same_level = λ i. level (han i) (e.same_fu i) (y i);
      same_basic = basic;
      same_payment = ap₂ (payment (is_tsumo w)) (dealer_renamed ρ w) basic;
    }

-- what the hand lists is a reading
pub is_reading_holds : (cs : List ℕ) (k : Calls) (r : Reading) → Memᴰ r (hand_readings cs k) → T (is_reading r)
unfolding hand_readings
is_reading_holds cs k r i = listed_reading (held cs) (called k) r i

-- ---- a win and the same win renamed, with the indicators d and u
module _ {g : Game} {ρ : Renaming} {cs : List ℕ} {k j : Calls} {w : GameContext} (c : RenamedCalls ρ k j) (p : Checked g cs k w) where
  -- open or not, as before
  opened_stays : is_opened j ≡ is_opened k
  opened_stays =
      ap (λ (l : List Meld). any is_open l) c.calls ∙ ap some (map_map (ren_meld ρ) is_open (called k))

  module _
      (plain : NotGreen cs k)
      (plain' : NotGreen (ren_counts ρ cs) j)
      {d u : Indicators}
      (both : BothRenamed ρ w d u)
      (fair : Comparable ρ w)
    where
      -- the second win
      abbrev v : GameContext
      v = indicating d u (ren_win ρ w)

      -- hand and calls together: the same counts, and so the same yaku of the tiles and the same dora
      counts_stay : (t : ℕ) → t < 34 → together (ren_counts ρ cs) (called j) (ren ρ t) ≡ together cs (called k) t
      counts_stay = together_twin (keeps ρ) (renamed_twin ρ cs c) g p.hand

      tiles_stay : tiles_together (ren_counts ρ cs) j v ≡ tiles_together cs k w
      tiles_stay =
          tile_yaku_renamed_holds ρ (together cs (called k)) (together (ren_counts ρ cs) (called j)) counts_stay plain plain' w.winning_tile p.tile

      pub dora_stays : dora_together (ren_counts ρ cs) j v ≡ dora_together cs k w
      dora_stays = same_dora both (together cs (called k)) (together (ren_counts ρ cs) (called j)) counts_stay p.indicators fair

      -- a reading and its renamed one
      pub score_renamed :
          (r : Reading) → Memᴰ r (hand_readings cs k) → SameResult (score_in (ren_counts ρ cs) j v (ren_reading ρ r)) (score_in cs k w r)
      unfolding score_in
      score_renamed r i =
          let opened = is_opened k in
          let s = tiles_together cs k w in
          let n = dora_together cs k w in
          let same : score_of v (is_opened j) (tiles_together (ren_counts ρ cs) j v) (dora_together (ren_counts ρ cs) j v) (ren_reading ρ r) ≡ score_of (ren_win ρ w) opened s n (ren_reading ρ r) =
          (λ h. score_of v (opened_stays h) (tiles_stay h) (dora_stays h) (ren_reading ρ r)) ∙ by_dora_alone (ren_win ρ w) opened s (ren_reading ρ r) n d u in
          subst (λ (x : ScoringResult). SameResult x (score_of w opened s n r)) (sym same)
          (scored_alike ρ w p.range p.tile opened s n r (is_reading_holds cs k r i))

      -- the ranks of all readings, in another order
      pub ranks_renamed :
          (players : ℕ) → Permᴰ (map (rank players) (scores (ren_counts ρ cs) j v)) (map (rank players) (scores cs k w))
      unfolding scores
      ranks_renamed players =
          let f = score_in (ren_counts ρ cs) j v in
          let l = hand_readings cs k in
          Permᴰ.trans (map_perm (rank players) (map_perm f (readings_renamed g cs c p.hand)))
          (perm_eq
          (map_map f (rank players) (map (ren_reading ρ) l)
          ∙ map_map (ren_reading ρ) (λ r. rank players (f r)) l
          ∙ map_members (λ r. rank players (f (ren_reading ρ r))) (λ r. rank players (score_in cs k w r)) l (λ r i. rank_alike (score_renamed r i) players)
          ∙ sym (map_map (score_in cs k w) (rank players) l)))
