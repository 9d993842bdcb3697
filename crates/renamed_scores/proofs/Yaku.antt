-- A reading and its renamed one have a yaku together: the tallies have the same sum. Assumes nothing.
use mathlib.Core.Path.{◌≡◌, refl, sym, ap, ◌∙◌}
use mathlib.Core.Bool.{Bool, ◌||◌, not}
use mathlib.Core.List.{List, [], ◌∷◌}
use Prim.Native.Nat.{ℕ, zero, suc, ◌+◌, ◌<◌}
use native.Mathlib.Omega.{arith}
use lib.Dec.{T, eqb}
use borrow.Author.Tests.{ne_eqb}
use Rattle.lists.specs.Fold.{any, total}
use Rattle.tile.specs.declared.Renaming.{Renaming}
use Rattle.context.specs.declared.GameContext.{GameContext}
use Rattle.context.specs.Context.{in_range, ren_win}
use Rattle.hand.specs.Reading.{Reading}
use Rattle.renamed.specs.Renamed.{ren_reading}
use Rattle.renamed.proofs.Records.{is_reading}
use Rattle.tile_yaku.specs.declared.TileYaku.{TileYaku}
use Rattle.yaku.specs.Tally.{tallies}
use Rattle.renamed_scores.proofs.Han.{HonorsApart, tallies_stay}

-- a tally above 0, as the score has it
abbrev pub any_tally : List ℕ → Bool
any_tally l = any (λ n. not (eqb n 0)) l

-- some tally is above 0 where their sum is
tally_total : (l : List ℕ) → any_tally l ≡ not (eqb (total l) 0)
tally_total [] = refl
tally_total (zero ∷ l) = let e : total l ≡ 0 + total l = omega arith in tally_total l ∙ ap (λ (n : ℕ). not (eqb n 0)) e
tally_total (suc n ∷ l) =
    ap (λ (b : Bool). not b || any_tally l) (ne_eqb (suc n) 0 (omega arith)) ∙ ap not (sym (ne_eqb (suc n + total l) 0 (omega arith)))

total_apart : HonorsApart total
total_apart a b c d e h f g l s = omega arith

pub any_tally_renamed_holds :
    (ρ : Renaming) (w : GameContext) → T (in_range w) → w.winning_tile < 34 → (opened : Bool) (s : TileYaku) (r : Reading) → T (is_reading r)
    → any_tally (tallies (ren_win ρ w) opened s (ren_reading ρ r)) ≡ any_tally (tallies w opened s r)
any_tally_renamed_holds ρ w winds h opened s r v =
    let q = tallies (ren_win ρ w) opened s (ren_reading ρ r) in
    tally_total q ∙ ap (λ (n : ℕ). not (eqb n 0)) (tallies_stay ρ w winds h opened s r v total total_apart)
    ∙ sym (tally_total (tallies w opened s r))
