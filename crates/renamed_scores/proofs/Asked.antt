-- Questions of a reading, by its sort: answered of the renamed reading as of the reading. Assumes nothing.
use mathlib.Core.Path.{◌≡◌, refl, ap}
use mathlib.Core.Bool.{Bool, not, cond}
use mathlib.Core.List.{List, map}
use Prim.Native.Nat.{ℕ, ◌<◌}
use lib.Dec.{T, ltb, ltb→lt}
use Rattle.lists.specs.Fold.{all}
use Rattle.lists.proofs.Finite.{and_left, and_right}
use Rattle.tile.specs.declared.Renaming.{Renaming}
use Rattle.tile.specs.Renaming.{ren}
use Rattle.tile.proofs.Renamings.{ren_eqb}
use Rattle.meld.specs.declared.Meld.{Meld}
use Rattle.meld.specs.Meld.{is_meld, sorted}
use Rattle.meld.specs.Renamed.{ren_meld}
use Rattle.meld.proofs.Renamed.{Moved}
use Rattle.context.specs.declared.GameContext.{GameContext}
use Rattle.context.specs.Context.{ren_win}
use Rattle.hand.specs.Reading.{Reading, pairs, orphans, standard}
use Rattle.renamed.specs.Renamed.{ren_reading}
use Rattle.renamed.proofs.Records.{is_reading}
use Rattle.meld_yaku.specs.Standard.{of_standard}
use Rattle.yaku.specs.Tally.{is_chiitoitsu, unless_orphans, orphans_won}
use Rattle.renamed_scores.proofs.Moved.{sorted_moved}

pub ren_is_chiitoitsu_holds : (ρ : Renaming) (r : Reading) → is_chiitoitsu (ren_reading ρ r) ≡ is_chiitoitsu r
ren_is_chiitoitsu_holds ρ (pairs ps) = refl
ren_is_chiitoitsu_holds ρ (orphans p) = refl
ren_is_chiitoitsu_holds ρ (standard p ms) = refl

pub ren_unless_orphans_holds : (ρ : Renaming) (b : Bool) (r : Reading) → unless_orphans b (ren_reading ρ r) ≡ unless_orphans b r
ren_unless_orphans_holds ρ b (pairs ps) = refl
ren_unless_orphans_holds ρ b (orphans p) = refl
ren_unless_orphans_holds ρ b (standard p ms) = refl

pub ren_orphans_won_holds :
    (ρ : Renaming) (w : GameContext) → w.winning_tile < 34 → (doubled : Bool) (r : Reading) → T (is_reading r)
    → orphans_won (ren_win ρ w) doubled (ren_reading ρ r) ≡ orphans_won w doubled r
ren_orphans_won_holds ρ w h doubled (pairs ps) v = refl
ren_orphans_won_holds ρ w h doubled (orphans p) v = ap (λ (b : Bool). cond doubled b (not b)) (ren_eqb ρ w.winning_tile p h (ltb→lt p 34 v))
ren_orphans_won_holds ρ w h doubled (standard p ms) v = refl

-- a question q of the pair and the melds, and q' of the renamed ones
abbrev pub Asked : Renaming → (ℕ → List Meld → Bool) → (ℕ → List Meld → Bool) → Type 0
Asked ρ q q' = (p : ℕ) → p < 34 → (ms ns : List Meld) → Moved ρ ms ns → q' (ren ρ p) ns ≡ q p ms

pub ren_of_standard_holds :
    (ρ : Renaming) (q q' : ℕ → List Meld → Bool) → Asked ρ q q' → (r : Reading) → T (is_reading r)
    → of_standard q' (ren_reading ρ r) ≡ of_standard q r
ren_of_standard_holds ρ q q' law (pairs ps) v = refl
ren_of_standard_holds ρ q q' law (orphans p) v = refl
ren_of_standard_holds ρ q q' law (standard p ms) v =
    law p (ltb→lt p 34 (and_left (ltb p 34) (all is_meld ms) v)) ms (sorted (map (ren_meld ρ) ms))
    (sorted_moved ρ ms (and_right (ltb p 34) (all is_meld ms) v))
