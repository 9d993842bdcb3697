-- What the winning tile completed does not depend on the sources of a reading's melds: waits, Pinfu, and what is concealed. Assumes nothing.
use mathlib.Core.Path.{◌≡◌, refl}
use mathlib.Core.Bool.{Bool, ◌&&◌, not}
use mathlib.Core.List.{List, [], ◌∷◌, map}
use Prim.Native.Nat.{ℕ}
use lib.Dec.{eqb}
use Rattle.lists.specs.Fold.{count, one}
use Rattle.meld.specs.declared.Meld.{Meld}
use Rattle.meld.specs.Meld.{is_sequence, but_source}
use Rattle.meld.proofs.Sources.{all_but, any_but, count_but}
use Rattle.context.specs.declared.GameContext.{GameContext}
use Rattle.hand.specs.Reading.{Reading, pairs, orphans, standard}
use Rattle.wait.specs.Wait.{within, two_sided, edge, middle, closed_run, closed_triplet, waits, weight, pinfu}
use Rattle.wait.specs.Concealed.{spared, concealed}
use Rattle.sources.specs.Sources.{but_sources}

-- a triplet of the ron tile is spared
pub spared_but : (w : GameContext) (ms : List Meld) → spared w (map but_source ms) ≡ spared w ms
spared_but w ms = any_but (closed_run within w.winning_tile) (λ m. refl) ms

-- how many triplets and kans are concealed
pub count_concealed :
    (w : GameContext) (kept : Bool) (ms : List Meld) → count (concealed w kept) (map but_source ms) ≡ count (concealed w kept) ms
count_concealed w kept ms = count_but (concealed w kept) (λ m. refl) ms

-- Pinfu
pub pinfu_but : (w : GameContext) (opened : Bool) (r : Reading) → pinfu w opened (but_sources r) ≡ pinfu w opened r
unfolding pinfu
pinfu_but w opened (pairs ps) = refl
pinfu_but w opened (orphans p) = refl
pinfu_but w opened (standard p ms) =
    let runs = all_but is_sequence (λ m. refl) ms in
    let ryanmen = any_but (closed_run two_sided w.winning_tile) (λ m. refl) ms in
    λ i. not opened && (runs i && (eqb (weight w p) 0 && ryanmen i))

-- the tallies of waits
pub waits_but : (t : ℕ) (r : Reading) → waits t (but_sources r) ≡ waits t r
unfolding waits
waits_but t (pairs ps) = refl
waits_but t (orphans p) = refl
waits_but t (standard p ms) =
    let ryanmen = count_but (closed_run two_sided t) (λ m. refl) ms in
    let kanchan = count_but (closed_run middle t) (λ m. refl) ms in
    let penchan = count_but (closed_run edge t) (λ m. refl) ms in
    let shanpon = count_but (closed_triplet t) (λ m. refl) ms in
    λ i. ryanmen i ∷ kanchan i ∷ penchan i ∷ shanpon i ∷ one (eqb t p) ∷ 0 ∷ []
