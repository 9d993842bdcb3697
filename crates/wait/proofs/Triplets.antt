-- Which triplets and kans are concealed, in a player's words: the closed ones, but for a closed triplet that the ron tile completed; and that the
-- triplet is spared where a closed sequence of the reading can have been completed instead. Assumes nothing.
use mathlib.Core.Path.{◌≡◌, refl, sym, ap, ap₂, ◌∙◌}
use mathlib.Core.Bool.{Bool, true, false, ◌&&◌, ◌||◌, not, or-true, beq}
use mathlib.Core.List.{List, [], ◌∷◌}
use Prim.Native.Nat.{ℕ, ◌<◌}
use lib.Dec.{T, eqb}
use Rattle.lists.specs.Fold.{all, all_below, any}
use Rattle.lists.proofs.Finite.{and_left, and_right, at, beq→eq}
use Rattle.meld.specs.declared.Meld.{Meld}
use Rattle.meld.specs.Meld.{is_meld, is_concealed, is_sequence, is_triplet_or_kan, but_source}
use Rattle.meld.proofs.Melds.{all_melds, melds_at_holds}
use Rattle.context.specs.declared.GameContext.{GameContext}
use Rattle.context.specs.Context.{is_tsumo}
use Rattle.wait.specs.Wait.{within, closed_run, closed_triplet}
use Rattle.wait.specs.Concealed.{spared, concealed}
use Rattle.wait.proofs.Places.{completed, completed_but}

-- a triplet or kan of which no tile was called
abbrev pub closed_set : Meld → Bool
closed_set m = is_concealed m && is_triplet_or_kan m

-- a closed kan or a closed triplet, and not both
by_kind : (m : Meld) → T (is_meld m) → T (beq (closed_set m) (eqb m.kind 4 || eqb m.kind 2) && not (eqb m.kind 4 && eqb m.kind 2))
by_kind = melds_at_holds (λ m. beq (closed_set m) (eqb m.kind 4 || eqb m.kind 2) && not (eqb m.kind 4 && eqb m.kind 2)) (λ m. refl) tt

-- kan, triplet: what it is; same: its tile is the winning tile
kan_or_triplet :
    (kan trip tsumo same kept : Bool) → T (not (kan && trip))
    → (kan || trip && (tsumo || (not same || kept))) ≡ ((kan || trip) && (tsumo || (not (trip && same) || kept)))
kan_or_triplet true true tsumo same kept t = absurd t
kan_or_triplet true false tsumo same kept t = sym (or-true tsumo)
kan_or_triplet false true tsumo same kept t = refl
kan_or_triplet false false tsumo same kept t = refl

pub concealed_means :
    (w : GameContext) (kept : Bool) (m : Meld) → T (is_meld m)
    → concealed w kept m ≡ (closed_set m && (is_tsumo w || (not (closed_triplet w.winning_tile m) || kept)))
concealed_means w kept m v =
    let k = by_kind m v in
    kan_or_triplet (eqb m.kind 4) (eqb m.kind 2) (is_tsumo w) (eqb w.winning_tile m.tile) kept
    (and_right (beq (closed_set m) (eqb m.kind 4 || eqb m.kind 2)) _ k)
    ∙ ap (λ (b : Bool). b && (is_tsumo w || (not (closed_triplet w.winning_tile m) || kept)))
    (sym (beq→eq (closed_set m) (eqb m.kind 4 || eqb m.kind 2) (and_left (beq (closed_set m) (eqb m.kind 4 || eqb m.kind 2)) _ k)))

-- ---- spared: a closed sequence has the winning tile
has_tile_test : T (all_melds (λ m. all_below 34 (λ t. beq (closed_run within t m) (is_sequence m && completed t m))))
has_tile_test = tt

has_tile : (t : ℕ) (m : Meld) → t < 34 → T (is_meld m) → closed_run within t m ≡ (is_sequence m && completed t m)
has_tile t m h v =
    beq→eq (closed_run within t m) _
    (at 34 (λ t. beq (closed_run within t m) (is_sequence m && completed t (but_source m)))
    (melds_at_holds (λ m. all_below 34 (λ t. beq (closed_run within t m) (is_sequence m && completed t (but_source m)))) (λ m. refl) has_tile_test m v)
    t h)
    ∙ ap (λ (b : Bool). is_sequence m && b) (sym (completed_but t m v))

pub spared_means :
    (w : GameContext) (ms : List Meld) → w.winning_tile < 34 → T (all is_meld ms)
    → spared w ms ≡ any (λ m. is_sequence m && completed w.winning_tile m) ms
spared_means w [] h v = refl
spared_means w (m ∷ ms) h v =
    ap₂ ◌||◌
    (has_tile w.winning_tile m h (and_left (is_meld m) _ v))
    (spared_means w ms h (and_right (is_meld m) _ v))
