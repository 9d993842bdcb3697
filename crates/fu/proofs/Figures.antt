-- Which figures fu can have, for every win and every reading: a meld's by its sort, and a reading's 20, 25 or a multiple of ten from 30 up.
-- Assumes nothing.
use mathlib.Core.Path.{◌≡◌, refl, ap}
use mathlib.Core.Logic.{◌⊎◌, inl, inr}
use mathlib.Core.Bool.{Bool, true, false, ◌||◌, not, cond}
use mathlib.Core.List.{List, [], ◌∷◌}
use Prim.Native.Nat.{ℕ, ◌+◌, ◌%◌, ◌≤◌}
use native.Mathlib.Omega.{arith}
use lib.Dec.{T, eqb, lit≤}
use borrow.Author.Tests.{eq-eqb, ne_eqb, not-true}
use Rattle.lists.specs.Fold.{any, sum}
use Rattle.lists.proofs.Finite.{T→true, true→t, or_left, or_right}
use Rattle.tile.specs.Tile.{is_terminal_or_honor}
use Rattle.meld.specs.declared.Meld.{Meld}
use Rattle.meld.specs.Meld.{is_kan, is_sequence}
use Rattle.meld.specs.Named.{run, triplet, chi, pon, closed_kan, open_kan, added_kan}
use Rattle.context.specs.declared.GameContext.{GameContext}
use Rattle.context.specs.Context.{is_tsumo}
use Rattle.hand.specs.Reading.{Reading, pairs, orphans, standard}
use Rattle.wait.specs.Wait.{pinfu}
use Rattle.wait.specs.Concealed.{concealed, spared}
use Rattle.fu.specs.Fu.{set_fu, meld_fu, pair_fu, wait_fu, win_fu, base_fu, round_up_to10, at_least30, pinfu_fu, standard_fu, fu}

-- ---- a meld
-- a triplet or a kan, concealed or not: the figures of simples, and of terminals and honors
open_triplet_row : (outer : Bool) → set_fu outer false false ≡ cond outer 4 2
open_triplet_row true = refl
open_triplet_row false = refl

closed_triplet_row : (outer : Bool) → set_fu outer false true ≡ cond outer 8 4
closed_triplet_row true = refl
closed_triplet_row false = refl

open_kan_row : (outer : Bool) → set_fu outer true false ≡ cond outer 16 8
open_kan_row true = refl
open_kan_row false = refl

closed_kan_row : (outer : Bool) → set_fu outer true true ≡ cond outer 32 16
closed_kan_row true = refl
closed_kan_row false = refl

-- the table, for every tile and win
module _ (w : GameContext) (kept : Bool) (t : ℕ) where
  -- a sequence, called or not: nothing
  pub run_fu : meld_fu w kept (run t) ≡ 0
  run_fu = refl

  pub chi_fu : meld_fu w kept (chi t) ≡ 0
  chi_fu = refl

  -- a called triplet: 4 of terminals and honors, 2 of simples
  pub pon_fu : meld_fu w kept (pon t) ≡ cond (is_terminal_or_honor t) 4 2
  pon_fu = open_triplet_row (is_terminal_or_honor t)

  -- an open or added kan: 16 or 8
  pub open_kan_fu : meld_fu w kept (open_kan t) ≡ cond (is_terminal_or_honor t) 16 8
  open_kan_fu = open_kan_row (is_terminal_or_honor t)

  pub added_kan_fu : meld_fu w kept (added_kan t) ≡ cond (is_terminal_or_honor t) 16 8
  added_kan_fu = open_kan_row (is_terminal_or_honor t)

  -- a closed kan: 32 or 16
  pub closed_kan_fu : meld_fu w kept (closed_kan t) ≡ cond (is_terminal_or_honor t) 32 16
  closed_kan_fu = closed_kan_row (is_terminal_or_honor t)

  -- a closed triplet that stays concealed: 8 or 4
  concealed_triplet : T (is_tsumo w || (not (eqb w.winning_tile t) || kept)) → meld_fu w kept (triplet t) ≡ cond (is_terminal_or_honor t) 8 4
  concealed_triplet h = go (is_tsumo w || (not (eqb w.winning_tile t) || kept)) h
    where
      go : (b : Bool) → T b → set_fu (is_terminal_or_honor t) false b ≡ cond (is_terminal_or_honor t) 8 4
      go true h = closed_triplet_row (is_terminal_or_honor t)
      go false h = absurd h

  -- so by tsumo
  pub tsumo_triplet_fu : T (is_tsumo w) → meld_fu w kept (triplet t) ≡ cond (is_terminal_or_honor t) 8 4
  tsumo_triplet_fu h = concealed_triplet (or_left (is_tsumo w) _ h)

  -- or where the win is on another tile
  pub other_triplet_fu : (w.winning_tile ≡ t → ⊥) → meld_fu w kept (triplet t) ≡ cond (is_terminal_or_honor t) 8 4
  other_triplet_fu h =
      concealed_triplet
      (or_right (is_tsumo w) _ (or_left (not (eqb w.winning_tile t)) kept (true→t _ (ap not (ne_eqb w.winning_tile t h)))))

  -- or spared by a closed sequence that has the tile
  pub spared_triplet_fu : T kept → meld_fu w kept (triplet t) ≡ cond (is_terminal_or_honor t) 8 4
  spared_triplet_fu h = concealed_triplet (or_right (is_tsumo w) _ (or_right (not (eqb w.winning_tile t)) kept h))

-- a closed triplet of the ron tile counts as a called one
pub ron_triplet_fu : (w : GameContext) → T (not (is_tsumo w)) → (t : ℕ) → w.winning_tile ≡ t → meld_fu w false (triplet t) ≡ meld_fu w false (pon t)
ron_triplet_fu w h t e = go (is_tsumo w) (eqb w.winning_tile t) h (true→t _ (eq-eqb _ _ e))
  where
    go :
        (a b : Bool) → T (not a) → T b
        → set_fu (is_terminal_or_honor t) false (a || (not b || false)) ≡ set_fu (is_terminal_or_honor t) false false
    go true b n e = absurd n
    go false true n e = refl
    go false false n e = absurd e

-- a triplet or kan has none but these
set_figures : (outer kan hidden : Bool) → T (any (eqb (set_fu outer kan hidden)) (2 ∷ 4 ∷ 8 ∷ 16 ∷ 32 ∷ []))
set_figures false false false = tt
set_figures false false true = tt
set_figures false true false = tt
set_figures false true true = tt
set_figures true false false = tt
set_figures true false true = tt
set_figures true true false = tt
set_figures true true true = tt

-- a meld has nothing, or one of these figures
pub meld_figures : (w : GameContext) (kept : Bool) (m : Meld) → (meld_fu w kept m ≡ 0) ⊎ T (any (eqb (meld_fu w kept m)) (2 ∷ 4 ∷ 8 ∷ 16 ∷ 32 ∷ []))
meld_figures w kept m = go (is_sequence m)
  where
    go :
        (b : Bool)
        → (cond b 0 (set_fu (is_terminal_or_honor m.tile) (is_kan m) (concealed w kept m)) ≡ 0)
        ⊎ T (any (eqb (cond b 0 (set_fu (is_terminal_or_honor m.tile) (is_kan m) (concealed w kept m)))) (2 ∷ 4 ∷ 8 ∷ 16 ∷ 32 ∷ []))
    go true = inl refl
    go false = inr (set_figures (is_terminal_or_honor m.tile) (is_kan m) (concealed w kept m))

-- ---- a reading
-- what is left when the parts are summed to n: pinfu's figure, or n rounded up, in an open hand at least 30
abbrev settled : Bool → Bool → Bool → ℕ → ℕ
settled flat by_tsumo opened n = cond flat (pinfu_fu by_tsumo) (at_least30 opened (round_up_to10 n))

tens : (flat by_tsumo opened : Bool) (n : ℕ) → settled flat by_tsumo opened n % 10 ≡ 0
tens true true opened n = refl
tens true false opened n = refl
tens false by_tsumo true n = omega arith
tens false by_tsumo false n = omega arith

-- 25, or a multiple of ten
pub fu_figures : (w : GameContext) (opened : Bool) (r : Reading) → (fu w opened r ≡ 25) ⊎ (fu w opened r % 10 ≡ 0)
unfolding fu standard_fu
fu_figures w opened (pairs ps) = inl refl
fu_figures w opened (orphans p) = inr refl
fu_figures w opened (standard p ms) = inr (tens (pinfu w opened (standard p ms)) (is_tsumo w) opened _)

-- 20 is the fu of a pinfu by tsumo alone: any other pair and four melds have at least 30
pub data Least (w : GameContext) (opened : Bool) (r : Reading) : Type 0 where
  twenty : T (pinfu w opened r) → T (is_tsumo w) → fu w opened r ≡ 20 → Least w opened r
  thirty_up : 30 ≤ fu w opened r → Least w opened r

-- a pair and four melds are one or the other
pub least_fu : (w : GameContext) (opened : Bool) (p : ℕ) (ms : List Meld) → Least w opened (standard p ms)
unfolding fu standard_fu
least_fu w opened p ms = go (pinfu w opened (standard p ms)) (is_tsumo w) opened parts refl refl refl (omega arith)
  where
    parts : ℕ
    parts = base_fu w opened + sum (meld_fu w (spared w ms)) ms + pair_fu w p + wait_fu w p ms

    go :
        (flat by_tsumo called : Bool) (n : ℕ) → pinfu w opened (standard p ms) ≡ flat → is_tsumo w ≡ by_tsumo
        → standard_fu w opened p ms ≡ settled flat by_tsumo called n → 20 + win_fu by_tsumo called ≤ n → Least w opened (standard p ms)
    go true true called n f t e h = twenty (true→t _ f) (true→t _ t) e
    go true false called n f t e h = thirty_up (omega arith)
    go false by_tsumo true n f t e h = thirty_up (omega arith)
    go false true false n f t e h = thirty_up (omega arith)
    go false false false n f t e h = thirty_up (omega arith)

-- so at least 20, and 25 for seven pairs
pub fu_at_least_20 : (w : GameContext) (opened : Bool) (r : Reading) → 20 ≤ fu w opened r
unfolding fu
fu_at_least_20 w opened (pairs ps) = lit≤ tt
fu_at_least_20 w opened (orphans p) = lit≤ tt
fu_at_least_20 w opened (standard p ms) = go (least_fu w opened p ms)
  where
    go : Least w opened (standard p ms) → 20 ≤ standard_fu w opened p ms
    go (twenty f t e) = omega arith
    go (thirty_up h) = omega arith

-- an open hand has at least 30
pub open_at_least_30 : (w : GameContext) (p : ℕ) (ms : List Meld) → 30 ≤ fu w true (standard p ms)
unfolding fu standard_fu pinfu
open_at_least_30 w p ms = omega arith

-- ---- pinfu
module _ (w : GameContext) (opened : Bool) (p : ℕ) (ms : List Meld) (h : T (pinfu w opened (standard p ms))) where
  -- 20 by tsumo
  pub pinfu_by_tsumo_holds : T (is_tsumo w) → fu w opened (standard p ms) ≡ 20
  unfolding fu standard_fu
  pinfu_by_tsumo_holds t = rw (T→true (pinfu w opened (standard p ms)) h, T→true (is_tsumo w) t)

  -- 30 by ron
  pub pinfu_by_ron_holds : T (not (is_tsumo w)) → fu w opened (standard p ms) ≡ 30
  unfolding fu standard_fu
  pinfu_by_ron_holds t = rw (T→true (pinfu w opened (standard p ms)) h, not-true (is_tsumo w) (T→true _ t))
