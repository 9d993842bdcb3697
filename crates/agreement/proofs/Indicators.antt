-- Indicators and the same indicators renamed: they pass the check together, and where the renaming exchanges suits alone, or none is shown, the two
-- hands have as many dora. Assumes nothing.
use mathlib.Core.Path.{◌≡◌, refl, sym, ap, ap₂, ◌∙◌}
use mathlib.Core.Bool.{Bool, true, false, ◌&&◌, cond}
use mathlib.Core.List.{List, [], ◌∷◌, map}
use Prim.Native.Nat.{ℕ, ◌<◌}
use native.Mathlib.Omega.{arith}
use lib.Dec.{T, eqb, ltb, leb}
use borrow.Author.Tests.{lt-ltb, ltb-true, ltb-false}
use Rattle.lists.specs.Fold.{all}
use Rattle.lists.proofs.Finite.{and_left, and_right}
use Rattle.lists.proofs.Members.{take_map}
use Rattle.tile.specs.declared.Renaming.{Renaming}
use Rattle.tile.specs.Renaming.{ren, suits_alone}
use Rattle.tile.proofs.Renamings.{ren_lt, ren_above}
use Rattle.context.specs.declared.Indicators.{Indicators}
use Rattle.context.specs.declared.GameContext.{GameContext}
use Rattle.context.specs.Context.{shown, are_indicators, indicators_in, none_shown, ren_indicators, ren_win, indicating}
use Rattle.context.proofs.Shown.{none_of}
use Rattle.dora.specs.declared.DoraCount.{DoraCount}
use Rattle.dora.specs.Dora.{count_of, dora_in}
use Rattle.dora.proofs.Counting.{none_shown_holds}
use Rattle.dora.proofs.Renamed.{count_renamed}
use Rattle.agreement.specs.Agreement.{RenamedIndicators, RenamedWin, Comparable, no_indicator, suits_alone_holds}

-- a number is a tile where its renamed one is
ren_tile : (ρ : Renaming) (t : ℕ) → ltb (ren ρ t) 34 ≡ ltb t 34
ren_tile ρ t = go (ltb t 34) refl
  where
    go : (b : Bool) → ltb t 34 ≡ b → ltb (ren ρ t) 34 ≡ b
    go true e = lt-ltb (ren ρ t) 34 (ren_lt ρ t (ltb-true t 34 e))
    go false e = ap (λ (n : ℕ). ltb n 34) (ren_above ρ t (let h = ltb-false t 34 e in omega arith)) ∙ e

tiles_renamed : (ρ : Renaming) (ts : List ℕ) → all (λ t. ltb t 34) (map (ren ρ) ts) ≡ all (λ t. ltb t 34) ts
tiles_renamed ρ [] = refl
tiles_renamed ρ (t ∷ ts) = ap₂ ◌&&◌ (ren_tile ρ t) (tiles_renamed ρ ts)

indicators_renamed : {ρ : Renaming} {i j : Indicators} → RenamedIndicators ρ i j → are_indicators j ≡ are_indicators i
indicators_renamed {ρ} {i} r =
    ap₂ (λ (n : ℕ) (ts : List ℕ). leb n 10 && all (λ t. ltb t 34) ts) r.many r.tiles
    ∙ ap (λ (b : Bool). leb i.count 10 && b) (tiles_renamed ρ (shown i))

-- a win and the win renamed with all ten places of either sort
pub renamed_win : (ρ : Renaming) (w : GameContext) → RenamedWin ρ w (ren_win ρ w)
renamed_win ρ w = record { rest = refl; dora = places w.dora_indicators; ura = places w.ura_dora_indicators }
  where
    places : (i : Indicators) → RenamedIndicators ρ i (ren_indicators ρ i)
    places i = record { many = refl; tiles = take_map (ren ρ) i.count i.tiles }

-- ---- both sorts of a win: d and u are those of the win w renamed
pub record BothRenamed (ρ : Renaming) (w : GameContext) (d u : Indicators) : Type 0 where
  pub dora : RenamedIndicators ρ w.dora_indicators d
  pub ura : RenamedIndicators ρ w.ura_dora_indicators u

module _ {ρ : Renaming} {w : GameContext} {d u : Indicators} (both : BothRenamed ρ w d u) where
  pub checked_alike : indicators_in (indicating d u (ren_win ρ w)) ≡ indicators_in w
  checked_alike = ap₂ ◌&&◌ (indicators_renamed both.dora) (indicators_renamed both.ura)

  -- and none is shown where none was
  pub none_alike : none_shown (indicating d u (ren_win ρ w)) ≡ none_shown w
  none_alike = ap₂ (λ (n m : ℕ). eqb n 0 && eqb m 0) both.dora.many both.ura.many

  -- c says how many of each tile hand and calls hold, c' how many the renamed ones
  module _ (c c' : ℕ → ℕ) (same : (t : ℕ) → t < 34 → c' (ren ρ t) ≡ c t) (good : T (indicators_in w)) where
    same_count :
        {i j : Indicators} → RenamedIndicators ρ i j → T (suits_alone ρ) → T (are_indicators i) → count_of c' (shown j) ≡ count_of c (shown i)
    same_count {i} r alone h =
        ap (count_of c') r.tiles
        ∙ count_renamed ρ alone c c' same (shown i) (and_right (leb i.count 10) (all (λ t. ltb t 34) (shown i)) h)

    none : {i j : Indicators} → RenamedIndicators ρ i j → i.count ≡ 0 → shown j ≡ []
    none {i} {j} r e = none_of j (r.many ∙ e)

    pub same_dora : Comparable ρ w → dora_in c' (indicating d u (ren_win ρ w)) ≡ dora_in c w
    unfolding dora_in
    same_dora (no_indicator e) =
        none_shown_holds c' (indicating d u (ren_win ρ w)) (none both.dora e.0) (none both.ura e.1)
        ∙ sym
        (none_shown_holds c w (none_of w.dora_indicators e.0) (none_of w.ura_dora_indicators e.1))
    same_dora (suits_alone_holds alone) =
        let x = w.dora_indicators in
        let y = w.ura_dora_indicators in
        ap₂ (λ (a b : ℕ). the_dora a (cond w.is_riichi b 0))
        (same_count both.dora alone (and_left (are_indicators x) (are_indicators y) good))
        (same_count both.ura alone (and_right (are_indicators x) (are_indicators y) good))
      where
        the_dora : ℕ → ℕ → DoraCount
        the_dora n m = record { regular = n; ura = m }
