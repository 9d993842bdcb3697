-- A win that shows no indicator: none stands before the count, and the check of the indicators passes. Assumes nothing.
use mathlib.Core.Path.{◌≡◌, ap, ap₂}
use mathlib.Core.Bool.{true, ◌&&◌}
use mathlib.Core.List.{List, []}
use Prim.Native.Nat.{ℕ}
use lib.Dec.{eqb, ltb, leb, eqb→eq}
use lib.ListN.{take}
use Rattle.lists.specs.Fold.{all}
use Rattle.lists.proofs.Finite.{and_left, and_right, true→t}
use Rattle.context.specs.declared.Indicators.{Indicators}
use Rattle.context.specs.declared.GameContext.{GameContext}
use Rattle.context.specs.Context.{shown, are_indicators, indicators_in, none_shown}

pub none_of : (i : Indicators) → i.count ≡ 0 → shown i ≡ []
none_of i e = ap (λ (n : ℕ). take n i.tiles) e

none_pass : (i : Indicators) → i.count ≡ 0 → are_indicators i ≡ true
none_pass i e = ap₂ (λ (n : ℕ) (ts : List ℕ). leb n 10 && all (λ t. ltb t 34) ts) e (none_of i e)

-- both counts are 0
pub both_none : (w : GameContext) → none_shown w ≡ true → (w.dora_indicators.count ≡ 0) × (w.ura_dora_indicators.count ≡ 0)
both_none w e =
    let d = w.dora_indicators.count in
    let u = w.ura_dora_indicators.count in
    let h = true→t (none_shown w) e in
    (eqb→eq d 0 (and_left (eqb d 0) (eqb u 0) h), eqb→eq u 0 (and_right (eqb d 0) (eqb u 0) h))

pub none_checked : (w : GameContext) → w.dora_indicators.count ≡ 0 → w.ura_dora_indicators.count ≡ 0 → indicators_in w ≡ true
none_checked w e f = ap₂ ◌&&◌ (none_pass w.dora_indicators e) (none_pass w.ura_dora_indicators f)
