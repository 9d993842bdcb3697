-- Laws of counting dora: what each indicator adds, when ura counts, that a yakuman takes none and every other hand all of them, and how many there may
-- be. Assumes nothing.
use mathlib.Core.Path.{◌≡◌, refl, ap}
use mathlib.Core.Bool.{Bool, true, false, cond}
use mathlib.Core.List.{List, [], ◌∷◌}
use Prim.Native.Nat.{ℕ, ◌+◌, ◌*◌, ◌<◌, ◌≤◌}
use native.Mathlib.Omega.{arith}
use lib.Dec.{T, leb, ltb, leb→le, ltb→lt}
use lib.ListN.{length, length-take}
use Rattle.lists.specs.Fold.{all}
use Rattle.lists.proofs.Finite.{and_left, and_right}
use Rattle.lists.proofs.Sums.{sum_le}
use Rattle.context.specs.declared.Indicators.{Indicators}
use Rattle.context.specs.declared.GameContext.{GameContext}
use Rattle.context.specs.Context.{shown, are_indicators, indicators_in}
use Rattle.dora.specs.declared.DoraCount.{DoraCount}
use Rattle.dora.specs.Dora.{dora_of, count_of, dora_in, AtMostForty, no_dora, total_han}
use Rattle.dora.proofs.Rounds.{dora_tile}

-- ---- ura needs riichi: without it the indicators below add nothing, whatever they are
module _ (c : ℕ → ℕ) (w : GameContext) where
  pub ura_needs_riichi : w.is_riichi ≡ false → (dora_in c w).ura ≡ 0
  unfolding dora_in
  ura_needs_riichi e = ap (λ (b : Bool). cond b (count_of c (shown w.ura_dora_indicators)) 0) e

  -- and with it they add as those above do, in an open hand too
  pub ura_with_riichi : w.is_riichi ≡ true → (dora_in c w).ura ≡ count_of c (shown w.ura_dora_indicators)
  unfolding dora_in
  ura_with_riichi e = ap (λ (b : Bool). cond b (count_of c (shown w.ura_dora_indicators)) 0) e

  -- what is shown is counted, whatever was declared
  pub regular_counts : (dora_in c w).regular ≡ count_of c (shown w.dora_indicators)
  unfolding dora_in
  regular_counts = refl

-- ---- how many there are: of no tile are there more than four, and ten indicators at most
few_shown : (i : Indicators) → i.count ≤ 10 → length (shown i) ≤ 10
few_shown i h = let e = length-take i.count i.tiles in omega arith

-- where of no number there are more than four, whatever is shown
pub forty_at_most : (c : ℕ → ℕ) → ((t : ℕ) → c t ≤ 4) → (i : Indicators) → i.count ≤ 10 → count_of c (shown i) ≤ 40
forty_at_most c four i h =
    let most = sum_le (λ t. c (dora_of t)) 4 (λ t. four (dora_of t)) (shown i) in
    let few = few_shown i h in
    omega arith

four_each : (c : ℕ → ℕ) → ((t : ℕ) → t < 34 → c t ≤ 4) → (ts : List ℕ) → T (all (λ t. ltb t 34) ts) → count_of c ts ≤ 4 * length ts
four_each c four [] h = omega arith
four_each c four (t ∷ ts) h =
    let one = four (dora_of t) (dora_tile t (ltb→lt t 34 (and_left (ltb t 34) _ h))) in
    let rest = four_each c four ts (and_right (ltb t 34) (all (λ t. ltb t 34) ts) h) in
    omega arith

-- ten at most, where the indicators pass the check
pub few_indicators : (i : Indicators) → T (are_indicators i) → i.count ≤ 10
few_indicators i h = leb→le i.count 10 (and_left (leb i.count 10) (all (λ t. ltb t 34) (shown i)) h)

pub count_le : (c : ℕ → ℕ) → ((t : ℕ) → t < 34 → c t ≤ 4) → (i : Indicators) → T (are_indicators i) → count_of c (shown i) ≤ 40
count_le c four i h =
    let most = four_each c four (shown i) (and_right (leb i.count 10) (all (λ t. ltb t 34) (shown i)) h) in
    let few = few_shown i (few_indicators i h) in
    omega arith

ura_le : (riichi : Bool) (n : ℕ) → n ≤ 40 → cond riichi n 0 ≤ 40
ura_le true n h = h
ura_le false n h = omega arith

pub dora_le : (c : ℕ → ℕ) → ((t : ℕ) → t < 34 → c t ≤ 4) → (w : GameContext) → T (indicators_in w) → AtMostForty (dora_in c w)
unfolding dora_in
dora_le c four w h =
    let d = w.dora_indicators in
    let u = w.ura_dora_indicators in (
      count_le c four d (and_left (are_indicators d) (are_indicators u) h),
      ura_le w.is_riichi (count_of c (shown u)) (count_le c four u (and_right (are_indicators d) (are_indicators u) h)),
    )

-- ---- no indicator, no dora
pub none_shown_holds : (c : ℕ → ℕ) (w : GameContext) → shown w.dora_indicators ≡ [] → shown w.ura_dora_indicators ≡ [] → dora_in c w ≡ no_dora
unfolding dora_in
none_shown_holds c w e f = λ i. the_count (count_of c (e i)) (go w.is_riichi i)
  where
    the_count : ℕ → ℕ → DoraCount
    the_count n m = record { regular = n; ura = m }

    go : (b : Bool) → cond b (count_of c (shown w.ura_dora_indicators)) 0 ≡ 0
    go true = ap (count_of c) f
    go false = refl

-- ---- the han: a yakuman takes no dora, every other hand takes all
pub yakuman_takes_none : (d : DoraCount) (han : ℕ) → total_han d true han ≡ han
unfolding total_han
yakuman_takes_none d han = refl

pub others_take_all : (d : DoraCount) (han : ℕ) → total_han d false han ≡ han + (d.regular + d.ura)
unfolding total_han
others_take_all d han = refl

-- without dora it is the han of the yaku
pub han_without_dora : (yakuman : Bool) (han : ℕ) → total_han no_dora yakuman han ≡ han
unfolding total_han
han_without_dora true han = refl
han_without_dora false han = omega arith

-- it is a byte
pub total_small :
    (d : DoraCount) → AtMostForty d → (yakuman : Bool) (han : ℕ) → han < 256 → (yakuman ≡ false → han ≤ 175) → total_han d yakuman han < 256
unfolding total_han
total_small d h true han small plain = small
total_small d h false han small plain = let k = plain refl in omega arith
