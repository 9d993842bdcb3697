-- In a hand that passes the checks of a game the source never decides the order of melds: two melds of a reading that have the same tile and kind have the same
-- source. Sequences and concealed melds have but one source, and two triplets or kans of one tile would be more than four tiles. Assumes nothing.
use mathlib.Core.Path.{◌≡◌, refl, sym, ap, ap₂, ◌∙◌, subst}
use mathlib.Core.Logic.{◌⊎◌, inl, inr}
use mathlib.Core.Bool.{Bool, true, false, ◌||◌}
use mathlib.Core.List.Memᴰ
use mathlib.Core.List.{List, [], ◌∷◌, ◌++◌, Memᴰ}
use Prim.Native.Nat.{ℕ, ◌+◌, ◌<◌, ◌≤◌}
use native.Mathlib.Omega.{arith}
use lib.Dec.{T, leb, leb→le}
use Rattle.lists.specs.Fold.{all, sum}
use Rattle.lists.specs.Order.{Pick}
use Rattle.lists.proofs.Finite.{and_left, and_right, true→t}
use Rattle.lists.proofs.Members.{all_mem, all_append, perm_mem}
use Rattle.lists.proofs.Sums.{sum_in}
use Rattle.lists.proofs.Arranged.{pick_mem}
use Rattle.rules.specs.Rules.{Game}
use Rattle.meld.specs.declared.Meld.{Meld}
use Rattle.meld.specs.Meld.{is_sequence, is_concealed, is_meld, uses, meld, but_source, hand_melds, sorted}
use Rattle.meld.proofs.Melds.{melds_at_holds, meld_tile, picked_melds, sorted_perm}
use Rattle.meld.proofs.Sources.{but_hand_meld_holds, sequence_but, concealed_but}
use Rattle.hand.specs.Counts.{held}
use Rattle.hand.specs.Reading.{Reading, pairs, orphans, standard}
use Rattle.complete.proofs.Listed.{Listed, as_pairs, as_orphans, as_standard, listed}
use Rattle.checks.specs.declared.Calls.{Calls}
use Rattle.checks.specs.Checks.{called, hand_check_in}
use Rattle.checks.proofs.Passed.{passed}
use Rattle.unit.specs.Listing.{hand_readings}
use Rattle.sources.proofs.Checked.{calls_melds}

-- two melds that are the same but for their sources are the same
abbrev Told : Meld → Meld → Type 0
Told a b = but_source a ≡ but_source b → a ≡ b

-- the melds of a standard reading
abbrev melds_of : Reading → List Meld
melds_of (pairs ps) = []
melds_of (orphans p) = []
melds_of (standard p ms) = ms

-- ---- two calls
-- a triplet or kan holds at least three of its tile
set_three : (m : Meld) → T (is_meld m) → is_sequence m ≡ false → 3 ≤ uses m m.tile
set_three m v e =
    leb→le 3 (uses m m.tile)
    (subst (λ (b : Bool). T (b || leb 3 (uses m m.tile))) e (melds_at_holds (λ m. is_sequence m || leb 3 (uses m m.tile)) (λ m. refl) tt m v))

-- two melds that together hold at most four of a tile
few_told : (x y : Meld) → T (is_meld x) → T (is_meld y) → uses x x.tile + uses y x.tile ≤ 4 → Told x y
few_told x y v u few q = go (is_sequence x) refl
  where
    go : (b : Bool) → is_sequence x ≡ b → x ≡ y
    go true e = sym (sequence_but x v (true→t (is_sequence x) e)) ∙ q ∙ sequence_but y u (true→t (is_sequence y) (sym (ap is_sequence q) ∙ e))
    go false e =
        let a = set_three x v e in
        let b = set_three y u (sym (ap is_sequence q) ∙ e) in
        let c : uses y x.tile ≡ uses y y.tile = ap (λ (m : Meld). uses y m.tile) q in
        absurd (omega arith)

told_sym : {a b : Meld} → Told a b → Told b a
told_sym f q = sym (f (sym q))

-- melds that together hold at most four of each tile
calls_told :
    (l : List Meld) → T (all is_meld l) → ((t : ℕ) → t < 34 → sum (λ m. uses m t) l ≤ 4)
    → (a b : Meld) → Memᴰ a l → Memᴰ b l → Told a b
calls_told [] v few a b i j = absurd (Memᴰ.not-nil i)
calls_told (x ∷ l) v few a b i j =
    go (calls_told l (and_right (is_meld x) _ v) (λ t h. omega (arith, few t h)) a b) (Memᴰ.cases_cons i) (Memᴰ.cases_cons j)
  where
    first : (y : Meld) → Memᴰ y l → Told x y
    first y i =
        let u = and_left (is_meld x) _ v in
        few_told x y u (all_mem is_meld (and_right (is_meld x) _ v) i) (omega (arith, few x.tile (meld_tile x u), sum_in (λ m. uses m x.tile) i))

    go : (Memᴰ a l → Memᴰ b l → Told a b) → (a ≡ x) ⊎ Memᴰ a l → (b ≡ x) ⊎ Memᴰ b l → Told a b
    go rest (inl e) (inl f) q = e ∙ sym f
    go rest (inl e) (inr j) q = subst (λ (y : Meld). Told y b) (sym e) (first b j) q
    go rest (inr i) (inl f) q = subst (λ (y : Meld). Told a y) (sym f) (told_sym (first a i)) q
    go rest (inr i) (inr j) q = rest i j q

-- ---- a meld of the hand and any meld
hand_told : (a b : Meld) → T (is_meld a) → Memᴰ b hand_melds → Told a b
hand_told a b v j q =
    let hidden : T (is_concealed b) = all_mem is_concealed {l = hand_melds} tt j in
    sym (concealed_but a v (subst T (sym (ap is_concealed q)) hidden)) ∙ q ∙ but_hand_meld_holds b j

-- ---- the calls and melds of the hand
module _ (g : Game) (cs : List ℕ) (k : Calls) (hand : hand_check_in g cs k ≡ 0) where
  called_told : (a b : Meld) → Memᴰ a (called k) → Memᴰ b (called k) → Told a b
  called_told =
      let p = passed cs k hand in
      calls_told (called k) (calls_melds (called k) p.calls) (λ t h. omega (arith, p.whole t h))

  -- two calls of one tile and kind have one source
  pub one_source_called :
      (a b : Meld) → Memᴰ a (called k) → Memᴰ b (called k) → a.tile ≡ b.tile → a.kind ≡ b.kind → a.source ≡ b.source
  one_source_called a b i j e f = ap (λ (m : Meld). m.source) (called_told a b i j (ap₂ meld e f))

  module _ {l : List Meld} (d : Pick hand_melds l) where
    all_melds_holds : T (all is_meld (called k ++ l))
    all_melds_holds = all_append is_meld (called k) l (calls_melds (called k) (passed cs k hand).calls) (picked_melds d)

    both_told : (a b : Meld) → Memᴰ a (called k ++ l) → Memᴰ b (called k ++ l) → Told a b
    both_told a b i j = go (Memᴰ.append_cases (called k) i) (Memᴰ.append_cases (called k) j)
      where
        go : Memᴰ a (called k) ⊎ Memᴰ a l → Memᴰ b (called k) ⊎ Memᴰ b l → Told a b
        go (inl x) (inl y) q = called_told a b x y q
        go x (inr y) q = hand_told a b (all_mem is_meld all_melds_holds i) (pick_mem d y) q
        go (inr x) (inl y) q = told_sym (hand_told b a (all_mem is_meld all_melds_holds j) (pick_mem d x)) q

    sorted_told : (a b : Meld) → Memᴰ a (sorted (called k ++ l)) → Memᴰ b (sorted (called k ++ l)) → Told a b
    sorted_told a b i j =
        let same = sorted_perm (called k ++ l) all_melds_holds in
        both_told a b (perm_mem same i) (perm_mem same j)

  -- two melds of one reading
  reading_told : (r : Reading) → Memᴰ r (hand_readings cs k) → (a b : Meld) → Memᴰ a (melds_of r) → Memᴰ b (melds_of r) → Told a b
  unfolding hand_readings
  reading_told r i = go (listed (held cs) (called k) i)
    where
      go : Listed (held cs) (called k) r → (a b : Meld) → Memᴰ a (melds_of r) → Memᴰ b (melds_of r) → Told a b
      go (as_pairs u s e) a b i j q = absurd (Memᴰ.not-nil (subst (λ (x : Reading). Memᴰ a (melds_of x)) e i))
      go (as_orphans u p h s e) a b i j q = absurd (Memᴰ.not-nil (subst (λ (x : Reading). Memᴰ a (melds_of x)) e i))
      go (as_standard p h two l f e) a b i j q =
          sorted_told f.picked a b (subst (λ (x : Reading). Memᴰ a (melds_of x)) e i) (subst (λ (x : Reading). Memᴰ b (melds_of x)) e j) q

  -- two melds of one reading that have one tile and kind have one source
  pub one_source :
      (p : ℕ) (ms : List Meld) → Memᴰ (standard p ms) (hand_readings cs k)
      → (a b : Meld) → Memᴰ a ms → Memᴰ b ms → a.tile ≡ b.tile → a.kind ≡ b.kind → a.source ≡ b.source
  one_source p ms r a b i j e f = ap (λ (m : Meld). m.source) (reading_told (standard p ms) r a b i j (ap₂ meld e f))
