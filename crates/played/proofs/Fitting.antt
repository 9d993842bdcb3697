-- Melds that do not fit may be left out of the search for closed melds. Assumes nothing.
use mathlib.Core.Path.{◌≡◌, refl, sym, ap, ap₂, ◌∙◌, subst}
use mathlib.Core.Bool.{Bool, true, false, cond}
use mathlib.Core.List.{List, [], ◌∷◌, ◌++◌, map}
use Prim.Native.Nat.{ℕ, zero, suc, ◌<◌}
use native.Mathlib.Omega.{arith}
use lib.Dec.{T, leb, leb→le, le→leb}
use Rattle.lists.specs.Fold.{keep}
use Rattle.lists.proofs.Finite.{at, all_below_intro_holds, ¬T→false}
use Rattle.meld.specs.declared.Meld.{Meld}
use Rattle.meld.specs.Meld.{uses}
use Rattle.hand.specs.Readings.{find, fits, minus}

-- what does not fit does not fit where fewer tiles are left
less_unfit : (m : Meld) (c : ℕ → ℕ) (x : Meld) → fits m c ≡ false → fits m (minus c x) ≡ false
less_unfit m c x e = ¬T→false (fits m (minus c x)) (λ t. subst T e (all_below_intro_holds 34 (λ v. leb (uses m v) (c v)) (fit t)))
  where
    fit : T (fits m (minus c x)) → (v : ℕ) → v < 34 → T (leb (uses m v) (c v))
    fit t v h =
        let k = leb→le (uses m v) (minus c x v) (at 34 (λ u. leb (uses m u) (minus c x u)) t v h) in
        le→leb (uses m v) (c v) (omega arith)

module _ (p : Meld → Bool) where
  -- what the test p leaves out does not fit
  abbrev pub Unfit : (ℕ → ℕ) → Type 0
  Unfit c = (m : Meld) → p m ≡ false → fits m c ≡ false

  module _ (n : ℕ) (rec : (c : ℕ → ℕ) → Unfit c → (ms : List Meld) → find n c (keep p ms) ≡ find n c ms) where
    keep_step : (c : ℕ → ℕ) → Unfit c → (ms : List Meld) → find (suc n) c (keep p ms) ≡ find (suc n) c ms
    keep_step c f [] = refl
    keep_step c f (m ∷ ms) = go (keep_step c f ms) (p m) refl
      where
        below : p m ≡ true → find n (minus c m) (m ∷ keep p ms) ≡ find n (minus c m) (m ∷ ms)
        below e =
            subst (λ (b : Bool). find n (minus c m) (cond b (m ∷ []) [] ++ keep p ms) ≡ find n (minus c m) (m ∷ ms)) e
            (rec (minus c m) (λ x i. less_unfit x c m (f x i)) (m ∷ ms))

        go : find (suc n) c (keep p ms) ≡ find (suc n) c ms → (b : Bool) → p m ≡ b
            → find (suc n) c (cond b (m ∷ []) [] ++ keep p ms) ≡ find (suc n) c (m ∷ ms)
        go later true e =
            ap₂ ◌++◌ (ap (λ (ls : List (List Meld)). cond (fits m c) (map (λ l. m ∷ l) ls) []) (below e)) later
        go later false e =
            later
            ∙ sym (ap (λ (b : Bool). cond b (map (λ l. m ∷ l) (find n (minus c m) (m ∷ ms))) [] ++ find (suc n) c ms) (f m e))

  pub keep_find : (n : ℕ) (c : ℕ → ℕ) → Unfit c → (ms : List Meld) → find n c (keep p ms) ≡ find n c ms
  keep_find zero c f ms = refl
  keep_find (suc n) c f ms = keep_step n (keep_find n) c f ms
