-- What the code's parts read, over plain numbers: the reading by its kind, and the place of a record one step on. Assumes nothing.
use mathlib.Core.Path.{◌≡◌, sym, ap, ap₂}
use mathlib.Core.List.{List, [], ◌∷◌, map}
use Prim.Native.Nat.{ℕ, suc, ◌+◌, ◌-◌, ◌*◌, ◌<◌, ◌≤◌}
use native.Mathlib.Omega.{arith}
use borrow.Author.Tests.{eq-eqb, ne_eqb}
use Rattle.lists.specs.Fold.{up_from}
use Rattle.hand.specs.Reading.{pairs, orphans, standard}
use Rattle.records.specs.Buffer.{byte_at, meld_at, tiles_at, reading_at, place_of}

-- ---- the reading by its kind
module _ (b : List ℕ) (i : ℕ) where
  pub reads_pairs : byte_at b (i + 2) ≡ 1 → reading_at b i ≡ pairs (tiles_at b (i + 4))
  unfolding reading_at
  reads_pairs e = simp (eq-eqb (byte_at b (i + 2)) 1 e)

  pub reads_orphans : byte_at b (i + 2) ≡ 2 → reading_at b i ≡ orphans (byte_at b (i + 4))
  unfolding reading_at
  reads_orphans e = simp (ne_eqb (byte_at b (i + 2)) 1 (λ f. omega arith), eq-eqb (byte_at b (i + 2)) 2 e)

  pub reads_standard :
      (byte_at b (i + 2) ≡ 1 → ⊥) → (byte_at b (i + 2) ≡ 2 → ⊥)
      → reading_at b i ≡ standard (byte_at b (i + 4)) (meld_at b (i + 5) ∷ meld_at b (i + 8) ∷ meld_at b (i + 11) ∷ meld_at b (i + 14) ∷ [])
  unfolding reading_at
  reads_standard e f = simp (ne_eqb (byte_at b (i + 2)) 1 e, ne_eqb (byte_at b (i + 2)) 2 f)

  -- the four melds one after the other
  pub melds_in_turn :
      map (λ k. meld_at b (i + 5 + 3 * k)) (up_from 4 0) ≡ meld_at b (i + 5) ∷ meld_at b (i + 8) ∷ meld_at b (i + 11) ∷ meld_at b (i + 14) ∷ []
  melds_in_turn = ap₂ ◌∷◌ (at (omega arith)) (ap₂ ◌∷◌ (at (omega arith)) (ap₂ ◌∷◌ (at (omega arith)) (ap (λ m. m ∷ []) (at (omega arith)))))
    where
      at : {j k : ℕ} → j ≡ k → meld_at b j ≡ meld_at b k
      at e = ap (meld_at b) e

-- ---- the place of a record
-- all records are left
pub place_start : (b : List ℕ) (n at : ℕ) → place_of b (n - 0) at ≡ place_of b n at
place_start b n at = let e : n - 0 ≡ n = omega arith in ap (λ (m : ℕ). place_of b m at) e

module _ (b : List ℕ) (n i at : ℕ) where
  -- one record on
  pub place_next : i < n → place_of b (n - (i + 1)) (at + byte_at b at) ≡ place_of b (n - i) at
  place_next h = let e : n - i ≡ suc (n - (i + 1)) = omega arith in sym (ap (λ (m : ℕ). place_of b m at) e)

  -- no record is left
  pub place_end : n ≤ i → place_of b (n - i) at ≡ at
  place_end h = let e : n - i ≡ 0 = omega arith in ap (λ (m : ℕ). place_of b m at) e
