-- Loops over the tiles: the tiles from i on, and what one turn does to a test or to a list over them. Assumes nothing.
use mathlib.Core.Path.{◌≡◌, refl, sym, ap, ◌∙◌}
use mathlib.Core.Bool.{Bool, true, false, cond, ◌&&◌}
use mathlib.Core.List.{List, [], ◌∷◌, ◌++◌, Memᴰ}
use Prim.Native.Nat.{ℕ, ◌+◌, ◌-◌, ◌≤◌, ◌<◌}
use native.Mathlib.Numerals.{add-one}
use native.Mathlib.Omega.{arith}
use lib.ListN.{length, set, length-set}
use lib.Seq.{sets}
use Rattle.lists.specs.Fold.{keep, up_from, all}
use Rattle.tile.specs.Tile.{tiles}
use Rattle.hand.proofs.Sums.{up_from_next_holds, up_from_end_holds}
use Rattle.lists.proofs.Ranges.{in_up_from_holds}

-- the tiles from i on
unfoldable pub rest : ℕ → List ℕ
rest i = up_from (34 - i) i

pub rest_first : rest 0 ≡ tiles
unfolding rest
rest_first = refl

pub rest_next : (i : ℕ) → i < 34 → rest i ≡ i ∷ rest (i + 1)
unfolding rest
rest_next i h = up_from_next_holds i 34 h

pub rest_end : (i : ℕ) → 34 ≤ i → rest i ≡ []
unfolding rest
rest_end i h = up_from_end_holds i 34 h

pub rest_on : (i : ℕ) {t : ℕ} → Memᴰ t (rest i) → i ≤ t
unfolding rest
rest_on i {t} m = (in_up_from_holds (34 - i) i t m).0

module _ (p : ℕ → Bool) where
  -- ---- a test at each tile
  all_next : (i : ℕ) → i < 34 → all p (rest i) ≡ p i && all p (rest (i + 1))
  all_next i h = ap (λ (l : List ℕ). all p l) (rest_next i h)

  pub all_pass : (i : ℕ) → i < 34 → p i ≡ true → all p (rest i) ≡ all p (rest (i + 1))
  all_pass i h e = all_next i h ∙ ap (λ (b : Bool). b && all p (rest (i + 1))) e

  pub all_fail : (i : ℕ) → i < 34 → p i ≡ false → all p (rest i) ≡ false
  all_fail i h e = all_next i h ∙ ap (λ (b : Bool). b && all p (rest (i + 1))) e

  pub all_end : (i : ℕ) → 34 ≤ i → all p (rest i) ≡ true
  all_end i h = ap (λ (l : List ℕ). all p l) (rest_end i h)

  -- ---- the tiles that pass a test
  keep_next : (i : ℕ) → i < 34 → keep p (rest i) ≡ cond (p i) (i ∷ []) [] ++ keep p (rest (i + 1))
  keep_next i h = ap (λ (l : List ℕ). keep p l) (rest_next i h)

  pub keep_pass : (i : ℕ) → i < 34 → p i ≡ true → keep p (rest i) ≡ i ∷ keep p (rest (i + 1))
  keep_pass i h e = keep_next i h ∙ ap (λ (b : Bool). cond b (i ∷ []) [] ++ keep p (rest (i + 1))) e

  pub keep_fail : (i : ℕ) → i < 34 → p i ≡ false → keep p (rest i) ≡ keep p (rest (i + 1))
  keep_fail i h e = keep_next i h ∙ ap (λ (b : Bool). cond b (i ∷ []) [] ++ keep p (rest (i + 1))) e

  pub keep_end : (i : ℕ) → 34 ≤ i → keep p (rest i) ≡ []
  keep_end i h = ap (λ (l : List ℕ). keep p l) (rest_end i h)

  -- ---- such tiles written out: to write those from i on finishes the work
  abbrev pub Writing : (out₀ : List ℕ) (at : ℕ) (out : List ℕ) (pos i : ℕ) → Type 0
  Writing out₀ at out pos i =
      (pos + length (keep p (rest i)) ≡ at + length (keep p tiles))
      × (sets out pos (keep p (rest i)) ≡ sets out₀ at (keep p tiles))
      × (length out ≡ length out₀)

  pub writing_first : (out : List ℕ) (at : ℕ) → Writing out at out at 0
  writing_first out at =
      (ap (λ (l : List ℕ). at + length (keep p l)) rest_first, ap (λ (l : List ℕ). sets out at (keep p l)) rest_first, refl)

  module _ (out₀ : List ℕ) (at : ℕ) (out : List ℕ) (pos i : ℕ) (w : Writing out₀ at out pos i) where
    pub writing_room : i < 34 → p i ≡ true → at + length (keep p tiles) ≤ length out₀ → pos < length out
    writing_room h e room = omega (arith, ap length (keep_pass i h e), w.0, w.2)

    pub writing_pass :
        i < 34 → p i ≡ true → (v : ℕ) → v ≡ i → (out' : List ℕ) (pos' : ℕ) → out' ≡ set out pos v → pos' ≡ pos + 1
        → Writing out₀ at out' pos' (i + 1)
    writing_pass h e v same out' pos' a b =
        let k = keep_pass i h e in
        let q = keep p (rest (i + 1)) in (
          omega (arith, ap length k, w.0),
          ap (λ (o : List ℕ). sets o pos' q) (a ∙ ap (λ (x : ℕ). set out pos x) same)
              ∙ ap (λ (n : ℕ). sets (set out pos i) n q) (b ∙ add-one pos)
              ∙ ap (λ (l : List ℕ). sets out pos l) (sym k)
              ∙ w.1,
          ap length a ∙ length-set out pos v ∙ w.2,
        )

    pub writing_fail :
        i < 34 → p i ≡ false → (out' : List ℕ) (pos' : ℕ) → out' ≡ out → pos' ≡ pos → Writing out₀ at out' pos' (i + 1)
    writing_fail h e out' pos' a b =
        let k = keep_fail i h e in
        let q = keep p (rest (i + 1)) in (
          omega (arith, ap length k, w.0),
          ap (λ (o : List ℕ). sets o pos' q) a ∙ ap (λ (n : ℕ). sets out n q) b ∙ ap (λ (l : List ℕ). sets out pos l) (sym k) ∙ w.1,
          ap length a ∙ w.2,
        )

    pub writing_end : 34 ≤ i → (pos ≡ at + length (keep p tiles)) × (out ≡ sets out₀ at (keep p tiles))
    writing_end h =
        let k = keep_end i h in
        (omega (arith, ap length k, w.0), ap (λ (l : List ℕ). sets out pos l) (sym k) ∙ w.1)
