-- What the proofs of the code use: the table of dora is the definition's, a number above 33 stays, and what one indicator adds to a count. Assumes nothing.
use mathlib.Core.Path.{◌≡◌, refl, ap, ◌∙◌}
use mathlib.Core.Bool.{Bool, true, false, ◌&&◌}
use mathlib.Core.List.{map, List, [], ◌∷◌}
use Prim.Native.Nat.{ℕ, ◌<◌, ◌≤◌, ◌+◌}
use native.Mathlib.Omega.{arith}
use lib.Dec.{eqb, ltb, eqb→eq}
use lib.ListN.{get_or, length, take}
use borrow.Author.Tests.{le-ltb}
use Rattle.lists.proofs.Finite.{at}
use Rattle.tile.specs.Tile.{tiles}
use Rattle.dora.specs.Dora.{dora_of, count_of}
use native.Mathlib.Numerals.{add-one}
use lib.Seq.{take-suc}
use Rattle.lists.proofs.Sums.{sum_append}

-- the table that has the dora of each tile at its place
pub at_table : (t : ℕ) → t < 34 → get_or (map dora_of tiles) t 0 ≡ dora_of t
unfolding dora_of
at_table t h = eqb→eq _ _ (at 34 (λ t. eqb (get_or (map dora_of tiles) t 0) (dora_of t)) tt t h)

-- a number above 33 stays
pub dora_above : (t : ℕ) → 34 ≤ t → dora_of t ≡ t
unfolding dora_of
dora_above t h =
    let s : ltb t 27 ≡ false = le-ltb t 27 (omega arith) in
    let w : ltb t 31 ≡ false = le-ltb t 31 (omega arith) in
    let d : ltb t 34 ≡ false = le-ltb t 34 h in
    simp (s, w, d, and_no)
  where
    and_no : (b : Bool) → (b && false) ≡ false
    and_no true = refl
    and_no false = refl

-- one indicator more
pub count_next :
    (c : ℕ → ℕ) (ts : List ℕ) (i : ℕ) → i < length ts → count_of c (take (i + 1) ts) ≡ count_of c (take i ts) + c (dora_of (get_or ts i 0))
count_next c ts i h =
    ap (λ (n : ℕ). count_of c (take n ts)) (add-one i)
    ∙ ap (count_of c) (take-suc ts i 0 h)
    ∙ sum_append (λ t. c (dora_of t)) (take i ts) (get_or ts i 0 ∷ [])
    ∙ omega arith
