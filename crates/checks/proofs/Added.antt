-- The tiles of melds, added to counts: which tiles a meld holds, how many at most, and how many the first of the calls hold.
-- Assumes nothing.
use mathlib.Core.Path.{◌≡◌, sym, ap, ◌∙◌}
use mathlib.Core.Bool.{Bool, true, false, ◌&&◌, cond}
use mathlib.Core.List.{List, [], ◌∷◌}
use Prim.Native.Nat.{ℕ, ◌+◌, ◌*◌, ◌<◌, ◌≤◌}
use native.Mathlib.Decide.{ℕ_discrete}
use native.Mathlib.Numerals.{add-one}
use native.Mathlib.Omega.{arith}
use lib.Dec.{T, eqb, ltb, leb, leb→le, ltb→lt}
use lib.ListN.{length, get_or, set, take, length-take}
use lib.Seq.{get_or-set_same, get_or-set_other, take-suc}
use borrow.Author.Tests.{eq-eqb, ne_eqb, ltb-true}
use Rattle.lists.specs.Fold.{one, sum}
use Rattle.lists.proofs.Finite.{and_left, and_right, or_elim, ¬T→false, one_le, cond_le}
use Rattle.lists.proofs.Sums.{sum_append}
use Rattle.tile.specs.Tile.{is_start}
use Rattle.meld.specs.declared.Meld.{Meld}
use Rattle.meld.specs.Meld.{is_kan, is_meld, is_sequence, run_uses, set_size, uses}
use Rattle.meld.proofs.Melds.{meld_shaped}
use Rattle.hand.specs.Counts.{held}
use Rattle.hand.proofs.Lowest.{run_in}

-- ---- n more of the tile t
pub more : (cs : List ℕ) (t n u : ℕ) → t < length cs → held (set cs t (held cs t + n)) u ≡ held cs u + cond (eqb u t) n 0
more cs t n u h = go (ℕ_discrete u t)
  where
    go : Dec (u ≡ t) → held (set cs t (held cs t + n)) u ≡ held cs u + cond (eqb u t) n 0
    go (yes e) =
        rw (eq-eqb u t e)
        (ap (λ (v : ℕ). held (set cs t (held cs t + n)) v) e ∙ get_or-set_same cs t (held cs t + n) 0 h ∙ ap (λ (v : ℕ). held cs v + n) (sym e))
    go (no f) = rw (ne_eqb u t f) (get_or-set_other cs t u (held cs t + n) 0 f ∙ omega arith)

-- ---- the tiles of a sequence are tiles
pub run_below : (m : Meld) → T (is_meld m) → is_sequence m ≡ true → m.tile + 2 < 34
run_below m v e =
    let k = ltb-true m.kind 2 e in
    or_elim (leb 2 m.kind) (is_start m.tile) (and_right (ltb m.tile 34) _ (and_right (ltb m.kind 7) _ (meld_shaped m v)))
    (λ a. let h = leb→le 2 m.kind a in absurd (omega arith))
    (λ s. let h = ltb→lt m.tile 27 (and_left (ltb m.tile 27) _ s) in omega arith)

-- ---- how many of the tile t it holds
if_same : (t u n : ℕ) → t ≡ u → cond (eqb t u) n 0 ≡ n
if_same t u n e = ap (λ (b : Bool). cond b n 0) (eq-eqb t u e)

if_other : (t u n : ℕ) → (t ≡ u → ⊥) → cond (eqb t u) n 0 ≡ 0
if_other t u n f = ap (λ (b : Bool). cond b n 0) (ne_eqb t u f)

run_out : (u t : ℕ) → (u ≤ t → t < u + 3 → ⊥) → run_uses u t ≡ 0
run_out u t f =
    ap one (¬T→false (leb u t && ltb t (u + 3)) (λ v. f (leb→le u t (and_left (leb u t) _ v)) (ltb→lt t (u + 3) (and_right (leb u t) _ v))))

-- a sequence holds one each of three tiles
run_one_each : (u t : ℕ) → run_uses u t ≡ cond (eqb t u) 1 0 + cond (eqb t (u + 1)) 1 0 + cond (eqb t (u + 2)) 1 0
run_one_each u t = go (ℕ_discrete t u) (ℕ_discrete t (u + 1)) (ℕ_discrete t (u + 2))
  where
    go : Dec (t ≡ u) → Dec (t ≡ u + 1) → Dec (t ≡ u + 2) → run_uses u t ≡ cond (eqb t u) 1 0 + cond (eqb t (u + 1)) 1 0 + cond (eqb t (u + 2)) 1 0
    go (yes a) b c =
        omega (arith, run_in u t (omega arith) (omega arith), if_same t u 1 a, if_other t (u + 1) 1 (λ e. omega arith), if_other t (u + 2) 1 (λ e. omega arith))
    go (no a) (yes b) c =
        omega (arith, run_in u t (omega arith) (omega arith), if_other t u 1 a, if_same t (u + 1) 1 b, if_other t (u + 2) 1 (λ e. omega arith))
    go (no a) (no b) (yes c) =
        omega (arith, run_in u t (omega arith) (omega arith), if_other t u 1 a, if_other t (u + 1) 1 b, if_same t (u + 2) 1 c)
    go (no a) (no b) (no c) =
        omega (arith, run_out u t (λ h k. omega arith), if_other t u 1 a, if_other t (u + 1) 1 b, if_other t (u + 2) 1 c)

pub sequence_uses : (m : Meld) (t : ℕ) → is_sequence m ≡ true → uses m t ≡ cond (eqb t m.tile) 1 0 + cond (eqb t (m.tile + 1)) 1 0 + cond (eqb t (m.tile + 2)) 1 0
sequence_uses m t e =
    ap (λ (b : Bool). cond b (run_uses m.tile t) (cond (eqb t m.tile) (set_size (is_kan m)) 0)) e ∙ run_one_each m.tile t

pub set_uses : (m : Meld) (t : ℕ) (kan : Bool) → is_sequence m ≡ false → is_kan m ≡ kan → uses m t ≡ cond (eqb t m.tile) (set_size kan) 0
set_uses m t kan e k =
    ap (λ (b : Bool). cond b (run_uses m.tile t) (cond (eqb t m.tile) (set_size (is_kan m)) 0)) e
    ∙ ap (λ (b : Bool). cond (eqb t m.tile) (set_size b) 0) k

-- ---- at most four
pub some_le : (b : Bool) (n : ℕ) → cond b n 0 ≤ n
some_le b n = cond_le b n 0 n (omega arith) (omega arith)

uses_le : (m : Meld) (t : ℕ) → uses m t ≤ 4
uses_le m t =
    cond_le (is_sequence m) (run_uses m.tile t) (cond (eqb t m.tile) (set_size (is_kan m)) 0) 4 (let h = one_le (leb m.tile t && ltb t (m.tile + 3)) in omega arith)
    (cond_le (eqb t m.tile) (set_size (is_kan m)) 0 4 (cond_le (is_kan m) 4 3 4 (omega arith) (omega arith)) (omega arith))

-- ---- how many the first melds hold together
abbrev pub uses_of : List Meld → ℕ → ℕ
uses_of ms t = sum (λ m. uses m t) ms

pub uses_next : (ms : List Meld) (i : ℕ) (d : Meld) (t : ℕ) → i < length ms → uses_of (take (i + 1) ms) t ≡ uses_of (take i ms) t + uses (get_or ms i d) t
uses_next ms i d t h = rw (add-one, take-suc ms i d) (omega (arith, sum_append (λ m. uses m t) (take i ms) (get_or ms i d ∷ [])))

uses_few : (ms : List Meld) (t : ℕ) → uses_of ms t ≤ 4 * length ms
uses_few [] t = omega arith
uses_few (m ∷ ms) t = let a = uses_le m t in let b = uses_few ms t in omega arith

pub uses_first : (ms : List Meld) (i t : ℕ) → uses_of (take i ms) t ≤ 4 * i
uses_first ms i t = let a = uses_few (take i ms) t in let b = length-take i ms in omega arith
