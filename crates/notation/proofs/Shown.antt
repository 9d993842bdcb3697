-- Indicators as they are said: up to ten are shown in their order and accepted, and more than ten are refused. Assumes nothing.
use mathlib.Core.Path.{◌≡◌, refl, sym, ap, subst, ◌∙◌}
use mathlib.Core.Bool.{Bool, true, false, cond}
use mathlib.Core.List.{List, [], ◌∷◌, ◌++◌, append-nil, append_assoc}
use Prim.Native.Nat.{ℕ, suc, ◌+◌, ◌<◌, ◌≤◌, min}
use native.Mathlib.Omega.{arith}
use lib.Dec.{T, leb, ltb}
use lib.ListN.{length, take, set, length-set}
use lib.Seq.{take-suc-set}
use borrow.Author.Tests.{le-leb, lt-leb}
use Rattle.lists.specs.Fold.{all, keep}
use Rattle.lists.proofs.Finite.{and_right, and_both, true→t}
use Rattle.lists.proofs.Members.{all_append}
use Rattle.context.specs.declared.Indicators.{Indicators}
use Rattle.context.specs.Context.{shown, are_indicators}
use Rattle.std.specs.Prelude.{Some, None}
use Rattle.tile_words.specs.Chars.{below}
use Rattle.tile_words.specs.Words.{tiles_in, tiles_of}
use Rattle.notation.specs.Shown.{with_indicator, with_indicators}

abbrev pub is_tile : ℕ → Bool
is_tile t = ltb t 34

-- ---- word by word
-- a tile that is named is one more, and what is none adds nothing
pub named :
    (k m : Indicators) (r t : ℕ) → Some t ≡ below 34 r → m ≡ with_indicator k t → m ≡ cond (is_tile r) (with_indicator k r) k
named k m r t e f = go (is_tile r) e
  where
    go : (b : Bool) → Some t ≡ cond b (Some r) None → m ≡ cond b (with_indicator k r) k
    go true e = let same : t ≡ r = cc in f ∙ ap (with_indicator k) same
    go false e = cc

pub unnamed : (k m : Indicators) (r : ℕ) → None ≡ below 34 r → m ≡ k → m ≡ cond (is_tile r) (with_indicator k r) k
unnamed k m r e f = go (is_tile r) e
  where
    go : (b : Bool) → None ≡ cond b (Some r) None → m ≡ cond b (with_indicator k r) k
    go true e = cc
    go false e = f

pub tile_turn :
    (k m : Indicators) (t : ℕ) (ts : List ℕ) → m ≡ cond (is_tile t) (with_indicator k t) k
    → with_indicators m (keep is_tile ts) ≡ with_indicators k (keep is_tile (t ∷ ts))
tile_turn k m t ts e = ap (λ (j : Indicators). with_indicators j (keep is_tile ts)) e ∙ go (is_tile t)
  where
    go : (b : Bool) → with_indicators (cond b (with_indicator k t) k) (keep is_tile ts) ≡ with_indicators k (cond b (t ∷ []) [] ++ keep is_tile ts)
    go true = refl
    go false = refl

-- ---- up to ten are shown in the order in which they are said
shown_next : (k : Indicators) (t : ℕ) → length k.tiles ≡ 10 → k.count < 10 → shown (with_indicator k t) ≡ shown k ++ t ∷ []
shown_next k t ten h =
    let e : min (k.count + 1) 255 ≡ suc k.count = omega arith in
    ap (λ (n : ℕ). take n (set k.tiles k.count t)) e ∙ take-suc-set k.tiles k.count t (omega arith)

pub shown_in_order : (k : Indicators) (ts : List ℕ) → length k.tiles ≡ 10 → k.count + length ts ≤ 10 → shown (with_indicators k ts) ≡ shown k ++ ts
shown_in_order k [] ten h = sym (append-nil (shown k))
shown_in_order k (t ∷ ts) ten h =
    shown_in_order (with_indicator k t) ts (length-set k.tiles k.count t ∙ ten) (omega arith)
    ∙ ap (λ (l : List ℕ). l ++ ts) (shown_next k t ten (omega arith))
    ∙ append_assoc (shown k) (t ∷ []) ts

-- ---- and accepted, as what a word names are tiles
few_counted : (k : Indicators) (ts : List ℕ) → k.count + length ts ≤ 10 → (with_indicators k ts).count ≤ 10
few_counted k [] h = omega arith
few_counted k (t ∷ ts) h = few_counted (with_indicator k t) ts (omega arith)

all_tiles : (ts : List ℕ) → T (all is_tile (keep is_tile ts))
all_tiles [] = tt
all_tiles (t ∷ ts) = go (is_tile t) refl (all_tiles ts)
  where
    go : (b : Bool) → is_tile t ≡ b → T (all is_tile (keep is_tile ts)) → T (all is_tile (cond b (t ∷ []) [] ++ keep is_tile ts))
    go true e rest = and_both (is_tile t) _ (true→t _ e) rest
    go false e rest = rest

pub ten_accepted :
    (k : Indicators) (w : List ℕ) → length k.tiles ≡ 10 → T (are_indicators k) → k.count + length (tiles_of w) ≤ 10
    → T (are_indicators (with_indicators k (tiles_of w)))
ten_accepted k w ten good h =
    and_both (leb (with_indicators k (tiles_of w)).count 10) _ (true→t _ (le-leb _ 10 (few_counted k (tiles_of w) h)))
    (subst (λ (l : List ℕ). T (all is_tile l)) (sym (shown_in_order k (tiles_of w) ten h))
    (all_append is_tile (shown k) (tiles_of w) (and_right (leb k.count 10) _ good) (all_tiles (tiles_in w))))

-- ---- more than ten are never lost: they are refused
many_counted : (k : Indicators) (ts : List ℕ) → 10 < k.count + length ts → 10 < (with_indicators k ts).count
many_counted k [] h = omega arith
many_counted k (t ∷ ts) h = many_counted (with_indicator k t) ts (omega arith)

pub eleventh_refused : (k : Indicators) (ts : List ℕ) → 10 < k.count + length ts → are_indicators (with_indicators k ts) ≡ false
eleventh_refused k ts h = rw (lt-leb (with_indicators k ts).count 10 (many_counted k ts h))
