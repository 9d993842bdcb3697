-- How many tiles there are in all: fourteen and one for each kan, so nine gates stand beside no kan; and in seven pairs seven different tiles, which
-- are never terminals alone. Assumes nothing.
use mathlib.Core.Path.{◌≡◌, refl, sym, ap, ap₂, ◌∙◌}
use mathlib.Core.Bool.{Bool, true, false, cond}
use mathlib.Core.List.{List, [], ◌∷◌, Memᴰ}
use Prim.Native.Nat.{ℕ, zero, suc, ◌+◌, ◌*◌, ◌<◌, ◌≤◌}
use native.Mathlib.Omega.{arith}
use lib.Dec.{T, eqb, ltb, eqb→eq, eqb_refl, ltb→lt}
use lib.ListN.{length}
use Rattle.lists.specs.Fold.{all, all_below, any, count, one, sum, total}
use Rattle.lists.proofs.Finite.{and_left, and_right, at, ¬T→false}
use Rattle.lists.proofs.Members.{map_members}
use Rattle.lists.proofs.Sums.{sum_plus, sum_times, sum_exchange}
use Rattle.lists.proofs.Counted.{times_once}
use Rattle.lists.proofs.Kept.{ascending_nodup}
use Rattle.tile.specs.Tile.{is_terminal, tiles}
use Rattle.tile.proofs.Tiles.{tile_lt}
use Rattle.meld.specs.declared.Meld.{Meld}
use Rattle.meld.specs.Meld.{is_meld, is_kan, uses}
use Rattle.meld.proofs.Sorts.{meld_size}
use Rattle.hand.specs.Reading.{AdmitsPairs}
use Rattle.tile_yaku.specs.Tiles.{chinroutou, nine_gates, suits, gate}
use Rattle.tile_yaku.proofs.Rules.{only_each}

-- no member's number is above its other one
pub sum_mono : {A : Type 0} (f g : A → ℕ) (l : List A) → ((a : A) → Memᴰ a l → f a ≤ g a) → sum f l ≤ sum g l
sum_mono f g [] h = omega arith
sum_mono f g (a ∷ l) h = omega (arith, h a (Memᴰ.head refl), sum_mono f g l (λ b i. h b (Memᴰ.tail i)))

-- the one tile
one_tile_test : T (all_below 34 (λ u. eqb (sum (λ t. one (eqb t u)) tiles) 1))
one_tile_test = tt

pub one_tile : (u : ℕ) → u < 34 → sum (λ t. one (eqb t u)) tiles ≡ 1
one_tile u h = eqb→eq _ 1 (at 34 (λ u. eqb (sum (λ t. one (eqb t u)) tiles) 1) one_tile_test u h)

-- ---- what two yaku say of the counts
chinroutou_each : (c : ℕ → ℕ) → T (chinroutou c) → (t : ℕ) → t < 34 → 1 ≤ c t → T (is_terminal t)
unfolding chinroutou
chinroutou_each c = only_each c is_terminal

pub nine_gates_fourteen : (c : ℕ → ℕ) → T (nine_gates c) → sum c tiles ≡ 14
unfolding nine_gates
nine_gates_fourteen c g = eqb→eq (sum c tiles) 14 (and_right (any (λ s. all (gate c s) tiles) suits) _ g)

-- ---- the tiles of melds
melds_size : (k : List Meld) → T (all is_meld k) → sum (λ m. sum (uses m) tiles) k ≡ 3 * length k + count is_kan k
melds_size [] v = refl
melds_size (m ∷ k) v =
    ap₂ ◌+◌ (meld_size m (and_left (is_meld m) _ v)) (melds_size k (and_right (is_meld m) _ v)) ∙ go (one (is_kan m)) (length k) (count is_kan k)
  where
    go : (b n r : ℕ) → (3 + b) + (3 * n + r) ≡ 3 * suc n + (b + r)
    go b n r = omega arith

-- ---- a hand of 14 - 3 × melds tiles, beside these melds
module _ (h : ℕ → ℕ) (k : List Meld) (v : T (all is_meld k)) (size : sum h tiles + 3 * length k ≡ 14) where
  pub together_count : sum (λ t. h t + sum (λ m. uses m t) k) tiles ≡ 14 + count is_kan k
  together_count =
      sum_plus h (λ t. sum (λ m. uses m t) k) tiles ∙ ap (λ (n : ℕ). sum h tiles + n) (sum_exchange uses k tiles ∙ melds_size k v)
      ∙ go (sum h tiles) (3 * length k) (count is_kan k) size
    where
      go : (a b d : ℕ) → a + b ≡ 14 → a + (b + d) ≡ 14 + d
      go a b d e = omega arith

  -- nine gates are 14 tiles, so none of the melds is a kan
  pub nine_gates_no_kan : T (nine_gates (λ t. h t + sum (λ m. uses m t) k)) → count is_kan k ≡ 0
  nine_gates_no_kan g = go (count is_kan k) (sym together_count ∙ nine_gates_fourteen (λ t. h t + sum (λ m. uses m t) k) g)
    where
      go : (d : ℕ) → 14 + d ≡ 14 → d ≡ 0
      go d e = omega arith

-- ---- seven pairs
once_each : (ps : List ℕ) → T (all (λ t. ltb t 34) ps) → sum (λ p. sum (λ t. one (eqb t p)) tiles) ps ≡ length ps
once_each [] v = refl
once_each (p ∷ ps) v =
    let e : 1 + length ps ≡ suc (length ps) = omega arith in
    ap₂ ◌+◌ (one_tile p (ltb→lt p 34 (and_left (ltb p 34) _ v))) (once_each ps (and_right (ltb p 34) _ v)) ∙ e

module _ {c : ℕ → ℕ} {k : List Meld} {ps : List ℕ} (r : AdmitsPairs c k ps) where
  pub pairs_total : sum c tiles ≡ 14
  pairs_total =
      ap total (map_members c (λ t. 2 * count (eqb t) ps) tiles (λ t i. r.exact t (tile_lt i)))
      ∙ sym (sum_times 2 (λ t. count (eqb t) ps) tiles)
      ∙ ap (λ (n : ℕ). 2 * n) (sum_exchange (λ p t. one (eqb t p)) ps tiles ∙ once_each ps r.tiles ∙ r.seven)

  -- no tile more than twice
  pub pairs_two : (t : ℕ) → t < 34 → c t ≤ 2
  pairs_two t h = omega (arith, r.exact t h, times_once eqb eqb→eq eqb_refl t ps (ascending_nodup ps r.ascending))

  -- there are six terminals, which make twelve tiles
  pub pairs_not_chinroutou : chinroutou c ≡ false
  pairs_not_chinroutou =
      ¬T→false (chinroutou c) (λ o.
      twelve (sum c tiles) (sum (λ t. cond (is_terminal t) 2 0) tiles) pairs_total refl
      (sum_mono c (λ t. cond (is_terminal t) 2 0) tiles
      (λ t i. few (c t) (is_terminal t) (pairs_two t (tile_lt i)) (chinroutou_each c o t (tile_lt i)))))
    where
      twelve : (n m : ℕ) → n ≡ 14 → m ≡ 12 → n ≤ m → ⊥
      twelve n m e f h = omega arith

      few : (n : ℕ) (b : Bool) → n ≤ 2 → (1 ≤ n → T b) → n ≤ cond b 2 0
      few n true h f = h
      few zero false h f = omega arith
      few (suc n) false h f = absurd (f (omega arith))
