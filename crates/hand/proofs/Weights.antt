-- Where each meld of a hand weighs a multiple of 3, a hand weighs by 3 as its pair does. Assumes nothing.
use mathlib.Core.Path.{◌≡◌, refl, sym, ap, ◌∙◌}
use mathlib.Core.Bool.{Bool, cond}
use mathlib.Core.List.{List, Memᴰ}
use Prim.Native.Nat.{ℕ, ◌+◌, ◌-◌, ◌*◌, ◌%◌, ◌<◌, ◌≤◌}
use native.Mathlib.Nat.{mul-add}
use native.Mathlib.Omega.{arith}
use lib.Dec.{T, eqb, eqb→eq}
use borrow.Author.Tests.{eq-eqb, ne_eqb}
use Rattle.lists.specs.Fold.{sum, total}
use Rattle.lists.proofs.Members.{all_mem, map_members}
use Rattle.lists.proofs.Arranged.{pick_mem}
use Rattle.lists.proofs.Sums.{sum_times, sum_threes, sum_more, sum_exchange}
use Rattle.tile.specs.Tile.{tiles}
use Rattle.tile.proofs.Tiles.{in_tiles, tile_lt, tiles_nodup}
use Rattle.meld.specs.declared.Meld.{Meld}
use Rattle.meld.specs.Meld.{hand_melds, uses}
use Rattle.hand.specs.Readings.{less_pair, meld_lists}
use Rattle.hand.specs.Weights.{weight, is_weighed, in_suit, by_three}
use Rattle.hand.proofs.Search.{Found, find_sound}

pub man_weighed : T (is_weighed (in_suit 0))
unfolding is_weighed in_suit
man_weighed = tt

pub pin_weighed : T (is_weighed (in_suit 1))
unfolding is_weighed in_suit
pin_weighed = tt

pub sou_weighed : T (is_weighed (in_suit 2))
unfolding is_weighed in_suit
sou_weighed = tt

pub honors_weighed : T (is_weighed (in_suit 3))
unfolding is_weighed in_suit
honors_weighed = tt

pub numbers_weighed : T (is_weighed by_three)
unfolding is_weighed by_three
numbers_weighed = tt

-- ---- what is left when the pair is taken
pub less_pair_at_holds : (c : ℕ → ℕ) (p : ℕ) → less_pair c p p ≡ c p - 2
less_pair_at_holds c p = ap (λ (b : Bool). c p - cond b 2 0) (eq-eqb p p refl)

pub less_pair_other_holds : (c : ℕ → ℕ) (p t : ℕ) → (t ≡ p → ⊥) → less_pair c p t ≡ c t
less_pair_other_holds c p t f = let e : ◌≡◌ {A = ℕ} (cond (eqb t p) 2 0) 0 = ap (λ (b : Bool). cond b 2 0) (ne_eqb t p f) in omega arith

module _ (f : ℕ → ℕ) where
  pub pair_weighs : (c : ℕ → ℕ) (p : ℕ) → p < 34 → 2 ≤ c p → weight f c ≡ 2 * f p + weight f (less_pair c p)
  unfolding weight
  pair_weighs c p h two =
      sum_more (λ t. f t * c t) (λ t. f t * less_pair c p t) (2 * f p) p tiles tiles_nodup (in_tiles p h) at_pair
      (λ t g. ap (λ (n : ℕ). f t * n) (sym (less_pair_other_holds c p t g)))
    where
      at_pair : f p * c p ≡ 2 * f p + f p * less_pair c p p
      at_pair =
          let e : c p ≡ 2 + less_pair c p p = omega (arith, less_pair_at_holds c p) in
          let k = mul-add (f p) 2 (less_pair c p p) in
          let g = ap (λ (n : ℕ). f p * n) e in
          omega arith

  -- the melds of a list that uses up the counts
  pub melds_weigh : T (is_weighed f) → (n : ℕ) (c : ℕ → ℕ) (l : List Meld) → Found n c hand_melds l → weight f c % 3 ≡ 0
  unfolding is_weighed weight
  melds_weigh g n c l k =
      ap (λ (n : ℕ). n % 3)
      (ap total (map_members (λ t. f t * c t) (λ t. sum (λ m. f t * uses m t) l) tiles each)
      ∙ sum_exchange (λ m t. f t * uses m t) l tiles)
      ∙ sum_threes (λ m. weight f (uses m)) l
      (λ m i. eqb→eq _ 0 (all_mem (λ m. eqb (weight f (uses m) % 3) 0) {l = hand_melds} g (pick_mem k.picked i)))
    where
      each : (t : ℕ) → Memᴰ t tiles → f t * c t ≡ sum (λ m. f t * uses m t) l
      each t i = ap (λ (n : ℕ). f t * n) (k.exact t (tile_lt i)) ∙ sum_times (f t) (λ m. uses m t) l

  -- a hand with the pair p
  pub weighs_as_pair :
      T (is_weighed f) → (n : ℕ) (c : ℕ → ℕ) (p : ℕ) → p < 34 → 2 ≤ c p → (l : List Meld) → Memᴰ l (meld_lists n (less_pair c p))
      → weight f c % 3 ≡ 2 * f p % 3
  unfolding meld_lists
  weighs_as_pair g n c p h two l i =
      let e = pair_weighs c p h two in
      let k = melds_weigh g n (less_pair c p) l (find_sound n (less_pair c p) hand_melds l i) in
      omega arith
