-- What a turn of the sum's loop does, and what the stores of the three parts make. Assumes nothing.
use mathlib.Core.Path.{◌≡◌, refl, sym, ap, ap₂, ◌∙◌}
use mathlib.Core.List.{List, ◌++◌}
use Prim.Native.Nat.{ℕ, ◌+◌, ◌*◌, ◌<◌, ◌≤◌}
use native.Mathlib.Numerals.{add-one}
use lib.ListN.{length, get_or, drop, replicate, drop_of_length-le}
use lib.Seq.{drop-cons, sets}
use Rattle.lists.proofs.Elements.{elements}
use Rattle.yaku.specs.Han.{dot}

-- ---- the sum of values, each as often as its tally says, from place i on
unfoldable pub dot_from : List ℕ → List ℕ → ℕ → ℕ
dot_from vs ns i = dot (drop i vs) (drop i ns)

pub dot_all : (vs ns : List ℕ) → dot_from vs ns 0 ≡ dot vs ns
unfolding dot_from
dot_all vs ns = refl

pub dot_turn : (vs ns : List ℕ) (i : ℕ) → i < length vs → i < length ns → dot_from vs ns i ≡ get_or vs i 0 * get_or ns i 0 + dot_from vs ns (i + 1)
unfolding dot_from
dot_turn vs ns i h k = rw (add-one, drop-cons vs i 0, drop-cons ns i 0)

pub dot_end : (vs ns : List ℕ) (i : ℕ) → length vs ≤ i → dot_from vs ns i ≡ 0
unfolding dot_from
dot_end vs ns i h = ap (λ (l : List ℕ). dot l (drop i ns)) (drop_of_length-le vs {i = i} h)

-- ---- the parts in their places
module _ (c : List ℕ) (k : length c ≡ 15) where
  pub last_part : sets (replicate 47 0) 32 c ≡ replicate 32 0 ++ c
  last_part =
      ap (λ (m : List ℕ). sets (replicate 47 0) 32 m) (elements 0 15 c k)
      ∙ ap (λ (m : List ℕ). replicate 32 0 ++ m) (sym (elements 0 15 c k))

  pub all_parts : (a b : List ℕ) → length a ≡ 17 → length b ≡ 15 → sets (sets (sets (replicate 47 0) 32 c) 0 a) 17 b ≡ (a ++ b) ++ c
  all_parts a b h i =
      ap (λ (m : List ℕ). sets (sets m 0 a) 17 b) last_part
      ∙ ap₂ (λ (x y : List ℕ). sets (sets (replicate 32 0 ++ c) 0 x) 17 y) (elements 0 17 a h) (elements 0 15 b i)
      ∙ sym (ap₂ (λ (x y : List ℕ). (x ++ y) ++ c) (elements 0 17 a h) (elements 0 15 b i))
