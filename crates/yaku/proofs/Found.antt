-- From what the parts of `detect_yaku_with_context` ensure to the definitions. Assumes nothing.
use mathlib.Core.Path.{◌≡◌, refl, ap, ap₂, ◌∙◌}
use mathlib.Core.Bool.{Bool, true, false, not, cond}
use mathlib.Core.List.{List, [], ◌∷◌, ◌++◌, map}
use Prim.Native.Nat.{ℕ}
use lib.Dec.{eqb}
use lib.ListN.{replicate}
use Rattle.lists.specs.Fold.{any, one}
use Rattle.context.specs.declared.GameContext.{GameContext}
use Rattle.hand.specs.Reading.{Reading}
use Rattle.tile_yaku.specs.declared.TileYaku.{TileYaku}
use Rattle.yaku.specs.Tally.{yakuman, is_yakuman, ordinary, tallies}
use Rattle.yaku.specs.Han.{han_of, dot, han}

-- a tally above 0
abbrev there : ℕ → Bool
there n = not (eqb n 0)

any_ones : (bs : List Bool) → any there (map one bs) ≡ any (λ b. b) bs
any_ones [] = refl
any_ones (true ∷ bs) = refl
any_ones (false ∷ bs) = any_ones bs

module _ (w : GameContext) (opened : Bool) (s : TileYaku) (r : Reading) where
  same_yakuman : (found : List ℕ) (limit : Bool) → found ≡ map one (yakuman w opened s r) → limit ≡ any there found → limit ≡ is_yakuman w opened s r
  unfolding is_yakuman
  same_yakuman found limit e f = f ∙ ap (any there) e ∙ any_ones (yakuman w opened s r)

  same_tallies :
      (found ts : List ℕ) (limit : Bool) → found ≡ map one (yakuman w opened s r) → limit ≡ is_yakuman w opened s r
      → ts ≡ cond limit (replicate 32 0) (ordinary w opened s r) ++ found → ts ≡ tallies w opened s r
  unfolding tallies
  same_tallies found ts limit e f g = g ∙ ap₂ (λ (b : Bool) (l : List ℕ). cond b (replicate 32 0) (ordinary w opened s r) ++ l) f e

  same_han : (ts vs : List ℕ) (n : ℕ) → ts ≡ tallies w opened s r → vs ≡ han_of opened → n ≡ dot vs ts → n ≡ han w opened s r
  unfolding han
  same_han ts vs n e f g = g ∙ ap₂ dot f e

  -- found: the tallies of yakuman; limit: whether one is there; ts: all tallies; vs: the table; n: the sum
  pub all_found :
      {found ts vs : List ℕ} {limit : Bool} {n : ℕ}
      → found ≡ map one (yakuman w opened s r)
      → limit ≡ any there found
      → ts ≡ cond limit (replicate 32 0) (ordinary w opened s r) ++ found
      → vs ≡ han_of opened
      → n ≡ dot vs ts
      → (ts ≡ tallies w opened s r) × ((n ≡ han w opened s r) × (limit ≡ is_yakuman w opened s r))
  all_found {found} {ts} {vs} {limit} {n} e f g h k =
      let y = same_yakuman found limit e f in
      let t = same_tallies found ts limit e y g in
      (t, (same_han ts vs n t h k, y))
