-- How the code knows where the pair can be; no rule of the game. Tiles get weights under which each meld of a hand weighs a multiple of 3, so
-- what the whole hand weighs tells what the pair weighs. These are definitions.
use Rattle.std.specs.Prelude.{Bool, ℕ, ◌*◌, ◌/◌, ◌%◌, eqb}
use Rattle.lists.specs.Fold.{all, one, sum}
use Rattle.tile.specs.Tile.{tiles}
use Rattle.meld.specs.Meld.{hand_melds, uses}

-- what the counts c weigh, where a tile t weighs f t
unfoldable pub weight : (ℕ → ℕ) → (ℕ → ℕ) → ℕ
weight f c = sum (λ t. f t * c t) tiles

-- each meld of a hand weighs a multiple of 3
unfoldable pub is_weighed : (ℕ → ℕ) → Bool
unfolding weight
is_weighed f = all (λ m. eqb (weight f (uses m) % 3) 0) hand_melds

-- 1 for each tile of a suit, 0 man, 1 pin, 2 sou, or of the honors, 3: a meld has none or three of them
unfoldable pub in_suit : ℕ → ℕ → ℕ
in_suit s t = one (eqb (t / 9) s)

-- the remainder of the tile's number by 3: a triplet has three times the same, a sequence 0, 1 and 2
unfoldable pub by_three : ℕ → ℕ
by_three t = t % 3
