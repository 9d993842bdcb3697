-- How the code keeps the counts, in two packed words, man and pin in the low one, sou and the honors in the high one; no rule of the game.
-- These are definitions.
use Rattle.std.specs.Prelude.{◌≡◌, cond, ℕ, zero, suc, ◌+◌, ◌-◌, ◌*◌, ◌≤◌, ltb}
use Rattle.search.specs.Remaining.{digit}
use Rattle.decompose.specs.declared.Packed.{Packed}

-- the counts of n tiles from a on, three bits each, the lowest tile in the lowest bits
unfoldable pub pack_from : (ℕ → ℕ) → ℕ → ℕ → ℕ
pack_from c zero a = 0
pack_from c (suc n) a = pack_from c n (suc a) * 8 + c a

-- how many of the tile t the words hold
unfoldable pub in_words : Packed → ℕ → ℕ
in_words h t = cond (ltb t 18) (digit h.low t) (digit h.high (t - 18))

-- of no tile more than four, and nothing above the last tile of either word
pub record Fit (h : Packed) : Type 0 where
  pub few : (t : ℕ) → in_words h t ≤ 4
  pub low : (t : ℕ) → 18 ≤ t → digit h.low t ≡ 0
  pub high : (t : ℕ) → 16 ≤ t → digit h.high t ≡ 0
