-- How the code counts the kinds of tile in a hand, as set bits of one word; no rule of the game. c t is how many of the tile t the hand holds.
-- These are definitions.
use Rattle.std.specs.Prelude.{cond, ℕ, zero, suc, ◌+◌, ◌*◌, eqb}

-- a bit for each of n tiles from a on, the lowest tile in the lowest bit: set where the tile is there
unfoldable pub bits_from : (ℕ → ℕ) → ℕ → ℕ → ℕ
bits_from c zero a = 0
bits_from c (suc n) a = bits_from c n (suc a) * 2 + cond (eqb (c a) 0) 0 1

-- the word of the 34 kinds
unfoldable pub kinds_word : (ℕ → ℕ) → ℕ
kinds_word c = bits_from c 34 0
