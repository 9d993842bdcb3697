-- The counts of a hand: a list of bytes in the code, a function of the tile in the definitions. These are definitions.
use Rattle.std.specs.Prelude.{List, ℕ, ◌≤◌, get_or}

-- how many of the tile t the counts hold
abbrev pub held : List ℕ → ℕ → ℕ
held cs t = get_or cs t 0

-- of no tile more than four
abbrev pub AtMostFour : List ℕ → Type 0
AtMostFour cs = (t : ℕ) → held cs t ≤ 4
