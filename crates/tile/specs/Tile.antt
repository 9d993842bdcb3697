-- Tiles as numbers: 0 to 8 man 1 to 9, 9 to 17 pin, 18 to 26 sou, then East, South, West, North, White, Green, Red.
-- Of a number above 33, which is no tile, each question is answered no. These are definitions.
use Rattle.std.specs.Prelude.{Bool, ◌&&◌, ◌||◌, not, cond, List, [], ℕ, ◌+◌, ◌/◌, ◌%◌, eqb, ltb, leb}
use Rattle.lists.specs.Fold.{up_to}

-- of man, pin or sou
abbrev pub is_suited : ℕ → Bool
is_suited t = ltb t 27

-- a wind or a dragon
abbrev pub is_honor : ℕ → Bool
is_honor t = leb 27 t && ltb t 34

-- East, South, West, North
abbrev pub is_wind : ℕ → Bool
is_wind t = leb 27 t && ltb t 31

-- South, West, North: the winds of the seats that are not the dealer's
abbrev pub is_after_east : ℕ → Bool
is_after_east t = leb 28 t && ltb t 31

-- White, Green, Red
abbrev pub is_dragon : ℕ → Bool
is_dragon t = leb 31 t && ltb t 34

-- 1 or 9 of a suit
abbrev pub is_terminal : ℕ → Bool
is_terminal t = is_suited t && (eqb (t % 9) 0 || eqb (t % 9) 8)

-- 2 to 8 of a suit
abbrev pub is_simple : ℕ → Bool
is_simple t = is_suited t && not (eqb (t % 9) 0 || eqb (t % 9) 8)

abbrev pub is_terminal_or_honor : ℕ → Bool
is_terminal_or_honor t = is_terminal t || is_honor t

-- sou 2, 3, 4, 6, 8 and Green
abbrev pub is_green : ℕ → Bool
is_green t = leb 19 t && ltb t 22 || (eqb t 23 || (eqb t 25 || eqb t 32))

-- the suit, 0 man, 1 pin, 2 sou, and 3 for none; the number in it, 1 to 9, and 0 for none
abbrev pub suit_of : ℕ → ℕ
suit_of t = cond (is_suited t) (t / 9) 3

abbrev pub value_of : ℕ → ℕ
value_of t = cond (is_suited t) (t % 9 + 1) 0

-- a sequence starts there: 1 to 7 of a suit
abbrev pub is_start : ℕ → Bool
is_start t = is_suited t && ltb (t % 9) 7

-- the 34 tiles, ascending
abbrev pub tiles : List ℕ
tiles = up_to 34 []
