-- The characters of words of tiles, by their ASCII numbers: 48 to 57 are 0 to 9, 97 to 122 are a to z, and a capital stands 32 before its
-- small letter. The number 0 is no character. These are definitions.
use Rattle.std.specs.Prelude.{Bool, ◌&&◌, ◌||◌, not, cond, ℕ, ◌+◌, ◌-◌, ◌*◌, eqb, leb, ltb, Option, Some, None}

-- a number below m; none where it is not: so are suits below 4 and tiles below 34
abbrev pub below : ℕ → ℕ → Option ℕ
below m n = cond (ltb n m) (Some n) None

-- one of 0 to 9
abbrev pub is_number : ℕ → Bool
is_number c = leb 48 c && leb c 57

-- the letter l, small or as a capital
abbrev pub is_letter : ℕ → ℕ → Bool
is_letter l c = eqb c l || eqb c (l - 32)

-- the suit of a letter: 0 for m, 1 for p, 2 for s, 3 for z; 4 for any other character
unfoldable pub suit_of : ℕ → ℕ
suit_of c = cond (is_letter 109 c) 0 (cond (is_letter 112 c) 1 (cond (is_letter 115 c) 2 (cond (is_letter 122 c) 3 4)))

-- the tile of w before the character n: White before h, else West
abbrev pub west_or_white : ℕ → ℕ
west_or_white n = cond (is_letter 104 n) 31 29

-- the honor of a letter before the character n: e, s, w, n the winds, wh White, g Green, r Red; 34 for any other character
unfoldable pub honor_of : ℕ → ℕ → ℕ
honor_of c n =
    cond (is_letter 101 c) 27
    (cond (is_letter 115 c) 28
    (cond (is_letter 119 c) (west_or_white n)
    (cond (is_letter 110 c) 30 (cond (is_letter 103 c) 32 (cond (is_letter 114 c) 33 34)))))

-- there is such a tile: 1 to 9 of man, pin and sou, and 1 to 7 of the honors. 0 is how players write a red five, which is not counted
abbrev pub is_named : ℕ → ℕ → Bool
is_named c s = leb 49 c && (leb c 57 && (leb s 3 && not (eqb s 3 && ltb 55 c)))

-- the tile of a number in a suit; 34 where there is none
unfoldable pub tile_of : ℕ → ℕ → ℕ
tile_of c s = cond (is_named c s) (s * 9 + (c - 49)) 34

-- c names no tile itself and is good behind b: the letter of a suit right behind a number, or the h of wh
abbrev pub is_silent : ℕ → ℕ → Bool
is_silent b c = (is_number b && ltb (suit_of c) 4) || (is_letter 119 b && is_letter 104 c)

-- a character that is neither the letter of a suit nor that of an honor
abbrev pub is_strange : ℕ → Bool
is_strange c = ltb 0 c && (leb 4 (suit_of c) && leb 34 (honor_of c 0))
