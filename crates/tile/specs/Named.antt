-- Tiles as players name them, by number in a suit or by the honor's name. These are definitions.
use Rattle.std.specs.Prelude.{cond, List, [], ◌∷◌, ◌++◌, map, ℕ, zero, suc, ◌+◌, ◌-◌, ◌/◌, ◌%◌, eqb}

-- man, pin and sou 1 to 9
abbrev pub man : ℕ → ℕ
man n = n - 1

abbrev pub pin : ℕ → ℕ
pin n = n + 8

abbrev pub sou : ℕ → ℕ
sou n = n + 17

-- the winds
abbrev pub East : ℕ
East = 27

abbrev pub South : ℕ
South = 28

abbrev pub West : ℕ
West = 29

abbrev pub North : ℕ
North = 30

-- the dragons
abbrev pub White : ℕ
White = 31

abbrev pub Green : ℕ
Green = 32

abbrev pub Red : ℕ
Red = 33

-- the digits of a number with at most so many, the last one first
abbrev digits : ℕ → ℕ → List ℕ
digits zero n = []
digits (suc left) n = cond (eqb n 0) [] (n % 10 ∷ digits left (n / 10))

-- up to 14 tiles of a suit by the digits of a number: mans 12355 are man 1, 2, 3, 5 and 5
abbrev pub mans : ℕ → List ℕ
mans n = map man (digits 14 n)

abbrev pub pins : ℕ → List ℕ
pins n = map pin (digits 14 n)

abbrev pub sous : ℕ → List ℕ
sous n = map sou (digits 14 n)

-- one of each terminal and honor
abbrev pub orphan_tiles : List ℕ
orphan_tiles = mans 19 ++ pins 19 ++ sous 19 ++ (East ∷ South ∷ West ∷ North ∷ White ∷ Green ∷ Red ∷ [])
