-- Words of tiles as they are written, and what they name. Assumes nothing.
use mathlib.Core.Path.{◌≡◌, refl}
use mathlib.Core.Bool.{true, false}
use mathlib.Core.List.{List, [], ◌∷◌}
use Prim.Native.Nat.{ℕ}
use Prim.Native.Char.{code}
use Prim.Native.String.{String}
use Prim.Native.String as string
use Rattle.tile.specs.Named.{man, pin, sou, East, South, West, North, White, Green, Red}
use Rattle.tile_words.specs.Chars.{suit_of, honor_of, tile_of}
use Rattle.tile_words.specs.Words.{leading, tiles_of, is_good_word, good_length, fault_place}

-- the characters of a text, by their ASCII numbers
abbrev pub chars : String → List ℕ
chars string.[] = []
chars (string.◌∷◌ c cs) = code c ∷ chars cs

-- the text is a good word of tiles, and names these
unfoldable pub Reads : String → List ℕ → Type 0
unfolding leading suit_of honor_of tile_of
Reads t ts = (is_good_word (chars t) ≡ true) × (tiles_of (chars t) ≡ ts)

-- the text is not a good word of tiles, and the character at this place is at fault
unfoldable pub Faulty : String → ℕ → Type 0
unfolding leading suit_of honor_of tile_of good_length
Faulty t place = (is_good_word (chars t) ≡ false) × (fault_place (chars t) ≡ place)

-- ---- numbers and the letter of their suit, in any case
pub one_tile : Reads "1m" (man 1 ∷ [])
unfolding Reads
one_tile = (refl, refl)

pub suits : Reads "19m28P3s17Z" (man 1 ∷ man 9 ∷ pin 2 ∷ pin 8 ∷ sou 3 ∷ East ∷ Red ∷ [])
unfolding Reads
suits = (refl, refl)

-- ---- honors by their letters; w is West, and wh White
pub winds : Reads "ew" (East ∷ West ∷ [])
unfolding Reads
winds = (refl, refl)

pub all_winds : Reads "NEWS" (North ∷ East ∷ West ∷ South ∷ [])
unfolding Reads
all_winds = (refl, refl)

pub dragons : Reads "whGr" (White ∷ Green ∷ Red ∷ [])
unfolding Reads
dragons = (refl, refl)

pub west : Reads "w" (West ∷ [])
unfolding Reads
west = (refl, refl)

pub white : Reads "wh" (White ∷ [])
unfolding Reads
white = (refl, refl)

pub west_and_white : Reads "wwhW" (West ∷ White ∷ West ∷ [])
unfolding Reads
west_and_white = (refl, refl)

-- ---- s behind a number is sou, any other South
pub five_of_sou : Reads "5s" (sou 5 ∷ [])
unfolding Reads
five_of_sou = (refl, refl)

pub south : Reads "s" (South ∷ [])
unfolding Reads
south = (refl, refl)

pub sou_and_south : Reads "55ssS" (sou 5 ∷ sou 5 ∷ South ∷ South ∷ [])
unfolding Reads
sou_and_south = (refl, refl)

-- ---- 0 is a red five, which is no tile here, alone or among others; there is none among the honors either
pub red_five : Faulty "0p" 0
unfolding Faulty
red_five = (refl, refl)

pub red_among_others : Faulty "1m50s" 3
unfolding Faulty
red_among_others = (refl, refl)

pub red_honor : Faulty "0z" 0
unfolding Faulty
red_honor = (refl, refl)

-- ---- words that are not good, and the character at fault
pub no_honor : Faulty "18z" 1
unfolding Faulty
no_honor = (refl, refl)

pub no_suit : Faulty "123" 0
unfolding Faulty
no_suit = (refl, refl)

pub honor_is_no_suit : Faulty "12e" 0
unfolding Faulty
honor_is_no_suit = (refl, refl)

pub bare_suit : Faulty "1mz" 2
unfolding Faulty
bare_suit = (refl, refl)

pub strange_letter : Faulty "22x4m" 2
unfolding Faulty
strange_letter = (refl, refl)

pub bare_h : Faulty "h" 0
unfolding Faulty
bare_h = (refl, refl)

pub second_h : Faulty "whh" 2
unfolding Faulty
second_h = (refl, refl)
