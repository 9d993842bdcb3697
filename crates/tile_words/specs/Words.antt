-- Words of tiles, as 222333444m or ew: numbers, and behind them the letter of their suit; or letters of honors. What a character names depends
-- on the character b before it: s behind a number is sou, any other is South. These are definitions.
use Rattle.std.specs.Prelude.{◌≡◌, Bool, true, ◌&&◌, ◌||◌, cond, List, [], ◌∷◌, ℕ, suc, ◌+◌, ◌<◌, min, max, eqb, ltb, get_or, drop}
use Rattle.lists.specs.Fold.{count, keep}
use Rattle.hand.specs.Counts.{held}
use Rattle.tile_words.specs.Chars.{is_number, suit_of, honor_of, tile_of, is_silent, is_strange}

-- how many numbers a text begins with
unfoldable pub leading : List ℕ → ℕ
leading [] = 0
leading (c ∷ cs) = cond (is_number c) (suc (leading cs)) 0

-- the character behind them, 0 where the text ends there; and the suit that it says
abbrev pub behind : List ℕ → ℕ
behind cs = get_or cs (leading cs) 0

abbrev pub suit_after : List ℕ → ℕ
suit_after cs = suit_of (behind cs)

-- the tile that a text names with its first character; 34 where it names none
abbrev pub read_at : ℕ → List ℕ → ℕ
read_at b [] = 34
read_at b (c ∷ cs) = cond (is_number c) (tile_of c (suit_after cs)) (cond (is_number b) 34 (honor_of c (get_or cs 0 0)))

-- the tiles that a text names, 34 for a character that names none
abbrev pub tiles_from : ℕ → List ℕ → List ℕ
tiles_from b [] = []
tiles_from b (c ∷ cs) = read_at b (c ∷ cs) ∷ tiles_from c cs

-- so with a word: before its first character there is none
abbrev pub tiles_in : List ℕ → List ℕ
tiles_in w = tiles_from 0 w

-- the tiles alone, in the word's order
abbrev pub tiles_of : List ℕ → List ℕ
tiles_of w = keep (λ t. ltb t 34) (tiles_in w)

-- how many tiles that is
abbrev pub named_in : List ℕ → ℕ
named_in w = count (λ t. ltb t 34) (tiles_in w)

-- a count and n more of its tile, up to 255, the most that a byte holds; a count never falls
abbrev pub add_to : ℕ → ℕ → ℕ
add_to held n = max held (min (held + n) 255)

-- the counts after those before, with these tiles added
abbrev pub Counted : List ℕ → List ℕ → List ℕ → Type 0
Counted before ts after = (u : ℕ) → u < 34 → held after u ≡ add_to (held before u) (count (eqb u) ts)

-- the first character of a text names a tile, or is one that names none and is good
abbrev pub is_good : ℕ → List ℕ → Bool
is_good b [] = true
is_good b (c ∷ cs) = ltb (read_at b (c ∷ cs)) 34 || is_silent b c

-- so with each character
abbrev pub good_from : ℕ → List ℕ → Bool
good_from b [] = true
good_from b (c ∷ cs) = is_good b (c ∷ cs) && good_from c cs

-- a good word of tiles. An empty one is good too
abbrev pub is_good_word : List ℕ → Bool
is_good_word w = good_from 0 w

-- how many good characters a text begins with
unfoldable pub good_length : ℕ → List ℕ → ℕ
good_length b [] = 0
good_length b (c ∷ cs) = cond (is_good b (c ∷ cs)) (suc (good_length c cs)) 0

-- the character before a place of a word; before the first, the character 0, which is no number
abbrev pub char_before : List ℕ → ℕ → ℕ
char_before w i = get_or (0 ∷ w) i 0

-- which character is at fault, where the text cs from the place i on begins with one that is not good: a strange one behind numbers, else the first
abbrev pub blamed : ℕ → List ℕ → ℕ
blamed i cs = cond (is_strange (behind cs)) (i + leading cs) i

-- the place of the character at fault in a word; its length where it is good
abbrev pub fault_place : List ℕ → ℕ
fault_place w = blamed (good_length 0 w) (drop (good_length 0 w) w)
