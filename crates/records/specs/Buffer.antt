-- How the code reads records back from its buffer; no rule of the game. The law `read_back` says that it gets the readings whose records were
-- written. These are definitions.
use Rattle.std.specs.Prelude.{cond, List, [], ◌∷◌, ℕ, zero, suc, ◌+◌, eqb, get_or}
use Rattle.meld.specs.declared.Meld.{Meld}
use Rattle.hand.specs.Reading.{Reading, pairs, orphans, standard}

-- the byte at the place i, 0 past the end
abbrev pub byte_at : List ℕ → ℕ → ℕ
byte_at b i = get_or b i 0

-- the meld whose tile, kind and source stand at the place i
abbrev pub meld_at : List ℕ → ℕ → Meld
meld_at b i = record { tile = byte_at b i; kind = byte_at b (i + 1); source = byte_at b (i + 2) }

-- the seven tiles from the place i on
abbrev pub tiles_at : List ℕ → ℕ → List ℕ
tiles_at b i =
    byte_at b i ∷ byte_at b (i + 1) ∷ byte_at b (i + 2) ∷ byte_at b (i + 3) ∷ byte_at b (i + 4) ∷ byte_at b (i + 5) ∷ byte_at b (i + 6) ∷ []

-- the reading whose record stands at the place i: its kind is the third byte, what follows it begins with the fifth
unfoldable pub reading_at : List ℕ → ℕ → Reading
reading_at b i =
    cond (eqb (byte_at b (i + 2)) 1)
    (pairs (tiles_at b (i + 4)))
    (cond (eqb (byte_at b (i + 2)) 2) (orphans (byte_at b (i + 4)))
    (standard (byte_at b (i + 4)) (meld_at b (i + 5) ∷ meld_at b (i + 8) ∷ meld_at b (i + 11) ∷ meld_at b (i + 14) ∷ [])))

-- the readings of n records, the first at the place i; a record's first byte is its length
abbrev pub readings_in : List ℕ → ℕ → ℕ → List Reading
readings_in b zero i = []
readings_in b (suc n) i = reading_at b i ∷ readings_in b n (i + byte_at b i)

-- the place of the record that stands n records after the one at the place i
abbrev pub place_of : List ℕ → ℕ → ℕ → ℕ
place_of b zero i = i
place_of b (suc n) i = place_of b n (i + byte_at b i)
