-- How the code sorts melds; no rule of the game. A slot is a place for a meld's number (`key`: by tile, then by kind, then by source), 65535 where it is empty;
-- four of them ascend. These are definitions.
use Rattle.std.specs.Prelude.{cond, List, [], ◌∷◌, map, ℕ, ◌/◌, ◌%◌, leb, replicate}
use Rattle.lists.specs.Fold.{flat}
use Rattle.meld.specs.declared.Meld.{Meld}
use Rattle.meld.specs.Meld.{key}
use Rattle.hand.specs.Records.{standard_bytes}

-- x in its place among ascending slots; the last one falls out
unfoldable pub put : ℕ → List ℕ → List ℕ
put x [] = []
put x (y ∷ ys) = cond (leb x y) x y ∷ put (cond (leb x y) y x) ys

unfoldable pub put_all : List ℕ → List ℕ → List ℕ
put_all [] slots = slots
put_all (x ∷ xs) slots = put_all xs (put x slots)

-- melds put into four empty slots
unfoldable pub slots_of : List Meld → List ℕ
slots_of ms = put_all (map key ms) (replicate 4 65535)

-- the meld of a number
abbrev pub meld_of : ℕ → Meld
meld_of x = record { tile = x / 32 % 256; kind = x / 4 % 8; source = x % 4 }

-- a meld's number as its tile, its kind and its source, a byte each
unfoldable pub slot_bytes : List ℕ → List ℕ
slot_bytes [] = []
slot_bytes (x ∷ xs) = x / 32 % 256 ∷ x / 4 % 8 ∷ x % 4 ∷ slot_bytes xs

-- the record of a standard reading, from the slots
unfoldable pub slot_record : ℕ → List ℕ → List ℕ
slot_record p slots = standard_bytes ∷ 0 ∷ 3 ∷ 0 ∷ p ∷ slot_bytes slots

-- the records of the pair p with each of the lists of melds, put among the slots
unfoldable pub records_with : ℕ → List ℕ → List (List Meld) → List ℕ
records_with p slots ls = flat (λ l. slot_record p (put_all (map key l) slots)) ls
