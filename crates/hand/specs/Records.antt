-- The record (a term of the scope paper) of a reading: the bytes that stand for it in a buffer that the caller lends; and the order of records.
-- These are definitions.
use Rattle.std.specs.Prelude.{List, [], ◌∷◌, ◌++◌, ℕ, ◌+◌, ◌/◌, ◌%◌, length}
use Rattle.lists.specs.Fold.{flat}
use Rattle.lists.specs.Order.{Lex}
use Rattle.meld.specs.declared.Meld.{Meld}
use Rattle.hand.specs.Reading.{Reading, pairs, orphans, standard}

-- two bytes, little-endian
abbrev pub two_bytes : ℕ → List ℕ
two_bytes n = n % 256 ∷ n / 256 ∷ []

-- a meld's tile, kind and source
abbrev pub meld_bytes : List Meld → List ℕ
meld_bytes [] = []
meld_bytes (m ∷ ms) = m.tile ∷ m.kind ∷ m.source ∷ meld_bytes ms

-- the kind of a reading, and the bytes after it
abbrev pub kind_of : Reading → ℕ
kind_of (pairs ps) = 1
kind_of (orphans p) = 2
kind_of (standard p ms) = 3

abbrev pub body_of : Reading → List ℕ
body_of (pairs ps) = ps
body_of (orphans p) = p ∷ []
body_of (standard p ms) = p ∷ meld_bytes ms

-- a record: the length of the whole, the kind, the body
unfoldable pub record_of : Reading → List ℕ
record_of r = two_bytes (length (body_of r) + 4) ++ (two_bytes (kind_of r) ++ body_of r)

-- how many bytes the record of a standard reading has (the law `standard_bytes_holds`), and how many the records of a hand never exceed (the law `room` of
-- the crate promises): at most 7 pairs with 16 sets of melds each, and seven pairs, whose record has 11
abbrev pub standard_bytes : ℕ
standard_bytes = 17

abbrev pub always_enough : ℕ
always_enough = 1915

-- the records of readings, one after the other
abbrev pub records : List Reading → List ℕ
records rs = flat record_of rs

-- records ascend by kind, then by the bytes after it
abbrev pub Before : Reading → Reading → Type 0
Before r s = Lex (kind_of r ∷ body_of r) (kind_of s ∷ body_of s)
