-- Melds: questions about one meld, and the melds there are. Kinds: 0 closed sequence, 1 open sequence, 2 closed triplet,
-- 3 open triplet, 4 closed kan, 5 open kan, 6 added kan. The source (the papers' own word) is the player from whom the tile was called, in seats
-- onward from the one who called it: 1 the next to play, on the right; 2 the one across; 3 the one who plays before, on the left; 0 where no tile was called.
-- These are definitions.
use Rattle.std.specs.Prelude.{Bool, ◌&&◌, ◌||◌, not, cond, List, [], ◌∷◌, ◌++◌, ℕ, ◌+◌, ◌*◌, eqb, ltb, leb}
use Rattle.lists.specs.Fold.{one, flat}
use Rattle.lists.specs.Order.{arrange}
use Rattle.tile.specs.Tile.{is_start, tiles}
use Rattle.meld.specs.declared.Meld.{Meld}

-- a sequence, called or not
abbrev pub is_sequence : Meld → Bool
is_sequence m = ltb m.kind 2

-- a triplet or a kan, called or not
abbrev pub is_triplet_or_kan : Meld → Bool
is_triplet_or_kan m = leb 2 m.kind && ltb m.kind 7

-- a kan: closed, open or added
abbrev pub is_kan : Meld → Bool
is_kan m = leb 4 m.kind && ltb m.kind 7

-- no tile of it was called from another player
abbrev pub is_concealed : Meld → Bool
is_concealed m = eqb m.kind 0 || (eqb m.kind 2 || eqb m.kind 4)

-- a tile of it was called from another player
abbrev pub is_open : Meld → Bool
is_open m = eqb m.kind 1 || (eqb m.kind 3 || (eqb m.kind 5 || eqb m.kind 6))

-- kind and tile are in range, and a sequence starts at 1 to 7 of a suit
abbrev pub is_shaped : Meld → Bool
is_shaped m = ltb m.kind 7 && (ltb m.tile 34 && (leb 2 m.kind || is_start m.tile))

-- whom a tile of an open meld can come from, from how many seats onward at least, and 3 at most: of a triplet or kan any of the three others, of a
-- sequence the player before alone
abbrev pub nearest : Bool → ℕ
nearest sequence = cond sequence 3 1

abbrev pub is_seat : Bool → ℕ → Bool
is_seat sequence s = leb (nearest sequence) s && leb s 3

-- the source is one from which a meld of its kind can come: nobody where it is closed
abbrev pub is_sourced : Meld → Bool
is_sourced m = cond (is_open m) (is_seat (is_sequence m) m.source) (eqb m.source 0)

-- tile, kind and source are those of a meld
abbrev pub is_meld : Meld → Bool
is_meld m = is_shaped m && is_sourced m

-- a meld that the hand itself can hold: a closed sequence or a closed triplet
abbrev pub is_hand_meld : Meld → Bool
is_hand_meld m = is_meld m && (eqb m.kind 0 || eqb m.kind 2)

-- a meld that is called: an open sequence, an open triplet or any kan, the closed one too
abbrev pub is_call : Meld → Bool
is_call m = is_meld m && not (eqb m.kind 0 || eqb m.kind 2)

-- the number by which melds ascend: by tile, then by kind, then by source
abbrev pub key : Meld → ℕ
key m = (m.tile * 8 + m.kind) * 4 + m.source

-- how many of the tile t a meld holds: a sequence one each of its first tile and the two after it, a kan four of its tile, a triplet three
abbrev pub run_uses : ℕ → ℕ → ℕ
run_uses first t = one (leb first t && ltb t (first + 3))

abbrev pub set_size : Bool → ℕ
set_size kan = cond kan 4 3

abbrev pub uses : Meld → ℕ → ℕ
uses m t = cond (is_sequence m) (run_uses m.tile t) (cond (eqb t m.tile) (set_size (is_kan m)) 0)

-- the same tile, kind and source
abbrev pub eq_meld : Meld → Meld → Bool
eq_meld m x = eqb m.tile x.tile && (eqb m.kind x.kind && eqb m.source x.source)

-- the meld of the tile t and the kind k with the source s
abbrev pub meld_from : ℕ → ℕ → ℕ → Meld
meld_from t k s = record { tile = t; kind = k; source = s }

-- a meld of the same kind and source at another tile
abbrev pub at_tile : ℕ → Meld → Meld
at_tile t m = meld_from t m.kind m.source

-- a meld of the same tile and kind from another seat
abbrev pub from_seat : ℕ → Meld → Meld
from_seat s m = meld_from m.tile m.kind s

-- one meld for each tile and kind: an open one from the player before, from whom each kind of them can come
abbrev pub meld : ℕ → ℕ → Meld
meld t k = meld_from t k (cond (is_open (meld_from t k 0)) 3 0)

-- a meld but for its source: that one of its tile and kind
abbrev pub but_source : Meld → Meld
but_source m = meld m.tile m.kind

-- a meld of the tile t and the kind k from each of the three others
abbrev pub from_each : ℕ → ℕ → List Meld
from_each t k = meld_from t k 1 ∷ meld_from t k 2 ∷ meld_from t k 3 ∷ []

-- melds whose lowest tile is t, by kind and source: those that a hand itself can hold; triplets and kans; all
abbrev pub hand_melds_at : ℕ → List Meld
hand_melds_at t = cond (is_start t) (meld t 0 ∷ meld t 2 ∷ []) (meld t 2 ∷ [])

abbrev pub sets_at : ℕ → List Meld
sets_at t = meld t 2 ∷ from_each t 3 ++ (meld t 4 ∷ from_each t 5 ++ from_each t 6)

abbrev pub melds_at : ℕ → List Meld
melds_at t = cond (is_start t) (meld t 0 ∷ meld t 1 ∷ sets_at t) (sets_at t)

-- the 55 melds that a hand itself can hold, and all 416 melds, ascending
abbrev pub hand_melds : List Meld
hand_melds = flat hand_melds_at tiles

abbrev pub melds : List Meld
melds = flat melds_at tiles

-- melds in ascending order; what is no meld falls out, but calls have passed check 3
abbrev pub sorted : List Meld → List Meld
sorted l = arrange eq_meld melds l
