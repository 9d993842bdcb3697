-- What the yaku of a standard reading ask of its melds ms, whatever their order. These are definitions.
use Rattle.std.specs.Prelude.{Bool, ◌&&◌, List, [], ◌∷◌, ℕ, ◌+◌, eqb}
use Rattle.lists.specs.Fold.{all, any}
use Rattle.meld.specs.declared.Meld.{Meld}
use Rattle.meld.specs.Meld.{is_sequence, is_triplet_or_kan}

-- ---- one meld: a run is a sequence, a set a triplet or kan
-- a sequence that starts at the tile; a triplet or kan of a tile that passes the question q
abbrev pub run_from : ℕ → Meld → Bool
run_from t m = is_sequence m && eqb t m.tile

abbrev pub set_of : (ℕ → Bool) → Meld → Bool
set_of q m = is_triplet_or_kan m && q m.tile

-- ---- lines of melds
-- one of the lines has for each of its tiles a meld that passes the question q at that tile
abbrev pub any_line : (ℕ → Meld → Bool) → List Meld → List (List ℕ) → Bool
any_line q ms lines = any (λ line. all (λ t. any (q t) ms) line) lines

-- the tiles of one number in man, pin and sou; n is the number less 1
abbrev pub three_suits : ℕ → List ℕ
three_suits n = n ∷ (n + 9) ∷ (n + 18) ∷ []
