-- How the code keeps the tiles that are left, in packed words; no rule of the game. These are definitions.
use Rattle.std.specs.Prelude.{◌≡◌, Bool, ◌&&◌, cond, ℕ, zero, suc, ◌+◌, ◌-◌, ◌/◌, ◌%◌, ◌≤◌, ◌<◌, eqb, leb}
use Rattle.tile.specs.Tile.{is_start}
use Rattle.meld.specs.declared.Meld.{Meld}
use Rattle.meld.specs.Meld.{meld}
use Rattle.hand.specs.Readings.{fits, is_empty, minus}
use Rattle.search.specs.declared.remaining.Remaining.{Remaining}

-- the count at place k of a word, three bits a place, the lowest first
unfoldable pub digit : ℕ → ℕ → ℕ
digit w zero = w % 8
digit w (suc k) = digit (w / 8) k

-- what is left, its words taken apart: `word` has the counts from `tile` on, and `rest` those of sou and the honors where they are
-- not yet in `word`
pub record Split : Type 0 where
  pub word : ℕ
  pub rest : ℕ
  pub tile : ℕ

abbrev pub split : Remaining → Split
split s = record { word = s.word; rest = s.behind / 64; tile = s.behind % 64 }

-- how many of the tile u are left
unfoldable pub left : Split → ℕ → ℕ
left s u = cond (leb s.tile u) (digit s.word (u - s.tile)) 0 + cond (leb 18 u) (digit s.rest (u - 18)) 0

-- at most four of a tile are left, none above the last tile, and the word does not reach into the tiles of the rest
pub record Fair (s : Split) : Type 0 where
  pub few : (u : ℕ) → left s u ≤ 4
  pub ends : (u : ℕ) → 34 ≤ u → left s u ≡ 0
  pub apart : (s.rest ≡ 0 → ⊥) → (k : ℕ) → 18 ≤ s.tile + k → digit s.word k ≡ 0

-- no tile is left
unfoldable pub has_none_left : Split → Bool
has_none_left s = is_empty (left s)

-- the lowest tile that is left stands at the lowest place of the word
pub record AtLowest (s : Split) : Type 0 where
  pub fair : Fair s
  pub tile : s.tile < 34
  pub there : 1 ≤ s.word % 8

-- the sequence from the tile is left; exactly three of the tile are left
unfoldable pub has_sequence : Split → Bool
has_sequence s = is_start s.tile && fits (meld s.tile 0) (left s)

unfoldable pub has_triplet : Split → Bool
has_triplet s = eqb (left s s.tile) 3

-- t is what is left of s without the meld m
pub record Less (s : Split) (m : Meld) (t : Split) : Type 0 where
  pub fair : Fair t
  pub same : left t ≡ minus (left s) m
