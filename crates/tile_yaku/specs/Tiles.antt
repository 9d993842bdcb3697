-- Yaku that depend on the tiles alone, calls included: c t is how many of the tile t hand and calls have together. These are definitions.
use Rattle.std.specs.Prelude.{Bool, ◌&&◌, ◌||◌, not, cond, List, [], ◌∷◌, ℕ, ◌/◌, eqb, leb}
use Rattle.lists.specs.Fold.{all, any, count, sum}
use Rattle.tile_yaku.specs.declared.TileYaku.{TileYaku}
use Rattle.tile.specs.Tile.{is_green, is_honor, is_simple, is_suited, is_terminal, is_terminal_or_honor, tiles}

-- each tile that is there passes the question q
abbrev pub only : (ℕ → Bool) → (ℕ → ℕ) → Bool
only q c = all (λ t. eqb (c t) 0 || q t) tiles

-- some tile that is there passes the question q
abbrev pub some : (ℕ → Bool) → (ℕ → ℕ) → Bool
some q c = any (λ t. leb 1 (c t) && q t) tiles

-- Tanyao: simples only
unfoldable pub tanyao : (ℕ → ℕ) → Bool
tanyao c = only is_simple c

-- Honroutou: terminals and honors only
unfoldable pub honroutou : (ℕ → ℕ) → Bool
honroutou c = only is_terminal_or_honor c

-- Tsuuiisou: honors only
unfoldable pub tsuuiisou : (ℕ → ℕ) → Bool
tsuuiisou c = only is_honor c

-- Chinroutou: terminals only
unfoldable pub chinroutou : (ℕ → ℕ) → Bool
chinroutou c = only is_terminal c

-- Ryuuiisou: green tiles only; the dragon Green need not be among them
unfoldable pub ryuuiisou : (ℕ → ℕ) → Bool
ryuuiisou c = only is_green c

-- ---- flushes: tiles of exactly one suit, with honors (Honitsu) or without (Chinitsu)
abbrev pub suits : List ℕ
suits = 0 ∷ 1 ∷ 2 ∷ []

abbrev pub of_suit : ℕ → ℕ → Bool
of_suit s t = is_suited t && eqb (t / 9) s

abbrev pub one_suit : (ℕ → ℕ) → Bool
one_suit c = eqb (count (λ s. some (of_suit s) c) suits) 1

unfoldable pub honitsu : (ℕ → ℕ) → Bool
honitsu c = one_suit c && some is_honor c

unfoldable pub chinitsu : (ℕ → ℕ) → Bool
chinitsu c = one_suit c && not (some is_honor c)

-- ---- nine gates: 14 tiles of one suit (so no kan), at least three of 1 and of 9 and one of each other number
-- the count of the tile t fits nine gates of the suit s
abbrev pub gate : (ℕ → ℕ) → ℕ → ℕ → Bool
gate c s t = cond (of_suit s t) (leb (cond (is_terminal t) 3 1) (c t)) (eqb (c t) 0)

unfoldable pub nine_gates : (ℕ → ℕ) → Bool
nine_gates c = any (λ s. all (gate c s) tiles) suits && eqb (sum c tiles) 14

-- in nine gates: the winning tile t is the one over, so that without it stand just three of 1 and of 9 and one of each other number
unfoldable pub pure_wait : (ℕ → ℕ) → ℕ → Bool
pure_wait c t = eqb (c t) (cond (is_terminal t) 4 2)

-- the answers for all tiles together; t is the winning tile
unfoldable pub tile_yaku : (ℕ → ℕ) → ℕ → TileYaku
tile_yaku c t =
    record {
      tanyao = tanyao c;
      honroutou = honroutou c;
      honitsu = honitsu c;
      chinitsu = chinitsu c;
      tsuuiisou = tsuuiisou c;
      chinroutou = chinroutou c;
      ryuuiisou = ryuuiisou c;
      nine_gates = nine_gates c;
      pure_wait = pure_wait c t;
    }
