-- What a reading is, and when the tiles admit it. A reading (a term of the scope paper; HandStructure in agari) is one way to take a
-- finished hand apart: seven pairs, thirteen orphans, or a pair and four melds. c t is how many of the tile t the hand holds, calls not
-- counted, and k are the calls. These are definitions.
use Rattle.std.specs.Prelude.{◌≡◌, cond, List, [], ◌++◌, ℕ, ◌+◌, ◌*◌, ◌<◌, T, eqb, ltb, length}
use Rattle.lists.specs.Fold.{all, count, one, sum}
use Rattle.lists.specs.Order.{Pairwise}
use Rattle.tile.specs.Tile.{is_terminal_or_honor}
use Rattle.meld.specs.declared.Meld.{Meld}
use Rattle.meld.specs.Meld.{is_hand_meld, sorted, uses}

-- seven pairs, by their tiles; thirteen orphans, by the tile that is doubled; a pair, by its tile, and four melds
pub data Reading : Type 0 where
  pairs : List ℕ → Reading
  orphans : ℕ → Reading
  standard : ℕ → List Meld → Reading

-- seven different pairs, and nothing called
pub record AdmitsPairs (c : ℕ → ℕ) (k : List Meld) (ps : List ℕ) : Type 0 where
  pub uncalled : k ≡ []
  pub seven : length ps ≡ 7
  pub ascending : Pairwise ◌<◌ ps
  pub tiles : T (all (λ t. ltb t 34) ps)
  pub exact : (t : ℕ) → t < 34 → c t ≡ 2 * count (eqb t) ps

-- each terminal and honor, one of them doubled, and nothing called
pub record AdmitsOrphans (c : ℕ → ℕ) (k : List Meld) (p : ℕ) : Type 0 where
  pub uncalled : k ≡ []
  pub orphan : T (is_terminal_or_honor p)
  pub exact : (t : ℕ) → t < 34 → c t ≡ one (is_terminal_or_honor t) + one (eqb t p)

-- a pair and closed sequences and triplets that use up the counts exactly, four melds together with the calls
pub record AdmitsStandard (c : ℕ → ℕ) (k : List Meld) (p : ℕ) (ms : List Meld) : Type 0 where
  pub hand : List Meld
  pub closed : T (all is_hand_meld hand)
  pub four : length k + length hand ≡ 4
  pub pair : p < 34
  pub exact : (t : ℕ) → t < 34 → c t ≡ cond (eqb t p) 2 0 + sum (λ m. uses m t) hand
  pub whole : ms ≡ sorted (k ++ hand)

-- the tiles c with the calls k admit the reading
abbrev pub Admits : (ℕ → ℕ) → List Meld → Reading → Type 0
Admits c k (pairs ps) = AdmitsPairs c k ps
Admits c k (orphans p) = AdmitsOrphans c k p
Admits c k (standard p ms) = AdmitsStandard c k p ms
