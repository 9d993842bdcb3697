-- The list of all readings of a hand, in the order of their records. c t is how many of the tile t the hand holds, calls not
-- counted, and k are the calls. These are definitions; the crate complete has the laws that they list what the tiles admit.
use Rattle.std.specs.Prelude.{Bool, ◌&&◌, ◌||◌, cond, List, [], ◌∷◌, ◌++◌, map, ℕ, zero, suc, ◌+◌, ◌-◌, eqb, leb, length}
use Rattle.lists.specs.Fold.{all, all_below, flat, keep, one}
use Rattle.tile.specs.Tile.{is_terminal_or_honor, tiles}
use Rattle.meld.specs.declared.Meld.{Meld}
use Rattle.meld.specs.Meld.{hand_melds, sorted, uses}
use Rattle.hand.specs.Reading.{Reading, pairs, orphans, standard}

-- no tile is left
abbrev pub is_empty : (ℕ → ℕ) → Bool
is_empty c = all_below 34 (λ t. eqb (c t) 0)

-- the meld's tiles are there
abbrev pub fits : Meld → (ℕ → ℕ) → Bool
fits m c = all_below 34 (λ t. leb (uses m t) (c t))

-- what is left without the meld's tiles
abbrev pub minus : (ℕ → ℕ) → Meld → ℕ → ℕ
minus c m t = c t - uses m t

-- f at each element and the list from it on
module _ {A B : Type 0} where
  abbrev pub suffixes : (A → List A → List B) → List A → List B
  suffixes f [] = []
  suffixes f (m ∷ ms) = f m (m ∷ ms) ++ suffixes f ms

-- the ascending lists of n melds out of ms, a meld more than once too, that use up the counts c
abbrev pub find : ℕ → (ℕ → ℕ) → List Meld → List (List Meld)
find zero c ms = cond (is_empty c) ([] ∷ []) []
find (suc n) c ms = suffixes (λ m rest. cond (fits m c) (map (λ l. m ∷ l) (find n (minus c m) rest)) []) ms

-- the ascending lists of n closed sequences and triplets that use up the counts c
unfoldable pub meld_lists : ℕ → (ℕ → ℕ) → List (List Meld)
meld_lists n c = find n c hand_melds

-- the counts without the pair p
abbrev pub less_pair : (ℕ → ℕ) → ℕ → ℕ → ℕ
less_pair c p t = c t - cond (eqb t p) 2 0

-- the standard readings with the pair p: the calls, and closed melds that use up what is left
unfoldable pub standards_at : (ℕ → ℕ) → List Meld → ℕ → List Reading
standards_at c k p =
    cond (leb 2 (c p)) (map (λ l. standard p (sorted (k ++ l))) (meld_lists (4 - length k) (less_pair c p))) []

-- the tiles of which there are two
abbrev pub twos : (ℕ → ℕ) → List ℕ
twos c = keep (λ t. eqb (c t) 2) tiles

-- every tile is there twice or not at all, and seven are there
abbrev pub is_pairs : (ℕ → ℕ) → Bool
is_pairs c = all (λ t. eqb (c t) 0 || eqb (c t) 2) tiles && eqb (length (twos c)) 7

-- the reading as seven pairs, if they are that
unfoldable pub seven_pairs : (ℕ → ℕ) → List Reading
seven_pairs c = cond (is_pairs c) (pairs (twos c) ∷ []) []

-- thirteen orphans with the tile p doubled: one of each terminal and honor, two of p, and nothing else
abbrev pub is_orphans : (ℕ → ℕ) → ℕ → Bool
is_orphans c p = is_terminal_or_honor p && all (λ t. eqb (c t) (one (is_terminal_or_honor t) + one (eqb t p))) tiles

-- the reading as thirteen orphans, if they are that
unfoldable pub thirteen_orphans : (ℕ → ℕ) → List Reading
thirteen_orphans c = map orphans (keep (is_orphans c) tiles)

-- readings that stand only where nothing is called
abbrev pub uncalled : List Meld → List Reading → List Reading
uncalled [] l = l
uncalled (m ∷ k) l = []

-- all readings of the counts c with the calls k
unfoldable pub readings : (ℕ → ℕ) → List Meld → List Reading
readings c k = uncalled k (seven_pairs c ++ thirteen_orphans c) ++ flat (standards_at c k) tiles
