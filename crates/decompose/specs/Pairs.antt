-- How the code goes through the tiles that can be the pair; no rule of the game. These are definitions.
use Rattle.std.specs.Prelude.{◌≡◌, cond, List, [], ℕ, ◌%◌, ◌<◌, ◌≤◌, leb}
use Rattle.lists.specs.Fold.{flat}
use Rattle.meld.specs.declared.Meld.{Meld}
use Rattle.hand.specs.Readings.{less_pair, meld_lists}
use Rattle.search.specs.Slots.{records_with}
use Rattle.decompose.specs.declared.PairPlaces.{PairPlaces}

-- the lists of n closed melds that use up the counts without the pair p, where there are two of it
unfoldable pub with_pair : ℕ → (ℕ → ℕ) → ℕ → List (List Meld)
with_pair n c p = cond (leb 2 (c p)) (meld_lists n (less_pair c p)) []

-- the lists found with each of the pairs ps, one after the other
unfoldable pub found_with : ℕ → (ℕ → ℕ) → List ℕ → List (List Meld)
found_with n c ps = flat (with_pair n c) ps

-- their records, the melds put among the slots
unfoldable pub records_over : ℕ → (ℕ → ℕ) → List ℕ → List ℕ → List ℕ
records_over n c slots ps = flat (λ p. records_with p slots (with_pair n c p)) ps

-- nothing is found with a pair at any tile but first, first + 3 and so on below end
pub record OnlyAt (c : ℕ → ℕ) (places : PairPlaces) : Type 0 where
  pub starts : places.first ≤ 34
  pub ends : places.end ≤ 34
  pub before : (n p : ℕ) → p < places.first → p < 34 → with_pair n c p ≡ []
  pub between : (n p : ℕ) → (p % 3 ≡ places.first % 3 → ⊥) → p < 34 → with_pair n c p ≡ []
  pub behind : (n p : ℕ) → places.end ≤ p → p < 34 → with_pair n c p ≡ []
