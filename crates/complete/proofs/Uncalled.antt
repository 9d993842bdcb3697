-- Where something is called, each listed reading is a pair and melds. Assumes nothing.
use mathlib.Core.Path.{◌≡◌}
use mathlib.Core.List.{List, [], ◌++◌, Memᴰ}
use Prim.Native.Nat.{ℕ}
use Rattle.meld.specs.declared.Meld.{Meld}
use Rattle.meld.specs.Meld.{sorted}
use Rattle.hand.specs.Reading.{Reading, standard}
use Rattle.hand.specs.Readings.{readings}
use Rattle.complete.proofs.Listed.{Listed, as_pairs, as_orphans, as_standard, listed}

pub called_standard :
    (c : ℕ → ℕ) (k : List Meld) → (k ≡ [] → ⊥) → (r : Reading) → Memᴰ r (readings c k)
    → (p : ℕ) × (ms : List Meld) × (r ≡ standard p ms)
called_standard c k called r i = go (listed c k i)
  where
    go : Listed c k r → (p : ℕ) × (ms : List Meld) × (r ≡ standard p ms)
    go (as_pairs u s e) = absurd (called u)
    go (as_orphans u p j s e) = absurd (called u)
    go (as_standard p j two l f e) = (p, sorted (k ++ l), e)
