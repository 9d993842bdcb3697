-- Where a `let .. else` on a reading takes its else branch, the reading is of one of the other two kinds, so a fact P that holds of both
-- holds of it. Assumes nothing.
use mathlib.Core.Path.{◌≡◌, refl}
use mathlib.Core.List.{List}
use Prim.Native.Nat.{ℕ}
use Rattle.tile.specs.declared.Tile.{Tile}
use Rattle.meld.specs.declared.Meld.{Meld}
use Rattle.hand.specs.Reading.{Reading, pairs, orphans, standard}
use Rattle.structure.specs.declared.HandStructure.{HandStructure}
use Rattle.structure.specs.declared.HandStructure.TheVariants.{Standard, Chiitoitsu, Kokushi}
use Rattle.structure.specs.Structure.{reading_of}

-- the kind is another than the one named
abbrev pub NotStandard : HandStructure → Type 0
NotStandard h = (p : Tile) (ms : List Meld) → h ≡ Standard p ms → ⊥

abbrev pub NotPairs : HandStructure → Type 0
NotPairs h = (ps : List ℕ) → h ≡ Chiitoitsu ps → ⊥

abbrev pub NotOrphans : HandStructure → Type 0
NotOrphans h = (p : Tile) → h ≡ Kokushi p → ⊥

module _ (P : Reading → Type 0) where
  -- the else of `let HandStructure::Standard { .. } = h`
  pub otherwise : ((ps : List ℕ) → P (pairs ps)) → ((p : ℕ) → P (orphans p)) → (h : HandStructure) → NotStandard h → P (reading_of h)
  otherwise f g (Standard p ms) k = absurd (k p ms refl)
  otherwise f g (Chiitoitsu ps) k = f ps
  otherwise f g (Kokushi p) k = g p.0

  -- the else of `let HandStructure::Chiitoitsu { .. } = h`
  pub otherwise_pairs :
      ((p : ℕ) (ms : List Meld) → P (standard p ms)) → ((p : ℕ) → P (orphans p)) → (h : HandStructure) → NotPairs h → P (reading_of h)
  otherwise_pairs f g (Standard p ms) k = f p.0 ms
  otherwise_pairs f g (Chiitoitsu ps) k = absurd (k ps refl)
  otherwise_pairs f g (Kokushi p) k = g p.0

  -- the else of `let HandStructure::Kokushi { pair } = h`
  pub otherwise_orphans :
      ((p : ℕ) (ms : List Meld) → P (standard p ms)) → ((ps : List ℕ) → P (pairs ps)) → (h : HandStructure) → NotOrphans h → P (reading_of h)
  otherwise_orphans f g (Standard p ms) k = f p.0 ms
  otherwise_orphans f g (Chiitoitsu ps) k = g ps
  otherwise_orphans f g (Kokushi p) k = absurd (k p refl)
