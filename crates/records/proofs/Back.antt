-- Records read back: what is read from the bytes of records are the readings that they stand for; and picking a reading by its
-- number is reading the record at that place. Assumes nothing.
use mathlib.Core.Path.{◌≡◌, refl, sym, subst, ap, ap₂, ◌∙◌}
use mathlib.Core.List.{List, [], ◌∷◌, ◌++◌, append_assoc, Memᴰ}
use Prim.Native.Nat.{ℕ, zero, suc, ◌+◌, ◌<◌}
use native.Mathlib.Omega.{arith}
use lib.ListN.{length, length-append}
use lib.Seq.{get_or-append-add}
use Rattle.meld.specs.declared.Meld.{Meld}
use Rattle.meld.specs.Meld.{meld}
use Rattle.meld.proofs.Melds.{meld_path}
use Rattle.hand.specs.Reading.{Reading, pairs, orphans, standard}
use Rattle.hand.specs.Records.{record_of, records}
use Rattle.lists.proofs.Elements.{four}
use Rattle.structure.proofs.Seven.{seven}
use Rattle.records.specs.Buffer.{byte_at, meld_at, tiles_at, reading_at, readings_in, place_of}
use Rattle.records.specs.Pick.{pick_at}

-- a reading whose record has the length that its kind says: seven pairs, four melds
abbrev pub Sized : Reading → Type 0
Sized (pairs ps) = length ps ≡ 7
Sized (orphans p) = Unit {0}
Sized (standard p ms) = length ms ≡ 4

-- ---- behind other bytes the same is read
module _ (front s : List ℕ) where
  byte_behind : (i k : ℕ) → i ≡ length front + k → byte_at (front ++ s) i ≡ byte_at s k
  byte_behind i k e = ap (byte_at (front ++ s)) e ∙ get_or-append-add front s k 0

  meld_behind : (k : ℕ) → meld_at (front ++ s) (length front + k) ≡ meld_at s k
  meld_behind k = meld_path (byte_behind _ k refl) (byte_behind _ (k + 1) (omega arith)) (byte_behind _ (k + 2) (omega arith))

  tiles_behind : (k : ℕ) → tiles_at (front ++ s) (length front + k) ≡ tiles_at s k
  tiles_behind k =
      simp (
        byte_behind (length front + k) k (omega arith),
        byte_behind (length front + k + 1) (k + 1) (omega arith),
        byte_behind (length front + k + 2) (k + 2) (omega arith),
        byte_behind (length front + k + 3) (k + 3) (omega arith),
        byte_behind (length front + k + 4) (k + 4) (omega arith),
        byte_behind (length front + k + 5) (k + 5) (omega arith),
        byte_behind (length front + k + 6) (k + 6) (omega arith),
      )

  pub reading_behind : reading_at (front ++ s) (length front) ≡ reading_at s 0
  unfolding reading_at
  reading_behind =
      simp (tiles_behind 4, meld_behind 5, meld_behind 8, meld_behind 11, meld_behind 14)
      (simp (byte_behind (length front + 2) 2 refl, byte_behind (length front + 4) 4 refl))

-- ---- one record
-- at the start of a record and any bytes stands its reading, and its first byte is its length
abbrev Begins : Reading → List ℕ → Type 0
Begins r rest = (reading_at (record_of r ++ rest) 0 ≡ r) × (byte_at (record_of r ++ rest) 0 ≡ length (record_of r))

pairs_begin : (ps rest : List ℕ) → length ps ≡ 7 → Begins (pairs ps) rest
unfolding record_of reading_at
pairs_begin ps rest h = subst (λ (l : List ℕ). Begins (pairs l) rest) (sym (seven ps 0 h)) (refl, refl)

orphans_begin : (p : ℕ) (rest : List ℕ) → Begins (orphans p) rest
unfolding record_of reading_at
orphans_begin p rest = (refl, refl)

standard_begins : (p : ℕ) (ms : List Meld) (rest : List ℕ) → length ms ≡ 4 → Begins (standard p ms) rest
unfolding record_of reading_at
standard_begins p ms rest h = subst (λ (l : List Meld). Begins (standard p l) rest) (sym (four ms (meld 0 0) h)) (refl, refl)

begins : (r : Reading) (rest : List ℕ) → Sized r → Begins r rest
begins (pairs ps) rest h = pairs_begin ps rest h
begins (orphans p) rest h = orphans_begin p rest
begins (standard p ms) rest h = standard_begins p ms rest h

-- ---- records one after the other
-- as many readings as records
pub read_many : (b : List ℕ) (m i : ℕ) → length (readings_in b m i) ≡ m
read_many b zero i = refl
read_many b (suc m) i = ap suc (read_many b m (i + byte_at b i))

-- the record's own bytes go before the rest
split : (front : List ℕ) (r : Reading) (rs : List Reading) (rest : List ℕ) →
    front ++ (records (r ∷ rs) ++ rest) ≡ front ++ (record_of r ++ (records rs ++ rest))
split front r rs rest = rw append_assoc

-- the next record begins where this one ends
next_place : (front : List ℕ) (r : Reading) (rest : List ℕ) → Begins r rest →
    length front + byte_at (front ++ (record_of r ++ rest)) (length front) ≡ length (front ++ record_of r)
next_place front r rest h =
    omega (arith, byte_behind front (record_of r ++ rest) (length front) 0 (omega arith), h.1, length-append front (record_of r))

-- records behind any bytes read back
pub read_behind :
    (rs : List Reading) (front rest : List ℕ) → ((r : Reading) → Memᴰ r rs → Sized r)
    → readings_in (front ++ (records rs ++ rest)) (length rs) (length front) ≡ rs
read_behind [] front rest sized = refl
read_behind (r ∷ rs) front rest sized =
    let left = records rs ++ rest in
    let first = begins r left (sized r (Memᴰ.head refl)) in
    let here = reading_behind front (record_of r ++ left) ∙ first.0 in
    let later = read_behind rs (front ++ record_of r) rest (λ q i. sized q (Memᴰ.tail i)) in
    let b = front ++ (record_of r ++ left) in
    let behind : readings_in b (length rs) (length front + byte_at b (length front)) ≡ rs =
    ap (λ (i : ℕ). readings_in b (length rs) i) (next_place front r left first)
    ∙ ap (λ (l : List ℕ). readings_in l (length rs) (length (front ++ record_of r))) (sym (append_assoc front (record_of r) left))
    ∙ later in
    subst (λ (l : List ℕ). readings_in l (suc (length rs)) (length front) ≡ r ∷ rs) (sym (split front r rs rest)) (ap₂ ◌∷◌ here behind)

pub read_back :
    (rs : List Reading) (rest : List ℕ) → ((r : Reading) → Memᴰ r rs → Sized r) → readings_in (records rs ++ rest) (length rs) 0 ≡ rs
read_back rs rest sized = read_behind rs [] rest sized

-- picking by number among the readings of records is reading the record at that place
module _ {B : Type 0} (z : B) (f : Reading → B) (b : List ℕ) where
  pub picked : (m n i : ℕ) → n < m → pick_at z f (readings_in b m i) n ≡ f (reading_at b (place_of b n i))
  picked zero n i h = absurd (omega arith)
  picked (suc m) zero i h = refl
  picked (suc m) (suc n) i h = picked m n (i + byte_at b i) (omega arith)
