-- What stands in the list of readings, part by part. Assumes nothing.
use mathlib.Core.Path.{◌≡◌, refl, sym, ap}
use mathlib.Core.Logic.{⊎_elim}
use mathlib.Core.List.Memᴰ
use mathlib.Core.List.{List, [], ◌∷◌, ◌++◌, map, Memᴰ}
use Prim.Native.Nat.{ℕ, ◌-◌, ◌<◌, ◌≤◌}
use native.Mathlib.Omega.{arith}
use lib.Dec.{T, leb, leb→le}
use lib.ListN.{length}
use Rattle.lists.specs.Fold.{flat, keep}
use Rattle.lists.proofs.Finite.{and_left}
use Rattle.lists.proofs.Members.{flat_mem, in_cond, in_single}
use Rattle.lists.proofs.Kept.{kept}
use Rattle.tile.specs.Tile.{tiles}
use Rattle.meld.specs.declared.Meld.{Meld}
use Rattle.meld.specs.Meld.{is_meld, hand_melds, melds, sorted}
use Rattle.meld.proofs.Melds.{in_melds, is_hand_meld_holds}
use Rattle.hand.specs.Reading.{Reading, pairs, orphans, standard}
use Rattle.hand.specs.Readings.{find, meld_lists, less_pair, standards_at, twos, is_pairs, seven_pairs, is_orphans, thirteen_orphans, uncalled, readings}
use Rattle.hand.specs.Records.{kind_of}
use Rattle.hand.proofs.Search.{Found, find_sound}

-- melds of a hand are melds
pub hand_melds_holds : (x : Meld) → Memᴰ x hand_melds → Memᴰ x melds
hand_melds_holds x i = in_melds x (and_left (is_meld x) _ (is_hand_meld_holds x i))

-- ---- the three parts
-- melds of the hand for a standard reading with the pair p and n melds
abbrev pub Hand : ℕ → (ℕ → ℕ) → ℕ → List Meld → Type 0
Hand n c p l = Found n (less_pair c p) hand_melds l

-- why a reading is listed: as seven pairs, as thirteen orphans, or as a pair and melds
pub data Listed (c : ℕ → ℕ) (k : List Meld) (r : Reading) : Type 0 where
  as_pairs : k ≡ [] → T (is_pairs c) → r ≡ pairs (twos c) → Listed c k r
  as_orphans : k ≡ [] → (p : ℕ) → Memᴰ p tiles → T (is_orphans c p) → r ≡ orphans p → Listed c k r
  as_standard : (p : ℕ) → Memᴰ p tiles → 2 ≤ c p → (l : List Meld) → Hand (4 - length k) c p l → r ≡ standard p (sorted (k ++ l)) → Listed c k r

pub in_uncalled : (k : List Meld) (l : List Reading) {r : Reading} → Memᴰ r (uncalled k l) → (k ≡ []) × Memᴰ r l
in_uncalled [] l i = (refl, i)
in_uncalled (m ∷ k) l i = absurd (Memᴰ.not-nil i)

pub in_seven_pairs_holds : (c : ℕ → ℕ) {r : Reading} → Memᴰ r (seven_pairs c) → T (is_pairs c) × (r ≡ pairs (twos c))
unfolding seven_pairs
in_seven_pairs_holds c i = ((in_cond (is_pairs c) (pairs (twos c) ∷ []) i).0, in_single (is_pairs c) i)

pub in_orphans : (c : ℕ → ℕ) {r : Reading} → Memᴰ r (thirteen_orphans c) → (p : ℕ) × Memᴰ p tiles × T (is_orphans c p) × (r ≡ orphans p)
unfolding thirteen_orphans
in_orphans c i =
    let a = Memᴰ.of_map orphans (keep (is_orphans c) tiles) i in
    let b = kept (is_orphans c) tiles a.1 in
    (a.0, b.0, b.1, sym a.2)

pub in_standards_at_holds :
    (c : ℕ → ℕ) (k : List Meld) (p : ℕ) {r : Reading} → Memᴰ r (standards_at c k p)
    → (2 ≤ c p) × (l : List Meld) × Hand (4 - length k) c p l × (r ≡ standard p (sorted (k ++ l)))
unfolding standards_at meld_lists
in_standards_at_holds c k p i =
    let a = in_cond (leb 2 (c p)) (map (λ l. standard p (sorted (k ++ l))) (find (4 - length k) (less_pair c p) hand_melds)) i in
    let b = Memᴰ.of_map (λ l. standard p (sorted (k ++ l))) (find (4 - length k) (less_pair c p) hand_melds) a.1 in
    (leb→le 2 (c p) a.0, b.0, find_sound (4 - length k) (less_pair c p) hand_melds b.0 b.1, sym b.2)

-- ---- their kinds
module _ (c : ℕ → ℕ) {r : Reading} where
  pub seven_kind : Memᴰ r (seven_pairs c) → kind_of r ≡ 1
  seven_kind i = ap kind_of (in_seven_pairs_holds c i).1

  pub orphan_kind : Memᴰ r (thirteen_orphans c) → kind_of r ≡ 2
  orphan_kind i = ap kind_of (in_orphans c i).3

  pub special_kind : Memᴰ r (seven_pairs c ++ thirteen_orphans c) → kind_of r < 3
  special_kind i =
      ⊎_elim (λ j. let e = seven_kind j in omega arith) (λ j. let e = orphan_kind j in omega arith) (Memᴰ.append_cases (seven_pairs c) i)

  pub standard_kind : (k : List Meld) (p : ℕ) → Memᴰ r (standards_at c k p) → kind_of r ≡ 3
  standard_kind k p i = ap kind_of (in_standards_at_holds c k p i).3

-- ---- all readings
module _ (c : ℕ → ℕ) (k : List Meld) {r : Reading} where
  special : Memᴰ r (uncalled k (seven_pairs c ++ thirteen_orphans c)) → Listed c k r
  special i =
      let a = in_uncalled k (seven_pairs c ++ thirteen_orphans c) i in
      ⊎_elim (λ j. let b = in_seven_pairs_holds c j in as_pairs a.0 b.0 b.1)
      (λ j. let b = in_orphans c j in as_orphans a.0 b.0 b.1 b.2 b.3)
      (Memᴰ.append_cases (seven_pairs c) a.1)

  usual : Memᴰ r (flat (standards_at c k) tiles) → Listed c k r
  usual i =
      let a = flat_mem (standards_at c k) tiles i in
      let b = in_standards_at_holds c k a.0 a.2 in
      as_standard a.0 a.1 b.0 b.1 b.2 b.3

  -- a reading that is listed is listed as one of the three
  pub listed : Memᴰ r (readings c k) → Listed c k r
  unfolding readings
  listed i = ⊎_elim special usual (Memᴰ.append_cases (uncalled k (seven_pairs c ++ thirteen_orphans c)) i)
