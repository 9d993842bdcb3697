-- The lists of melds at the lowest tile in two parts, with the sequence and with the triplet: how many there are, and their
-- records in the buffer. Assumes nothing.
use mathlib.Core.Path.{◌≡◌, refl, sym, ap, ◌∙◌, subst}
use mathlib.Core.Bool.{Bool, true, false, not, cond}
use mathlib.Core.List.{List, [], ◌∷◌, ◌++◌, map, append_assoc, append-nil}
use Prim.Native.Nat.{ℕ, zero, suc, ◌+◌, ◌-◌, ◌≤◌}
use native.Mathlib.Nat.{le_trans, pow-le-pow_right}
use native.Mathlib.Omega.{arith}
use lib.Dec.{lit<, eqb, eqb-suc-zero}
use Rattle.std.specs.Int.{from_bool}
use lib.ListN.{length, length-append, length-map}
use lib.Seq.{sets}
use Rattle.lists.proofs.Finite.{true→t}
use Rattle.meld.specs.declared.Meld.{Meld}
use Rattle.meld.specs.Meld.{key, meld}
use Rattle.hand.specs.Readings.{meld_lists, minus}
use Rattle.hand.specs.Records.{standard_bytes}
use Rattle.hand.proofs.Lowest.{by_lowest, few, none_left, none_left_needed, some_left}
use Rattle.search.specs.Remaining.{Split, left, Fair, has_none_left, AtLowest, has_sequence, has_triplet}
use Rattle.search.specs.Slots.{put, put_all, slot_record, records_with}
use Rattle.search.proofs.Left.{lowest_at}
use Rattle.search.proofs.Slots.{record_length, sets_append}

-- the lists of one meld more that go on from the meld m, where it can be taken
unfoldable pub part : Bool → ℕ → Meld → (ℕ → ℕ) → List (List Meld)
part b n m c = cond b (map (λ l. m ∷ l) (meld_lists n (minus c m))) []

-- at the lowest tile: those with the sequence, and those with the triplet
abbrev pub first : ℕ → Split → List (List Meld)
first n t = part (has_sequence t) (n - 1) (meld t.tile 0) (left t)

abbrev pub second : ℕ → Split → List (List Meld)
second n t = part (has_triplet t) (n - 1) (meld t.tile 2) (left t)

-- t are the tiles of s at their lowest, and n melds are to be found among them, one at least
pub record Going (n : ℕ) (s t : Split) : Type 0 where
  pub some : n ≡ 0 → ⊥
  pub lowest : AtLowest t
  pub same : left t ≡ left s

parts_suc : (n : ℕ) (t : Split) → AtLowest t
    → meld_lists (suc n) (left t) ≡ part (has_sequence t) n (meld t.tile 0) (left t) ++ part (has_triplet t) n (meld t.tile 2) (left t)
unfolding part has_sequence has_triplet
parts_suc n t a = by_lowest n (left t) t.tile (lowest_at t a) (a.fair.few t.tile)

parts_at : (n : ℕ) (t : Split) → (n ≡ 0 → ⊥) → AtLowest t → meld_lists n (left t) ≡ first n t ++ second n t
parts_at zero t f a = absurd (f refl)
parts_at (suc n) t f a =
    let k : n ≡ suc n - 1 = omega arith in
    parts_suc n t a
    ∙ ap (λ (i : ℕ). part (has_sequence t) i (meld t.tile 0) (left t) ++ part (has_triplet t) i (meld t.tile 2) (left t)) k

pub parts : (n : ℕ) (s t : Split) → Going n s t → meld_lists n (left s) ≡ first n t ++ second n t
parts n s t g = ap (meld_lists n) (sym g.same) ∙ parts_at n t g.some g.lowest

part_taken : (b : Bool) (n : ℕ) (m : Meld) (c d : ℕ → ℕ) → b ≡ true → d ≡ minus c m → part b n m c ≡ map (λ l. m ∷ l) (meld_lists n d)
unfolding part
part_taken b n m c d e f =
    ap (λ (x : Bool). cond x (map (λ l. m ∷ l) (meld_lists n (minus c m))) []) e
    ∙ ap (λ (x : ℕ → ℕ). map (λ l. m ∷ l) (meld_lists n x)) (sym f)

part_left : (b : Bool) (n : ℕ) (m : Meld) (c : ℕ → ℕ) → b ≡ false → part b n m c ≡ []
unfolding part
part_left b n m c e = ap (λ (x : Bool). cond x (map (λ l. m ∷ l) (meld_lists n (minus c m))) []) e

-- ---- nothing is left, or no meld is to be found

module _ (n : ℕ) (s : Split) where
  pub at_end : n ≡ 0 → has_none_left s ≡ true → meld_lists n (left s) ≡ [] ∷ []
  unfolding has_none_left
  at_end z e = ap (λ (k : ℕ). meld_lists k (left s)) z ∙ none_left (left s) (true→t _ e)

  pub too_few : (n ≡ 0 → ⊥) → has_none_left s ≡ true → meld_lists n (left s) ≡ []
  unfolding has_none_left
  too_few f e =
      let k : n ≡ suc (n - 1) = omega arith in
      ap (λ (i : ℕ). meld_lists i (left s)) k ∙ none_left_needed (n - 1) (left s) (true→t _ e)

  pub too_many : n ≡ 0 → has_none_left s ≡ false → meld_lists n (left s) ≡ []
  unfolding has_none_left
  too_many z e = ap (λ (k : ℕ). meld_lists k (left s)) z ∙ some_left (left s) (true→t _ (ap not e))

-- ---- how many

pub at_most_16 : (n : ℕ) (s : Split) → n ≤ 4 → Fair s → length (meld_lists n (left s)) ≤ 16
at_most_16 n s h f = le_trans (few n (left s) (λ u i. f.few u)) (pow-le-pow_right {n = 2} (lit< tt) h)

-- nothing is left: one list of no melds, and none of more
pub counted_empty : (n r : ℕ) (s : Split) → r ≡ from_bool (eqb n 0) → has_none_left s ≡ true → (r ≡ length (meld_lists n (left s))) × (r ≤ 16)
counted_empty zero r s e h = (e ∙ sym (ap length (at_end 0 s refl h)), omega arith)
counted_empty (suc n) r s e h =
    let none : r ≡ 0 = rw eqb-suc-zero at e in
    (none ∙ sym (ap length (too_few (suc n) s (λ i. omega arith) h)), omega arith)

pub counted_part : (b : Bool) (n : ℕ) (m : Meld) (c d : ℕ → ℕ) (r : ℕ) → b ≡ true → d ≡ minus c m → r ≡ length (meld_lists n d)
    → r ≡ length (part b n m c)
counted_part b n m c d r e f h = h ∙ sym (ap length (part_taken b n m c d e f) ∙ length-map (meld_lists n d) (λ l. m ∷ l))

pub counted_none : (b : Bool) (n : ℕ) (m : Meld) (c : ℕ → ℕ) → b ≡ false → 0 ≡ length (part b n m c)
counted_none b n m c e = sym (ap length (part_left b n m c e))

pub counted_all : (n : ℕ) (s t : Split) (x y r : ℕ) → n ≤ 4 → Fair s → Going n s t → x ≡ length (first n t) → y ≡ length (second n t) → r ≡ x + y
    → (r ≡ length (meld_lists n (left s))) × (r ≤ 16)
counted_all n s t x y r h f g i j k =
    let e = ap length (parts n s t g) ∙ length-append (first n t) (second n t) in
    (omega (arith, e), omega (arith, e, at_most_16 n s h f))

-- ---- records

records_append : (p : ℕ) (slots : List ℕ) (a b : List (List Meld)) → records_with p slots (a ++ b) ≡ records_with p slots a ++ records_with p slots b
unfolding records_with
records_append p slots [] b = refl
records_append p slots (x ∷ a) b =
    let r = slot_record p (put_all (map key x) slots) in
    ap (λ (l : List ℕ). r ++ l) (records_append p slots a b) ∙ sym (append_assoc r (records_with p slots a) (records_with p slots b))

records_map : (p : ℕ) (m : Meld) (slots : List ℕ) (a : List (List Meld))
    → records_with p slots (map (λ l. m ∷ l) a) ≡ records_with p (put (key m) slots) a
unfolding records_with put_all
records_map p m slots [] = refl
records_map p m slots (x ∷ a) = ap (λ (l : List ℕ). slot_record p (put_all (map key x) (put (key m) slots)) ++ l) (records_map p m slots a)

-- the records of the lists that go on from a meld, as the code hands them on: its number k, what is left d, the slots with k
part_records : (p : ℕ) (slots : List ℕ) (b : Bool) (n k : ℕ) (m : Meld) (c d : ℕ → ℕ) (slots' : List ℕ) → b ≡ true → d ≡ minus c m → k ≡ key m
    → slots' ≡ put k slots
    → records_with p slots (part b n m c) ≡ records_with p slots' (meld_lists n d)
part_records p slots b n k m c d slots' e f g h =
    ap (records_with p slots) (part_taken b n m c d e f)
    ∙ records_map p m slots (meld_lists n d)
    ∙ ap (λ (l : List ℕ). records_with p l (meld_lists n d)) (ap (λ (x : ℕ). put x slots) (sym g) ∙ sym h)

no_records : (p : ℕ) (slots : List ℕ) (l : List (List Meld)) → l ≡ [] → records_with p slots l ≡ []
unfolding records_with
no_records p slots l e = ap (records_with p slots) e

one_record : (p : ℕ) (slots : List ℕ) (l : List (List Meld)) → l ≡ [] ∷ [] → records_with p slots l ≡ slot_record p slots
unfolding records_with put_all
one_record p slots l e = ap (records_with p slots) e ∙ append-nil (slot_record p slots)

-- `out` is `out₀` with the records of the lists from `at` on, and `pos` the place behind them
pub record Wrote (p : ℕ) (slots out₀ : List ℕ) (at : ℕ) (l : List (List Meld)) (out : List ℕ) (pos : ℕ) : Type 0 where
  pub place : pos ≡ at + length (records_with p slots l)
  pub bytes : out ≡ sets out₀ at (records_with p slots l)
  pub long : length out ≡ length out₀

module _ (p : ℕ) (slots out₀ : List ℕ) (at : ℕ) where
  wrote_as : (l : List (List Meld)) (w out : List ℕ) (pos : ℕ) → records_with p slots l ≡ w → pos ≡ at + length w → out ≡ sets out₀ at w
      → length out ≡ length out₀
      → Wrote p slots out₀ at l out pos
  wrote_as l w out pos e f g h = record {
    place = f ∙ ap (λ (x : List ℕ). at + length x) (sym e);
    bytes = g ∙ ap (sets out₀ at) (sym e);
    long = h;
  }

  -- nothing
  pub wrote_none : (l : List (List Meld)) (out : List ℕ) (pos : ℕ) → l ≡ [] → out ≡ out₀ → pos ≡ at → Wrote p slots out₀ at l out pos
  wrote_none l out pos e f g = wrote_as l [] out pos (no_records p slots l e) (omega arith) f (ap length f)

  pub left_out : (b : Bool) (n : ℕ) (m : Meld) (c : ℕ → ℕ) (out : List ℕ) (pos : ℕ) → b ≡ false → out ≡ out₀ → pos ≡ at
      → Wrote p slots out₀ at (part b n m c) out pos
  left_out b n m c out pos e f g = wrote_none (part b n m c) out pos (part_left b n m c e) f g

  -- the one record where no meld is to be found
  pub end_room : (l : List (List Meld)) → l ≡ [] ∷ [] → length slots ≡ 4 → length (records_with p slots l) ≡ standard_bytes
  end_room l e h = ap length (one_record p slots l e) ∙ record_length p slots h

  pub wrote_end : (l : List (List Meld)) (out : List ℕ) → l ≡ [] ∷ [] → length slots ≡ 4 → out ≡ sets out₀ at (slot_record p slots)
      → length out ≡ length out₀
      → Wrote p slots out₀ at l out (at + standard_bytes)
  wrote_end l out e h f g =
      wrote_as l (slot_record p slots) out (at + standard_bytes) (one_record p slots l e) (ap (λ (k : ℕ). at + k) (sym (record_length p slots h))) f g

  -- those that go on from a meld
  pub wrote_part : (b : Bool) (n k : ℕ) (m : Meld) (c d : ℕ → ℕ) (slots' out : List ℕ) (pos : ℕ)
      → b ≡ true → d ≡ minus c m → k ≡ key m → slots' ≡ put k slots
      → pos ≡ at + length (records_with p slots' (meld_lists n d)) → out ≡ sets out₀ at (records_with p slots' (meld_lists n d))
      → length out ≡ length out₀
      → Wrote p slots out₀ at (part b n m c) out pos
  wrote_part b n k m c d slots' out pos e f g h i j l =
      wrote_as (part b n m c) _ out pos (part_records p slots b n k m c d slots' e f g h) i j l

-- one after the other
wrote_both : (p : ℕ) (slots out₀ out₁ out₂ : List ℕ) (at pos₁ pos₂ : ℕ) (x y : List (List Meld))
    → Wrote p slots out₀ at x out₁ pos₁ → Wrote p slots out₁ pos₁ y out₂ pos₂ → Wrote p slots out₀ at (x ++ y) out₂ pos₂
wrote_both p slots out₀ out₁ out₂ at pos₁ pos₂ x y v w =
    let a = records_with p slots x in
    let b = records_with p slots y in
    wrote_as p slots out₀ at (x ++ y) (a ++ b) out₂ pos₂
    (records_append p slots x y)
    (omega (arith, v.place, w.place, length-append a b))
    (w.bytes ∙ ap (λ (l : List ℕ). sets l pos₁ b) v.bytes ∙ ap (λ (k : ℕ). sets (sets out₀ at a) k b) v.place ∙ sym (sets_append a b out₀ at))
    (w.long ∙ v.long)

module _ (p : ℕ) (slots out₀ : List ℕ) (at n : ℕ) (s t : Split) (g : Going n s t) where
  -- the whole of a search with melds to find
  pub wrote_all : (out₁ out₂ : List ℕ) (pos₁ pos₂ : ℕ) → Wrote p slots out₀ at (first n t) out₁ pos₁ → Wrote p slots out₁ pos₁ (second n t) out₂ pos₂
      → Wrote p slots out₀ at (meld_lists n (left s)) out₂ pos₂
  wrote_all out₁ out₂ pos₁ pos₂ v w =
      subst (λ (l : List (List Meld)). Wrote p slots out₀ at l out₂ pos₂) (sym (parts n s t g))
      (wrote_both p slots out₀ out₁ out₂ at pos₁ pos₂ (first n t) (second n t) v w)

  -- there is room for each part
  module _ (room : at + length (records_with p slots (meld_lists n (left s))) ≤ length out₀) (k : ℕ) (d : ℕ → ℕ)
      (slots' : List ℕ) (h : slots' ≡ put k slots) where
    both_parts :
        length (records_with p slots (meld_lists n (left s))) ≡ length (records_with p slots (first n t)) + length (records_with p slots (second n t))
    both_parts =
        ap (λ (l : List (List Meld)). length (records_with p slots l)) (parts n s t g)
        ∙ ap length (records_append p slots (first n t) (second n t))
        ∙ length-append (records_with p slots (first n t)) (records_with p slots (second n t))

    pub room_first : has_sequence t ≡ true → d ≡ minus (left t) (meld t.tile 0) → k ≡ key (meld t.tile 0)
        → at + length (records_with p slots' (meld_lists (n - 1) d)) ≤ length out₀
    room_first e f i =
        omega (arith, room, both_parts, ap length (part_records p slots (has_sequence t) (n - 1) k (meld t.tile 0) (left t) d slots' e f i h))

    pub room_second : has_triplet t ≡ true → d ≡ minus (left t) (meld t.tile 2) → k ≡ key (meld t.tile 2)
        → (out₁ : List ℕ) (pos₁ : ℕ) → Wrote p slots out₀ at (first n t) out₁ pos₁
        → pos₁ + length (records_with p slots' (meld_lists (n - 1) d)) ≤ length out₁
    room_second e f i out₁ pos₁ w =
        omega (
          arith,
          room,
          both_parts,
          w.place,
          w.long,
          ap length (part_records p slots (has_triplet t) (n - 1) k (meld t.tile 2) (left t) d slots' e f i h),
        )
