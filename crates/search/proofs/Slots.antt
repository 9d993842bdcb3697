-- Four slots, the bytes of their record, and runs of stores. Assumes nothing.
use Rattle.std.proofs.Common.{ℕ, suc, ◌≡◌, ◌+◌, min, max, cond, leb, List, [], ◌∷◌, ◌++◌, length, get_or, set, sym, ap, ◌∙◌, add-zero, arith, rules, tests}
use Rattle.std.proofs.lemmas.List.Edits.{sets}
use Rattle.lists.proofs.Elements.{four}
use Rattle.meld.specs.declared.Meld.{Meld}
use Rattle.hand.specs.Records.{standard_bytes}
use Rattle.search.specs.Slots.{put, meld_of, slot_bytes, slot_record}
use Prim.Native.Nat.{◌/◌, ◌%◌}

-- the lower and the higher of two numbers
lower : (x y : ℕ) → cond (leb x y) x y ≡ min x y
lower x y = search (tests, rules)

higher : (x y : ℕ) → cond (leb x y) y x ≡ max x y
higher x y = search (tests, rules)

-- a number put in from slot to slot: y, z, w are what is handed on
pub put_is : (x y z w p q r s : ℕ) (l : List ℕ) → length l ≡ 4
    → y ≡ max x (get_or l 0 0)
    → z ≡ max y (get_or l 1 0)
    → w ≡ max z (get_or l 2 0)
    → p ≡ min x (get_or l 0 0)
    → q ≡ min y (get_or l 1 0)
    → r ≡ min z (get_or l 2 0)
    → s ≡ min w (get_or l 3 0)
    → p ∷ q ∷ r ∷ s ∷ [] ≡ put x l
unfolding put
put_is x y z w p q r s l h e f g i j k m =
    let u = ap (put x) (four l 0 h) in
    let v = simp (lower, higher) at u in
    cc

-- the bytes of a record, slot by slot
pub four_bytes : (p : ℕ) (l : List ℕ) → length l ≡ 4
    → slot_record p l ≡ standard_bytes ∷ 0 ∷ 3 ∷ 0 ∷ p
    ∷ get_or l 0 0 / 32 % 256 ∷ get_or l 0 0 / 4 % 8 ∷ get_or l 0 0 % 4
    ∷ get_or l 1 0 / 32 % 256 ∷ get_or l 1 0 / 4 % 8 ∷ get_or l 1 0 % 4
    ∷ get_or l 2 0 / 32 % 256 ∷ get_or l 2 0 / 4 % 8 ∷ get_or l 2 0 % 4
    ∷ get_or l 3 0 / 32 % 256 ∷ get_or l 3 0 / 4 % 8 ∷ get_or l 3 0 % 4 ∷ []
unfolding slot_record slot_bytes
four_bytes p l e = ap (slot_record p) (four l 0 e)

-- four melds that are those of the slots, byte by byte, are the record's bytes
pub record_is :
    (p : ℕ) (l : List ℕ) → length l ≡ 4 → (a b c d : Meld)
    → a ≡ meld_of (get_or l 0 0) → b ≡ meld_of (get_or l 1 0) → c ≡ meld_of (get_or l 2 0) → d ≡ meld_of (get_or l 3 0)
    → standard_bytes ∷ 0 ∷ 3 ∷ 0 ∷ p ∷ a.tile ∷ a.kind ∷ a.source ∷ b.tile ∷ b.kind ∷ b.source ∷ c.tile ∷ c.kind ∷ c.source ∷ d.tile ∷ d.kind ∷ d.source ∷ []
    ≡ slot_record p l
unfolding slot_record slot_bytes
record_is p l h a b c d e f g i = let u = ap (slot_record p) (four l 0 h) in cc

pub record_length : (p : ℕ) (l : List ℕ) → length l ≡ 4 → length (slot_record p l) ≡ standard_bytes
unfolding slot_record slot_bytes
record_length p l e = ap (λ (s : List ℕ). length (slot_record p s)) (four l 0 e)

-- ---- runs of stores

pub sets_append : (a b d : List ℕ) (i : ℕ) → sets d i (a ++ b) ≡ sets (sets d i a) (i + length a) b
sets_append [] b d i = ap (λ (k : ℕ). sets d k b) (sym (add-zero i))
sets_append (x ∷ a) b d i =
    let e : suc i + length a ≡ i + suc (length a) = omega arith in
    sets_append a b (set d i x) (suc i) ∙ ap (λ (k : ℕ). sets (sets (set d i x) (suc i) a) k b) e

-- what is written, under another name
pub written_as :
    (out₀ out : List ℕ) (at r : ℕ) {x y : List ℕ} → x ≡ y → (r ≡ at + length x) × (out ≡ sets out₀ at x) → (r ≡ at + length y) × (out ≡ sets out₀ at y)
written_as out₀ out at r e w = (w.0 ∙ ap (λ (l : List ℕ). at + length l) e, w.1 ∙ ap (sets out₀ at) e)
