-- A run of stores from a place on: one store, and the rest; what it makes of a list; and a copy, which is such a run. Assumes nothing.
use borrow.Rule.Slice.PartMut.{put_mid}
use mathlib.Core.Path.{◌≡◌, refl, sym, ap, ◌∙◌, ap₂}
use mathlib.Core.List.{List, ◌++◌, append-nil, append_assoc}
use Prim.Native.Nat.{ℕ, suc, ◌+◌, ◌-◌, ◌<◌, ◌≤◌}
use native.Mathlib.Numerals.{add-one}
use native.Mathlib.Omega.{arith}
use lib.ListN.{length, get_or, set, drop, take, drop_of_length-le}
use lib.Seq.{drop-cons, sets, sets-eq}
use Rattle.std.proofs.lemmas.List.Edits.{paste_all}
use Rattle.std.proofs.lemmas.Slice.{put_mid-paste}

module _ (d s : List ℕ) where
  -- what stands in s from i on is stored from p on
  pub sets_next : (p i : ℕ) → i < length s → sets d p (drop i s) ≡ sets (set d p (get_or s i 0)) (p + 1) (drop (i + 1) s)
  sets_next p i h =
      ap (sets d p) (drop-cons s i 0 h)
      ∙ ap (λ (k : ℕ). sets (set d p (get_or s i 0)) k (drop (suc i) s)) (sym (add-one p))
      ∙ ap (λ (k : ℕ). sets (set d p (get_or s i 0)) (p + 1) (drop k s)) (sym (add-one i))

  -- where nothing is stored yet, the whole of s is left
  pub sets_start : (at i : ℕ) → i ≡ 0 → sets d (at + i) (drop i s) ≡ sets d at s
  sets_start at i h =
      let e : at + i ≡ at = omega (arith, h) in
      ap₂ (λ (k j : ℕ). sets d k (drop j s)) e h

  -- the whole of s is stored from at on
  pub sets_turn : (at i : ℕ) → i < length s → sets d (at + i) (drop i s) ≡ sets (set d (at + i) (get_or s i 0)) (at + (i + 1)) (drop (i + 1) s)
  sets_turn at i h =
      let e : at + i + 1 ≡ at + (i + 1) = omega arith in
      sets_next (at + i) i h ∙ ap (λ (k : ℕ). sets (set d (at + i) (get_or s i 0)) k (drop (i + 1) s)) e

  -- stored from the first place on, s stands first, and behind it what d had there
  pub sets_first : length s ≤ length d → sets d 0 s ≡ s ++ drop (length s) d
  sets_first h =
      let e : 0 + length s ≡ length s = omega arith in
      sets-eq s d 0 (omega arith) ∙ ap (λ (k : ℕ). s ++ drop k d) e

-- ---- a copy: past its end nothing is left to store, and the whole of it stands in place of what was there
pub copy_end : (d s : List ℕ) (i : ℕ) → length s ≤ i → d ≡ sets d i (drop i s)
copy_end d s i h = sym (ap (λ (l : List ℕ). sets d i l) (drop_of_length-le s {i = i} h))

pub copy_whole : (d s : List ℕ) → length d ≡ length s → sets d 0 s ≡ s
copy_whole d s e =
    sets_first d s (omega arith) ∙ ap (λ (l : List ℕ). s ++ l) (drop_of_length-le d {i = length s} (omega arith)) ∙ append-nil s

-- a part of d from at on that was made s holds what would be stored there
pub copied : (d s part : List ℕ) (at end : ℕ) → part ≡ s → end ≡ at + length s → end ≤ length d → put_mid at (end - at) d part ≡ sets d at s
copied d s part at end same e fits =
    put_mid-paste at (end - at) d part s (length s) same (omega arith) refl
    ∙ paste_all d at s (length s) refl
    ∙ sym (sets-eq s d at (omega arith) ∙ append_assoc (take at d) s (drop (at + length s) d))
