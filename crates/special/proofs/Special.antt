-- Seven pairs and thirteen orphans by the number of kinds that are there, and the bytes of their records. Assumes nothing.
use mathlib.Core.Path.{◌≡◌, refl, sym, ap, ◌∙◌, subst}
use mathlib.Core.Bool.{Bool, true, false, ◌&&◌, ◌||◌, not, cond, and-true, and-false}
use mathlib.Core.List.{List, [], ◌∷◌, ◌++◌, map, append-nil, Memᴰ}
use Prim.Native.Nat.{ℕ, ◌+◌, ◌%◌, ◌<◌, suc, ◌≤◌}
use native.Mathlib.Omega.{arith}
use native.Mathlib.Numerals.{add-four}
use lib.Dec.{T, eqb, eqb→eq}
use lib.Count.{ones}
use lib.ListN.{length, set}
use lib.Seq.{sets}
use borrow.Author.Tests.{eq-eqb, ne_eqb}
use Rattle.std.specs.List.{find}
use Rattle.std.specs.Option.{option_map, option_to_list}
use Rattle.std.specs.Prelude.{Option, Some, None, IfSome}
use Rattle.lists.specs.Fold.{all, count, keep, one, total}
use Rattle.lists.proofs.Finite.{and_left, and_right, and_both, true→t, ¬T→false, or_elim}
use Rattle.lists.proofs.Members.{all_mem, all_intro, map_members}
use Rattle.lists.proofs.Kept.{keep_none, keep_first, find_in}
use Rattle.tile.specs.Tile.{is_terminal_or_honor, tiles}
use Rattle.tile.specs.declared.Tile.{Tile}
use Rattle.tile.proofs.Tiles.{in_tiles, tile_lt, tiles_nodup}
use Rattle.hand.specs.Reading.{pairs, orphans}
use Rattle.hand.specs.Records.{record_of, records, two_bytes}
use Rattle.hand.specs.Readings.{twos, is_pairs, seven_pairs, is_orphans, thirteen_orphans}
use Rattle.hand.proofs.Tests.{seven_twos, orphans_exact, one_doubled}
use Rattle.special.specs.Doubled.{doubled_in}
use Rattle.special.specs.Kinds.{kinds_word}
use Rattle.special.proofs.Words.{there, ones_kinds}
use Rattle.special.proofs.Loops.{rest, keep_end, rest_on}

-- ---- seven pairs

-- the tile t is there twice; twice or not at all
abbrev pub is_two : (ℕ → ℕ) → ℕ → Bool
is_two c t = eqb (c t) 2

abbrev pub none_or_two : (ℕ → ℕ) → ℕ → Bool
none_or_two c t = eqb (c t) 0 || eqb (c t) 2

-- a tile that is there twice or not at all counts as one kind exactly where it is there twice
two_there : (x t : ℕ) (r : List ℕ) → T (eqb x 0 || eqb x 2) → length (cond (eqb x 2) (t ∷ []) [] ++ r) ≡ one (not (eqb x 0)) + length r
two_there x t r h = or_elim (eqb x 0) (eqb x 2) h (λ s. rw (eqb→eq x 0 s) (omega arith)) (λ s. rw (eqb→eq x 2 s) (omega arith))

length_twos : (c : ℕ → ℕ) (l : List ℕ) → T (all (none_or_two c) l) → length (keep (is_two c) l) ≡ count (there c) l
length_twos c [] h = refl
length_twos c (t ∷ l) h =
    two_there (c t) t (keep (is_two c) l) (and_left (none_or_two c t) (all (none_or_two c) l) h)
    ∙ ap (λ (n : ℕ). one (there c t) + n) (length_twos c l (and_right (none_or_two c t) (all (none_or_two c) l) h))

-- a test beside which a number matters only where the test passes
beside : (b : Bool) (m n : ℕ) → (T b → m ≡ n) → b && eqb m 7 ≡ b && eqb n 7
beside true m n f = ap (λ (k : ℕ). eqb k 7) (f tt)
beside false m n f = refl

kinds_there : (c : ℕ → ℕ) (kinds : ℕ) → kinds ≡ kinds_word c → ones kinds ≡ count (there c) tiles
kinds_there c kinds e = ap ones e ∙ ones_kinds c

module _ (c : ℕ → ℕ) (kinds : ℕ) (word : kinds ≡ kinds_word c) where
  pairs_kinds : is_pairs c ≡ all (none_or_two c) tiles && eqb (ones kinds) 7
  pairs_kinds =
      beside (all (none_or_two c) tiles) (length (twos c)) (ones kinds) (λ t. length_twos c tiles t ∙ sym (kinds_there c kinds word))

  -- another number than seven
  pub pairs_none : (ones kinds ≡ 7 → ⊥) → is_pairs c ≡ false
  pairs_none f = pairs_kinds ∙ ap (λ (b : Bool). all (none_or_two c) tiles && b) (ne_eqb (ones kinds) 7 f) ∙ and-false (all (none_or_two c) tiles)

  pub pairs_seven : ones kinds ≡ 7 → is_pairs c ≡ all (none_or_two c) tiles
  pairs_seven e = pairs_kinds ∙ ap (λ (b : Bool). all (none_or_two c) tiles && b) (eq-eqb (ones kinds) 7 e) ∙ and-true (all (none_or_two c) tiles)

-- ---- thirteen orphans

-- of the tile t there are as many as thirteen orphans with the tile p doubled have
abbrev pub orphan_count : (ℕ → ℕ) → ℕ → ℕ → Bool
orphan_count c p t = eqb (c t) (one (is_terminal_or_honor t) + one (eqb t p))

some_there : (b d : Bool) → (T d → T b) → not (eqb (one b + one d) 0) ≡ b
some_there true true f = refl
some_there true false f = refl
some_there false true f = absurd (f tt)
some_there false false f = refl

module _ (c : ℕ → ℕ) (p : ℕ) (h : T (is_orphans c p)) where
  orphan_doubled : T (is_terminal_or_honor p)
  orphan_doubled = and_left (is_terminal_or_honor p) (all (orphan_count c p) tiles) h

  -- the kinds that are there are the terminals and the honors
  orphan_there : (t : ℕ) → Memᴰ t tiles → there c t ≡ is_terminal_or_honor t
  orphan_there t m =
      ap (λ (x : ℕ). not (eqb x 0)) (orphans_exact c p h t (tile_lt m))
      ∙ some_there (is_terminal_or_honor t) (eqb t p)
      (λ d. subst (λ (u : ℕ). T (is_terminal_or_honor u)) (sym (eqb→eq t p d)) orphan_doubled)

  orphan_kinds : count (there c) tiles ≡ 13
  orphan_kinds =
      ap total (map_members (λ t. one (there c t)) (λ t. one (is_terminal_or_honor t)) tiles (λ t m. ap one (orphan_there t m)))

none_later : (c : ℕ → ℕ) (p : ℕ) → T (is_orphans c p) → p < 34 → keep (is_orphans c) (rest (p + 1)) ≡ []
none_later c p h l =
    keep_none (is_orphans c) (rest (p + 1)) (λ q m k. absurd (omega (arith, rest_on (p + 1) m, one_doubled c p q l h k)))

module _ (c : ℕ → ℕ) where
  -- another number of kinds than thirteen
  pub orphans_none : (kinds : ℕ) → kinds ≡ kinds_word c → (ones kinds ≡ 13 → ⊥) → thirteen_orphans c ≡ []
  unfolding thirteen_orphans
  orphans_none kinds e f =
      ap (map orphans) (keep_none (is_orphans c) tiles (λ p m h. f (kinds_there c kinds e ∙ orphan_kinds c p h)))

  -- thirteen orphans, where a tile is the first that is doubled in them: there is no other
  pub orphans_found : (r : Option Tile) → option_map (λ (p : Tile). p.0) r ≡ find (is_orphans c) tiles → thirteen_orphans c ≡ doubled_in r
  unfolding thirteen_orphans
  orphans_found r e =
      ap (map orphans)
      (keep_first (is_orphans c) tiles tiles_nodup (λ p q i j s t. one_doubled c p q (tile_lt i) s t) ∙ ap option_to_list (sym e))
      ∙ doubled r
    where
      doubled : (r : Option Tile) → map orphans (option_to_list (option_map (λ (p : Tile). p.0) r)) ≡ doubled_in r
      doubled None = refl
      doubled (Some p) = refl

  -- nor is there one where none of the tiles is left
  module _ (p : ℕ) (left : keep (is_orphans c) tiles ≡ keep (is_orphans c) (rest p)) where
    pub orphans_end : 34 ≤ p → thirteen_orphans c ≡ []
    unfolding thirteen_orphans
    orphans_end l = ap (map orphans) (left ∙ keep_end (is_orphans c) p l)

-- what is found among the tiles is one
pub found_tile : (q : ℕ → Bool) (r : Option Tile) → option_map (λ (p : Tile). p.0) r ≡ find q tiles → IfSome r (λ p. p.0 < 34)
found_tile q None e = tt
found_tile q (Some p) e = tile_lt (find_in q tiles e)

-- ---- records

pub head_written :
    (out : List ℕ) (at size kind : ℕ)
    → set (set (set (set out at size) (at + 1) 0) (at + 2) kind) (at + 3) 0 ≡ sets out at (size ∷ 0 ∷ kind ∷ 0 ∷ [])
head_written out at size kind =
    let e : at + 1 ≡ suc at = omega arith in
    let f : at + 2 ≡ suc (suc at) = omega arith in
    let g : at + 3 ≡ suc (suc (suc at)) = omega arith in
    rw (e, f, g)

pub orphans_written :
    (out out' : List ℕ) (at p : ℕ) → out' ≡ sets out at (5 ∷ 0 ∷ 2 ∷ 0 ∷ []) → set out' (at + 4) p ≡ sets out at (record_of (orphans p))
unfolding record_of
orphans_written out out' at p e =
    ap (λ (o : List ℕ). set o (at + 4) p) e ∙ ap (λ (n : ℕ). set (sets out at (5 ∷ 0 ∷ 2 ∷ 0 ∷ [])) n p) (add-four at)

module _ (c : ℕ → ℕ) (h : is_pairs c ≡ true) where
  seven_record : records (seven_pairs c) ≡ 11 ∷ 0 ∷ 1 ∷ 0 ∷ twos c
  unfolding seven_pairs record_of
  seven_record =
      ap (λ (b : Bool). records (cond b (pairs (twos c) ∷ []) [])) h
      ∙ append-nil (record_of (pairs (twos c)))
      ∙ ap (λ (n : ℕ). two_bytes (n + 4) ++ (two_bytes 1 ++ twos c)) (seven_twos c (true→t (is_pairs c) h))

  pub pairs_written :
      (out out' out'' : List ℕ) (at : ℕ) → out' ≡ sets out at (11 ∷ 0 ∷ 1 ∷ 0 ∷ []) → out'' ≡ sets out' (at + 4) (twos c)
      → out'' ≡ sets out at (records (seven_pairs c))
  pairs_written out out' out'' at e f =
      f
      ∙ ap (λ (o : List ℕ). sets o (at + 4) (twos c)) e
      ∙ ap (λ (n : ℕ). sets (sets out at (11 ∷ 0 ∷ 1 ∷ 0 ∷ [])) n (twos c)) (add-four at)
      ∙ ap (λ (l : List ℕ). sets out at l) (sym seven_record)

-- ---- what a hand of pairs or of orphans has at the least
abbrev pub even : (ℕ → ℕ) → ℕ → Bool
even c t = eqb (c t % 2) 0

-- no count of seven pairs is odd
pub pairs_even : (c : ℕ → ℕ) → all (even c) tiles ≡ false → is_pairs c ≡ false
pairs_even c e =
    ¬T→false (is_pairs c)
    (λ h. subst T e (all_intro (even c) tiles (λ t i. of_two (c t) (all_mem (none_or_two c) (and_left (all (none_or_two c) tiles) _ h) i))))
  where
    of_two : (n : ℕ) → T (eqb n 0 || eqb n 2) → T (eqb (n % 2) 0)
    of_two n t =
        or_elim (eqb n 0) (eqb n 2) t (λ z. true→t _ (eq-eqb (n % 2) 0 (let q = eqb→eq n 0 z in omega arith)))
        (λ z. true→t _ (eq-eqb (n % 2) 0 (let q = eqb→eq n 2 z in omega arith)))

-- thirteen orphans have man 1, the first tile, and Red, the last
pub orphans_ends : (c : ℕ → ℕ) → (there c 0 && there c 33) ≡ false → thirteen_orphans c ≡ []
unfolding thirteen_orphans
orphans_ends c e =
    ap (map orphans)
    (keep_none (is_orphans c) tiles
    (λ p m h.
    absurd
    (subst T e (and_both (there c 0) (there c 33) (true→t _ (orphan_there c p h 0 (in_tiles 0 (omega arith)))) (true→t _ (orphan_there c p h 33 (in_tiles 33 (omega arith))))))))
