-- The han of a reading with at most four melds is below 256, and without a yakuman at most 175, which leaves room for dora; it is 0 exactly where no
-- yaku that counts is there; and a value of the table for open hands is that of closed hands, one less, or nothing. Assumes nothing.
use mathlib.Core.Path.{◌≡◌, refl, subst}
use mathlib.Core.Logic.{◌⊎◌, inl, inr, ⊎_elim}
use mathlib.Core.Bool.{Bool, true, false, ◌&&◌, ◌||◌, cond}
use mathlib.Core.List.{List, [], ◌∷◌, ◌++◌, map}
use Prim.Native.Nat.{ℕ, zero, suc, ◌+◌, ◌*◌, ◌<◌, ◌≤◌}
use native.Mathlib.Nat.{le_trans, mul-le-mul, mul-le-mul_left}
use native.Mathlib.Omega.{arith}
use lib.Dec.{T, eqb, leb, leb→le, lit≤}
use borrow.Author.Tests.{le-leb}
use lib.ListN.{get_or, replicate}
use Rattle.lists.specs.Fold.{any, one}
use Rattle.lists.proofs.Finite.{and_left, and_right, and_both, true→t, at, cond_le}
use Rattle.lists.proofs.Sums.{count_le}
use Rattle.context.specs.declared.GameContext.{GameContext}
use Rattle.hand.specs.Reading.{Reading, pairs, orphans, standard}
use Rattle.structure.proofs.Short.{Short}
use Rattle.wait.proofs.Waits.{weight_le}
use Rattle.tile_yaku.specs.declared.TileYaku.{TileYaku}
use Rattle.meld_yaku.specs.Melds.{set_of}
use Rattle.honor_yaku.specs.Honors.{yakuhai, yakuhai_of}
use Rattle.yaku.specs.Tally.{one_han, more_han, yakuman, is_yakuman, ordinary, tallies}
use Rattle.yaku.specs.Names.{names}
use Rattle.yaku.specs.Han.{han_of, dot, han}

-- ---- tallies within bounds, place by place
abbrev within : List ℕ → List ℕ → Bool
within [] [] = true
within [] (b ∷ bs) = false
within (n ∷ ns) [] = false
within (n ∷ ns) (b ∷ bs) = leb n b && within ns bs

within_append : (ns bs ms cs : List ℕ) → T (within ns bs) → T (within ms cs) → T (within (ns ++ ms) (bs ++ cs))
within_append [] [] ms cs h k = k
within_append [] (b ∷ bs) ms cs h k = absurd h
within_append (n ∷ ns) [] ms cs h k = absurd h
within_append (n ∷ ns) (b ∷ bs) ms cs h k =
    and_both (leb n b) _ (and_left (leb n b) _ h) (within_append ns bs ms cs (and_right (leb n b) (within ns bs) h) k)

dot_within : (vs ns bs : List ℕ) → T (within ns bs) → dot vs ns ≤ dot vs bs
dot_within [] ns bs h = lit≤ tt
dot_within (v ∷ vs) [] [] h = lit≤ tt
dot_within (v ∷ vs) [] (b ∷ bs) h = absurd h
dot_within (v ∷ vs) (n ∷ ns) [] h = absurd h
dot_within (v ∷ vs) (n ∷ ns) (b ∷ bs) h =
    let first = mul-le-mul_left v (leb→le n b (and_left (leb n b) (within ns bs) h)) in
    let rest = dot_within vs ns bs (and_right (leb n b) (within ns bs) h) in
    omega arith

-- ---- the tallies of yakuman are at most 1, and 0 where there is no yakuman
pub one_small : (b : Bool) → leb (one b) 1 ≡ true
one_small true = refl
one_small false = refl

ones_within : (bs : List Bool) → T (within (map one bs) (map (λ b. 1) bs))
ones_within [] = tt
ones_within (true ∷ bs) = ones_within bs
ones_within (false ∷ bs) = ones_within bs

none_within : (bs : List Bool) → any (λ b. b) bs ≡ false → T (within (map one bs) (map (λ b. 0) bs))
none_within [] e = tt
none_within (true ∷ bs) e = absurd (subst T e tt)
none_within (false ∷ bs) e = none_within bs e

-- ---- the others are at most 1, a yakuhai tally at most 12
yakuhai_le : (w : GameContext) (r : Reading) → Short r → (t : ℕ) → yakuhai_of w r t ≤ 12
unfolding yakuhai
yakuhai_le w (pairs ps) h t = lit≤ tt
yakuhai_le w (orphans p) h t = lit≤ tt
yakuhai_le w (standard p ms) h t = mul-le-mul (le_trans (count_le (set_of (eqb t)) ms) h) (weight_le w t)

-- the bounds of the ordinary tallies
abbrev one_han_most : List ℕ
one_han_most = replicate 6 1 ++ (replicate 7 12 ++ replicate 4 1)

abbrev more_han_most : List ℕ
more_han_most = replicate 15 1

module _ (w : GameContext) (opened : Bool) (s : TileYaku) (r : Reading) where
  one_han_within : Short r → within (one_han w opened s r) one_han_most ≡ true
  unfolding one_han
  one_han_within h =
      let yakuhai-small : (t : ℕ) → leb (yakuhai_of w r t) 12 ≡ true = λ t. le-leb _ _ (yakuhai_le w r h t) in
      simp (one_small, yakuhai-small)

  more_han_within : within (more_han w opened s r) more_han_most ≡ true
  unfolding more_han
  more_han_within = simp one_small

  ordinary_within : Short r → T (within (ordinary w opened s r) (one_han_most ++ more_han_most))
  unfolding ordinary
  ordinary_within h =
      within_append (one_han w opened s r) one_han_most (more_han w opened s r) more_han_most
      (true→t _ (one_han_within h)) (true→t _ more_han_within)

-- ---- the han: of yakuman alone, or of the others alone
yakuman_most : (opened : Bool) → dot (han_of opened) (replicate 32 0 ++ replicate 15 1) ≤ 255
unfolding han_of names
yakuman_most true = lit≤ tt
yakuman_most false = lit≤ tt

ordinary_most : (opened : Bool) → dot (han_of opened) ((one_han_most ++ more_han_most) ++ replicate 15 0) ≤ 175
unfolding han_of names
ordinary_most true = lit≤ tt
ordinary_most false = lit≤ tt

module _ (w : GameContext) (opened : Bool) (s : TileYaku) (r : Reading) (short : Short r) where
  dot_most : (limit : Bool) → any (λ b. b) (yakuman w opened s r) ≡ limit → dot (han_of opened) (cond limit (replicate 32 0) (ordinary w opened s r) ++ map one (yakuman w opened s r)) ≤ cond limit 255 175
  dot_most true e =
      le_trans
      (dot_within (han_of opened) (replicate 32 0 ++ map one (yakuman w opened s r)) (replicate 32 0 ++ replicate 15 1) (ones_within (yakuman w opened s r)))
      (yakuman_most opened)
  dot_most false e =
      le_trans
      (dot_within (han_of opened) (ordinary w opened s r ++ map one (yakuman w opened s r)) _
      (within_append (ordinary w opened s r) (one_han_most ++ more_han_most) (map one (yakuman w opened s r)) (replicate 15 0) (ordinary_within w opened s r short) (none_within (yakuman w opened s r) e)))
      (ordinary_most opened)

  pub han_small : han w opened s r < 256
  unfolding han tallies is_yakuman
  han_small =
      let limit = any (λ b. b) (yakuman w opened s r) in
      let most = dot_most limit refl in
      let byte = cond_le limit 255 175 255 (lit≤ tt) (lit≤ tt) in
      omega arith

  -- without a yakuman
  pub han_plain : is_yakuman w opened s r ≡ false → han w opened s r ≤ 175
  unfolding han tallies is_yakuman
  han_plain e = subst (λ (limit : Bool). dot (han_of opened) (tallies w opened s r) ≤ cond limit 255 175) e (dot_most _ refl)

-- ---- no han: at each place the value or the tally is 0
no_sum→ : (vs ns : List ℕ) → dot vs ns ≡ 0 → (i : ℕ) → (get_or vs i 0 ≡ 0) ⊎ (get_or ns i 0 ≡ 0)
no_sum→ [] ns e i = inl refl
no_sum→ (v ∷ vs) [] e i = inr refl
no_sum→ (zero ∷ vs) (n ∷ ns) e zero = inl refl
no_sum→ (suc v ∷ vs) (zero ∷ ns) e zero = inr refl
no_sum→ (suc v ∷ vs) (suc n ∷ ns) e zero = absurd (omega arith)
no_sum→ (v ∷ vs) (n ∷ ns) e (suc i) = no_sum→ vs ns (omega arith) i

no_sum← : (vs ns : List ℕ) → ((i : ℕ) → (get_or vs i 0 ≡ 0) ⊎ (get_or ns i 0 ≡ 0)) → dot vs ns ≡ 0
no_sum← [] ns h = refl
no_sum← (v ∷ vs) [] h = refl
no_sum← (v ∷ vs) (n ∷ ns) h =
    let rest = no_sum← vs ns (λ i. h (suc i)) in
    ⊎_elim (λ e. rw e (omega arith)) (λ e. rw e (omega arith)) (h 0)

module _ (w : GameContext) (opened : Bool) (s : TileYaku) (r : Reading) where
  -- no yaku that counts in such a hand is there
  abbrev pub NoYaku : Type 0
  NoYaku = (i : ℕ) → (get_or (han_of opened) i 0 ≡ 0) ⊎ (get_or (tallies w opened s r) i 0 ≡ 0)

  pub no_yaku_zero : (han w opened s r ≡ 0 → NoYaku) × (NoYaku → han w opened s r ≡ 0)
  unfolding han
  no_yaku_zero = (no_sum→ (han_of opened) (tallies w opened s r), no_sum← (han_of opened) (tallies w opened s r))

-- ---- the tables: in an open hand a yaku counts nothing, as much as in a closed hand, or one less
abbrev pub open_value : ℕ → ℕ → Bool
open_value closed opened = eqb opened 0 || (eqb opened closed || eqb (opened + 1) closed)

pub table_rule : (i : ℕ) → i < 47 → T (open_value (get_or (han_of false) i 0) (get_or (han_of true) i 0))
unfolding han_of names
table_rule = at 47 (λ i. open_value (get_or (han_of false) i 0) (get_or (han_of true) i 0)) tt
