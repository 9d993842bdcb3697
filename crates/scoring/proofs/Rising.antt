-- Levels and basic points: the han and the basic points of each level, and that neither falls where han, fu or a yakuman are added. Assumes nothing.
use mathlib.Core.Path.{◌≡◌}
use mathlib.Core.Logic.{◌⊎◌, inl, inr, ◌↔◌}
use mathlib.Core.Bool.{Bool, true, false, ◌&&◌, ◌||◌, not}
use Prim.Native.Nat.{ℕ, ◌+◌, ◌*◌, ◌^◌, ◌<◌, ◌≤◌, min}
use native.Mathlib.Omega.{arith}
use native.Mathlib.Decide.{dec_le}
use native.Mathlib.Nat.{mul-le-mul, pow-le-pow_right}
use lib.Dec.{T, eqb, leb, leb→le, le→leb, eqb→eq, lit<, lit≤}
use borrow.Author.Tests.{le-leb, lt-leb, eq-eqb, not-true}
use Rattle.lists.proofs.Finite.{and_left, and_right, and_both, or_elim, or_left, or_right, true→t, T→true}
use Rattle.scoring.specs.declared.ScoreLevel.{ScoreLevel}
use Rattle.scoring.specs.declared.ScoreLevel.TheVariants.{Normal, Mangan, Haneman, Baiman, Sanbaiman, Yakuman}
use Rattle.scoring.specs.Level.{reaches_yakuman, reaches_sanbaiman, reaches_baiman, reaches_haneman, reaches_mangan, highest, yakuman_count, level, place, points_at, basic_points}

-- what Mangan asks, in a rulebook's words
abbrev pub Reached : ℕ → ℕ → Type 0
Reached han fu = (5 ≤ han) ⊎ (((4 ≤ han) × (40 ≤ fu)) ⊎ ((3 ≤ han) × (70 ≤ fu)))

-- ---- the han of each level, with any fu
module _ (han fu : ℕ) where
  -- Haneman: 6 and 7 han
  pub six_to_seven : 6 ≤ han → han < 8 → level han fu false ≡ Haneman
  unfolding level
  six_to_seven l h = rw (lt-leb 13 han (omega arith), lt-leb 11 han (omega arith), lt-leb 8 han (omega arith), le-leb 6 han (omega arith))

  -- Baiman: 8 to 10 han
  pub eight_to_ten : 8 ≤ han → han < 11 → level han fu false ≡ Baiman
  unfolding level
  eight_to_ten l h = rw (lt-leb 13 han (omega arith), lt-leb 11 han (omega arith), le-leb 8 han (omega arith))

  -- Sanbaiman: 11 and 12 han
  pub eleven_to_twelve : 11 ≤ han → han < 13 → level han fu false ≡ Sanbaiman
  unfolding level
  eleven_to_twelve l h = rw (lt-leb 13 han (omega arith), le-leb 11 han (omega arith))

  -- a counted yakuman: 13 han and more, never more than one
  pub thirteen_up : 13 ≤ han → level han fu false ≡ Yakuman 1
  unfolding level
  thirteen_up l = rw (le-leb 13 han (omega arith))

  -- with a yakuman, one for each full 13 han
  pub thirteens : (k : ℕ) → 1 ≤ k → 13 * k ≤ han → han < 13 * k + 13 → level han fu true ≡ Yakuman k
  unfolding level
  thirteens k l m h = let e : yakuman_count han ≡ k = omega arith in rw e

  -- and never none
  pub at_least_one : han < 13 → level han fu true ≡ Yakuman 1
  unfolding level
  at_least_one h = let e : yakuman_count han ≡ 1 = omega arith in rw e

  -- Mangan: 5 han or more; 4 or more with 40 fu; 3 or more with 70 fu
  pub mangan_reached : T (reaches_mangan han fu) ↔ Reached han fu
  mangan_reached = (asked _ _, λ r. answered _ _ (lit≤ tt) r (dec_le 5 han) (dec_le 4 han))
    where
      asked : (a b : ℕ) → T (leb 5 han || (eqb han 4 && leb a fu || eqb han 3 && leb b fu)) → (5 ≤ han) ⊎ (((4 ≤ han) × (a ≤ fu)) ⊎ ((3 ≤ han) × (b ≤ fu)))
      asked a b t =
          or_elim (leb 5 han) _ t
          (λ x. inl (leb→le 5 han x))
          (λ y.
          or_elim (eqb han 4 && leb a fu) _ y
          (λ c. let e : han ≡ 4 = eqb→eq han 4 (and_left (eqb han 4) (leb a fu) c) in inr (inl (omega arith, leb→le a fu (and_right (eqb han 4) (leb a fu) c))))
          (λ d. let e : han ≡ 3 = eqb→eq han 3 (and_left (eqb han 3) (leb b fu) d) in inr (inr (omega arith, leb→le b fu (and_right (eqb han 3) (leb b fu) d)))))

      answered :
          (a b : ℕ) → a ≤ b → (5 ≤ han) ⊎ (((4 ≤ han) × (a ≤ fu)) ⊎ ((3 ≤ han) × (b ≤ fu))) → Dec (5 ≤ han) → Dec (4 ≤ han)
          → T (leb 5 han || (eqb han 4 && leb a fu || eqb han 3 && leb b fu))
      answered a b o r (yes l) d = or_left (leb 5 han) _ (le→leb 5 han l)
      answered a b o (inl h) (no l) d = absurd (l h)
      answered a b o (inr (inl h)) (no l) d = or_right (leb 5 han) _ (or_left (eqb han 4 && leb a fu) _ (and_both (eqb han 4) _ (true→t _ (eq-eqb han 4 (omega arith))) (le→leb a fu h.1)))
      answered a b o (inr (inr h)) (no l) (yes m) = or_right (leb 5 han) _ (or_left (eqb han 4 && leb a fu) _ (and_both (eqb han 4) _ (true→t _ (eq-eqb han 4 (omega arith))) (le→leb a fu (omega arith))))
      answered a b o (inr (inr h)) (no l) (no m) = or_right (leb 5 han) _ (or_right (eqb han 4 && leb a fu) _ (and_both (eqb han 3) _ (true→t _ (eq-eqb han 3 (omega arith))) (le→leb b fu h.1)))

  -- below six han it is Mangan where that is reached
  pub mangan_below_six : han < 6 → T (reaches_mangan han fu) → level han fu false ≡ Mangan
  unfolding level
  mangan_below_six h t =
      rw (lt-leb 13 han (omega arith), lt-leb 11 han (omega arith), lt-leb 8 han (omega arith), lt-leb 6 han (omega arith), T→true (reaches_mangan han fu) t)

  -- and Normal where it is not
  pub normal_below_six : han < 6 → T (not (reaches_mangan han fu)) → level han fu false ≡ Normal
  unfolding level
  normal_below_six h t =
      rw (lt-leb 13 han (omega arith), lt-leb 11 han (omega arith), lt-leb 8 han (omega arith), lt-leb 6 han (omega arith), not-true (reaches_mangan han fu) (T→true _ t))

-- at Normal the basic points are fu times 2 to the power of han + 2, at most 2,000
pub normal_basic : (han fu : ℕ) (yakuman : Bool) → level han fu yakuman ≡ Normal → basic_points han fu yakuman ≡ min (fu * 2 ^ (han + 2)) 2000
unfolding basic_points
normal_basic han fu yakuman e = rw e

-- ---- the basic points of each level, with any han and fu
module _ (han fu : ℕ) (yakuman : Bool) where
  -- Mangan: 2,000
  pub mangan_basic : level han fu yakuman ≡ Mangan → basic_points han fu yakuman ≡ 2000
  unfolding basic_points
  mangan_basic e = rw e

  -- Haneman: 3,000
  pub haneman_basic : level han fu yakuman ≡ Haneman → basic_points han fu yakuman ≡ 3000
  unfolding basic_points
  haneman_basic e = rw e

  -- Baiman: 4,000
  pub baiman_basic : level han fu yakuman ≡ Baiman → basic_points han fu yakuman ≡ 4000
  unfolding basic_points
  baiman_basic e = rw e

  -- Sanbaiman: 6,000
  pub sanbaiman_basic : level han fu yakuman ≡ Sanbaiman → basic_points han fu yakuman ≡ 6000
  unfolding basic_points
  sanbaiman_basic e = rw e

  -- a yakuman: 8,000, and so often as it counts
  pub yakuman_basic : (k : ℕ) → level han fu yakuman ≡ Yakuman k → basic_points han fu yakuman ≡ 8000 * k
  unfolding basic_points
  yakuman_basic k e = rw e

-- ---- what rises with the level
-- a number for each level, none smaller than that of a lower one
record Ascends (g : ScoreLevel → ℕ) : Type 0 where
  mangan : g Normal ≤ g Mangan
  haneman : g Mangan ≤ g Haneman
  baiman : g Haneman ≤ g Baiman
  sanbaiman : g Baiman ≤ g Sanbaiman
  yakuman : g Sanbaiman ≤ g (Yakuman 1)
  more : (k l : ℕ) → k ≤ l → g (Yakuman k) ≤ g (Yakuman l)

module _ (g : ScoreLevel → ℕ) (up : Ascends g) where
  -- what is reached, and more, has no lower level
  top : (a b c d m : Bool) → g (highest a b c d m) ≤ g (Yakuman 1)
  top true b c d m = omega arith
  top false true c d m = omega arith
  top false false true d m = omega arith
  top false false false true m = omega arith
  top false false false false true = omega arith
  top false false false false false = omega arith

  highest_rises :
      (a b c d m a' b' c' d' m' : Bool) → (T a → T a') → (T b → T b') → (T c → T c') → (T d → T d') → (T m → T m')
      → g (highest a b c d m) ≤ g (highest a' b' c' d' m')
  highest_rises a b c d m true b' c' d' m' i j k l n = top a b c d m
  highest_rises true b c d m false b' c' d' m' i j k l n = absurd (i tt)
  highest_rises false true c d m false true c' d' m' i j k l n = omega arith
  highest_rises false false true d m false true c' d' m' i j k l n = omega arith
  highest_rises false false false true m false true c' d' m' i j k l n = omega arith
  highest_rises false false false false true false true c' d' m' i j k l n = omega arith
  highest_rises false false false false false false true c' d' m' i j k l n = omega arith
  highest_rises false true c d m false false c' d' m' i j k l n = absurd (j tt)
  highest_rises false false true d m false false true d' m' i j k l n = omega arith
  highest_rises false false false true m false false true d' m' i j k l n = omega arith
  highest_rises false false false false true false false true d' m' i j k l n = omega arith
  highest_rises false false false false false false false true d' m' i j k l n = omega arith
  highest_rises false false true d m false false false d' m' i j k l n = absurd (k tt)
  highest_rises false false false true m false false false true m' i j k l n = omega arith
  highest_rises false false false false true false false false true m' i j k l n = omega arith
  highest_rises false false false false false false false false true m' i j k l n = omega arith
  highest_rises false false false true m false false false false m' i j k l n = absurd (l tt)
  highest_rises false false false false true false false false false true i j k l n = omega arith
  highest_rises false false false false false false false false false true i j k l n = omega arith
  highest_rises false false false false true false false false false false i j k l n = absurd (n tt)
  highest_rises false false false false false false false false false false i j k l n = omega arith

-- more han, more fu, and perhaps a yakuman
module _ (han han' fu fu' : ℕ) (h : han ≤ han') (f : fu ≤ fu') where
  up_to : (k : ℕ) → T (leb k han) → T (leb k han')
  up_to k t = let l = leb→le k han t in le→leb k han' (omega arith)

  mangan_rises : T (reaches_mangan han fu) → T (reaches_mangan han' fu')
  mangan_rises t = (mangan_reached han' fu').1 (go ((mangan_reached han fu).0 t))
    where
      go : Reached han fu → Reached han' fu'
      go (inl a) = inl (omega arith)
      go (inr (inl a)) = inr (inl (omega arith, omega arith))
      go (inr (inr a)) = inr (inr (omega arith, omega arith))

  rises : (g : ScoreLevel → ℕ) → Ascends g → (y y' : Bool) → (T y → T y') → g (level han fu y) ≤ g (level han' fu' y')
  unfolding level
  rises g up true true i = up.more (yakuman_count han) (yakuman_count han') (omega arith)
  rises g up true false i = absurd (i tt)
  rises g up false true i =
      let a = top g up (reaches_yakuman han) (reaches_sanbaiman han) (reaches_baiman han) (reaches_haneman han) (reaches_mangan han fu) in
      let b = up.more 1 (yakuman_count han') (omega arith) in
      omega arith
  rises g up false false i =
      highest_rises g up (reaches_yakuman han) (reaches_sanbaiman han) (reaches_baiman han) (reaches_haneman han) (reaches_mangan han fu)
      (reaches_yakuman han') (reaches_sanbaiman han') (reaches_baiman han') (reaches_haneman han') (reaches_mangan han' fu')
      (up_to _) (up_to _) (up_to _) (up_to _) mangan_rises

  -- the level is no lower
  pub level_rises : (y y' : Bool) → (T y → T y') → place (level han fu y) ≤ place (level han' fu' y')
  level_rises =
      rises place
      (record { mangan = omega arith; haneman = omega arith; baiman = omega arith; sanbaiman = omega arith; yakuman = omega arith; more = λ k l n. omega arith })

  -- the basic points are no fewer
  pub basic_rises : (y y' : Bool) → (T y → T y') → basic_points han fu y ≤ basic_points han' fu' y'
  unfolding basic_points
  basic_rises y y' i =
      let n = mul-le-mul f (pow-le-pow_right {n = 2} (lit< tt) {i = han + 2} {j = han' + 2} (omega arith)) in
      let a = same_level (level han fu y) (fu * 2 ^ (han + 2)) (fu' * 2 ^ (han' + 2)) n in
      let b = rises (λ l. points_at l (fu' * 2 ^ (han' + 2))) (points_ascend (fu' * 2 ^ (han' + 2))) y y' i in
      omega arith
    where
      same_level : (l : ScoreLevel) (n n' : ℕ) → n ≤ n' → points_at l n ≤ points_at l n'
      same_level Normal n n' e = omega arith
      same_level Mangan n n' e = omega arith
      same_level Haneman n n' e = omega arith
      same_level Baiman n n' e = omega arith
      same_level Sanbaiman n n' e = omega arith
      same_level (Yakuman k) n n' e = omega arith

      points_ascend : (n : ℕ) → Ascends (λ l. points_at l n)
      points_ascend n =
          record { mangan = omega arith; haneman = omega arith; baiman = omega arith; sanbaiman = omega arith; yakuman = omega arith; more = λ k l e. omega arith }
