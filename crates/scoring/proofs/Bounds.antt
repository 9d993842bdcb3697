-- Bounds that the code's proofs use: the han of a Normal level, the shifted fu, what is multiplied. The check finds those of what is shifted and
-- multiplied alone where the code needs them; docs/PROVING.md has them as its examples of such a bound by hand. Assumes nothing.
use mathlib.Core.Path.{◌≡◌, sym, subst, refl}
use mathlib.Core.Bool.{Bool, true, false, cond, ◌||◌}
use Prim.Native.Nat.{ℕ, ◌+◌, ◌*◌, ◌^◌, ◌%◌, ◌<◌, ◌≤◌}
use native.Mathlib.Omega.{arith}
use native.Mathlib.Nat.{mul-le-mul, mod-eq_of_lt}
use lib.Dec.{leb, leb→le, T}
use Rattle.lists.proofs.Finite.{at}
use borrow.Author.Tests.{leb-false}
use Rattle.scoring.specs.declared.ScoreLevel.{ScoreLevel}
use Rattle.scoring.specs.declared.ScoreLevel.TheVariants.{Normal, Mangan, Haneman, Baiman, Sanbaiman, Yakuman}
use Rattle.scoring.specs.Level.{reaches_yakuman, reaches_sanbaiman, reaches_baiman, reaches_haneman, reaches_mangan, highest, yakuman_count, level}

-- ---- han where the level is Normal
abbrev is_normal : ScoreLevel → Bool
is_normal Normal = true
is_normal Mangan = false
is_normal Haneman = false
is_normal Baiman = false
is_normal Sanbaiman = false
is_normal (Yakuman k) = false

or_no : (a b : Bool) → (a || b) ≡ false → a ≡ false
or_no true b e = e
or_no false b e = refl

-- where Normal is the highest level, Mangan is not reached
highest_normal : (a b c d m : Bool) → T (is_normal (highest a b c d m)) → m ≡ false
highest_normal true b c d m t = absurd t
highest_normal false true c d m t = absurd t
highest_normal false false true d m t = absurd t
highest_normal false false false true m t = absurd t
highest_normal false false false false true t = absurd t
highest_normal false false false false false t = refl

no_mangan : (y : Bool) (k : ℕ) (a b c d m : Bool) → T (is_normal (cond y (Yakuman k) (highest a b c d m))) → m ≡ false
no_mangan true k a b c d m t = absurd t
no_mangan false k a b c d m t = highest_normal a b c d m t

pub normal_below_5 : (han fu : ℕ) (yakuman : Bool) → level han fu yakuman ≡ Normal → han ≤ 4
unfolding level
normal_below_5 han fu yakuman e =
    let none = no_mangan yakuman (yakuman_count han) (reaches_yakuman han) (reaches_sanbaiman han) (reaches_baiman han) (reaches_haneman han) (reaches_mangan han fu) (subst (λ (l : ScoreLevel). T (is_normal l)) (sym e) tt) in
    let h = leb-false 5 han (or_no _ _ none) in
    omega arith

-- ---- basic points of at most 4 han
power_le : (han : ℕ) → han ≤ 4 → 2 ^ (han + 2) ≤ 64
power_le han h = leb→le _ _ (at 5 (λ n. leb (2 ^ (n + 2)) 64) tt han (omega arith))

-- at most 4 han and a byte of fu: the shifted fu keep all their bits
pub shift_fits : (fu han : ℕ) → fu < 256 → han ≤ 4 → (fu * 2 ^ (han + 2)) % 4294967296 ≡ fu * 2 ^ (han + 2)
shift_fits fu han l h =
    let p = power_le han h in
    let q : fu ≤ 255 = omega arith in
    let m = mul-le-mul q p in
    mod-eq_of_lt (omega arith)

-- ---- a discarder owes at most six times the greatest basic points
pub owed_le :
    (basic : ℕ) {multiplier dealers others : ℕ} (dealer : Bool) → basic ≤ 152000 → multiplier ≡ cond dealer dealers others → dealers ≤ 6 → others ≤ 6
    → basic * multiplier ≤ 912000
owed_le basic true h e d o = mul-le-mul h (subst (λ n. n ≤ 6) (sym e) d)
owed_le basic false h e d o = mul-le-mul h (subst (λ n. n ≤ 6) (sym e) o)
