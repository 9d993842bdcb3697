-- What a turn of a loop does that makes a test over the tiles. Assumes nothing.
use mathlib.Core.Path.{◌≡◌, refl, sym, ap}
use mathlib.Core.Bool.{Bool, true, false, ◌&&◌}
use Prim.Native.Nat.{ℕ, ◌+◌, ◌-◌, ◌<◌, ◌≤◌}
use lib.Dec.{T}
use Rattle.lists.specs.Fold.{all, up_from}
use Rattle.lists.proofs.Members.{all_mem}
use Rattle.lists.proofs.Ranges.{up_from_in_holds}
use Rattle.hand.proofs.Sums.{up_from_next_holds, up_from_end_holds}

-- ---- a test over the numbers from a on, below b
pub test_next : (p : ℕ → Bool) (good : Bool) (a b : ℕ) → a < b → (good && p a) && all p (up_from (b - (a + 1)) (a + 1)) ≡ good && all p (up_from (b - a) a)
test_next p true a b h = ap (all p) (sym (up_from_next_holds a b h))
test_next p false a b h = refl

pub test_end : (p : ℕ → Bool) (good : Bool) (a b : ℕ) → b ≤ a → good ≡ good && all p (up_from (b - a) a)
test_end p true a b h = sym (ap (all p) (up_from_end_holds a b h))
test_end p false a b h = refl

-- where it passes, the test holds at each
pub test_at : (p : ℕ → Bool) (n a : ℕ) → T (all p (up_from n a)) → (t : ℕ) → a ≤ t → t < a + n → T (p t)
test_at p n a v t h k = all_mem p v (up_from_in_holds n a t h k)
