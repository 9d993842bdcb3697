-- Every listed reading has seven pairs or four melds. The calls have to be melds: putting melds in order drops anything else.
-- Assumes nothing.
use mathlib.Core.Path.{◌≡◌, ap}
use mathlib.Core.List.{List, ◌++◌, Memᴰ}
use Prim.Native.Nat.{ℕ, ◌≤◌}
use native.Mathlib.Omega.{arith}
use lib.Dec.{T}
use lib.ListN.{length, length-append}
use Rattle.lists.specs.Fold.{all}
use Rattle.lists.proofs.Members.{all_append, length_perm}
use Rattle.meld.specs.declared.Meld.{Meld}
use Rattle.meld.specs.Meld.{is_meld}
use Rattle.meld.proofs.Melds.{closed_melds, sorted_perm}
use Rattle.hand.specs.Reading.{Reading, pairs, orphans, standard, Admits, AdmitsStandard}
use Rattle.hand.specs.Readings.{readings}
use Rattle.complete.proofs.Sound.{listed_admitted}
use Rattle.records.proofs.Back.{Sized}

four_melds : (c : ℕ → ℕ) (k : List Meld) → T (all is_meld k) → (p : ℕ) (ms : List Meld) → AdmitsStandard c k p ms → length ms ≡ 4
four_melds c k calls p ms a =
    omega (
      arith,
      ap length a.whole,
      length_perm (sorted_perm (k ++ a.hand) (all_append is_meld k a.hand calls (closed_melds a.hand a.closed))),
      length-append k a.hand,
      a.four,
    )

admitted_sized : (c : ℕ → ℕ) (k : List Meld) → T (all is_meld k) → (r : Reading) → Admits c k r → Sized r
admitted_sized c k calls (pairs ps) a = a.seven
admitted_sized c k calls (orphans p) a = tt
admitted_sized c k calls (standard p ms) a = four_melds c k calls p ms a

pub listed_sized : (c : ℕ → ℕ) (k : List Meld) → T (all is_meld k) → length k ≤ 4 → (r : Reading) → Memᴰ r (readings c k) → Sized r
listed_sized c k calls few r i = admitted_sized c k calls r (listed_admitted c k few r i)
