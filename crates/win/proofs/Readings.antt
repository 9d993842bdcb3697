-- The buffer that all records were written into holds all readings of the hand, in their order; and picking one of them by its number
-- is reading the record at its place. Assumes nothing.
use mathlib.Core.Path.{◌≡◌, sym, ap, ◌∙◌}
use mathlib.Core.List.{List, Memᴰ}
use Prim.Native.Nat.{ℕ, ◌≤◌, ◌<◌}
use native.Mathlib.Omega.{arith}
use lib.ListN.{length, drop}
use lib.Seq.{sets}
use Rattle.lists.proofs.Stores.{sets_first}
use Rattle.hand.specs.Counts.{held}
use Rattle.hand.specs.Reading.{Reading, pairs, orphans, standard}
use Rattle.hand.specs.Records.{records}
use Rattle.hand.specs.Readings.{readings}
use Rattle.structure.proofs.Short.{Short}
use Rattle.checks.specs.declared.Calls.{Calls}
use Rattle.checks.specs.Checks.{called, hand_check}
use Rattle.checks.proofs.Passed.{few_called}
use Rattle.unit.specs.Listing.{hand_readings, hand_records}
use Rattle.unit.proofs.Passes.{melds_called}
use Rattle.records.specs.Buffer.{reading_at, readings_in, place_of}
use Rattle.records.specs.Pick.{pick_at}
use Rattle.records.proofs.Pick.{pick_past}
use Rattle.records.proofs.Back.{Sized, read_back, read_many, picked}
use Rattle.records.proofs.Sized.{listed_sized}

short : (r : Reading) → Sized r → Short r
short (pairs ps) h = tt
short (orphans p) h = tt
short (standard p ms) h = omega arith

-- ---- a hand that passes the checks; the four melds of the calls are four (an array of four in the code)
module _ (cs : List ℕ) (k : Calls) (four : length k.melds ≡ 4) (passes : hand_check cs k ≡ 0) where
  sized : (r : Reading) → Memᴰ r (hand_readings cs k) → Sized r
  unfolding hand_readings
  sized = listed_sized (held cs) (called k) (melds_called cs k passes) (few_called cs k four passes)

  -- its readings have four melds at most
  pub listed_short : (r : Reading) → Memᴰ r (hand_readings cs k) → Short r
  listed_short r i = short r (sized r i)

  -- the buffer that their records were written into holds them
  pub held_readings :
      (b₀ b : List ℕ) (n : ℕ) → b ≡ sets b₀ 0 (hand_records cs k) → length (hand_records cs k) ≤ length b₀ → n ≡ length (hand_readings cs k)
      → readings_in b n 0 ≡ hand_readings cs k
  unfolding hand_records hand_readings
  held_readings b₀ b n e h f =
      let all = readings (held cs) (called k) in
      rw (e, f, sets_first b₀ (records all) h) (read_back all (drop (length (records all)) b₀) sized)

-- ---- a buffer b that holds the m readings of the hand: f of the reading with the number n, z where there is none
module _ {B : Type 0} (cs : List ℕ) (k : Calls) (b : List ℕ) (m : ℕ) (holds : readings_in b m 0 ≡ hand_readings cs k) (z : B) (f : Reading → B) (n : ℕ) where
  pub pick_there : n < m → pick_at z f (hand_readings cs k) n ≡ f (reading_at b (place_of b n 0))
  pick_there h = rw (← holds) (picked z f b m n 0 h)

  pub pick_none : m ≤ n → pick_at z f (hand_readings cs k) n ≡ z
  pick_none h = let e = ap length (sym holds) ∙ read_many b m 0 in pick_past z f (hand_readings cs k) n (omega arith)
