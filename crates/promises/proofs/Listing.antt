-- Listing readings: what a hand that passes the checks 1 to 6 gets. Assumes nothing.
use mathlib.Core.Path.{◌≡◌, refl, sym, ap}
use mathlib.Core.Logic.{◌↔◌}
use mathlib.Core.Bool.{Bool, true, false, cond}
use mathlib.Core.List.{List, Memᴰ}
use Prim.Native.Nat.{ℕ, ◌≤◌, ◌<◌}
use native.Mathlib.Omega.{arith}
use lib.Dec.{T, leb}
use lib.ListN.{length}
use borrow.Author.Tests.{leb-true, leb-false}
use Rattle.lists.specs.Order.{Nodup, Pairwise}
use Rattle.rules.specs.Rules.{Game}
use Rattle.hand.specs.Counts.{held}
use Rattle.hand.specs.Reading.{Reading, Admits}
use Rattle.hand.specs.Records.{Before, always_enough}
use Rattle.complete.specs.Tiles.{in_reading, HandAllowed, CallsAllowed}
use Rattle.complete.proofs.Allowed.{reading_allowed}
use Rattle.complete.proofs.Sound.{listed_admitted}
use Rattle.complete.proofs.Complete.{admitted_listed}
use Rattle.complete.proofs.Once.{readings_once}
use Rattle.complete.proofs.Ascending.{readings_ascend}
use Rattle.complete.proofs.Bound.{enough}
use Rattle.checks.specs.declared.Calls.{Calls}
use Rattle.checks.specs.Checks.{called, hand_check_in}
use Rattle.checks.proofs.Passed.{passed, each_callable, passes_four, few_called}
use Rattle.unit.specs.Listing.{Listed, Refused}
use Rattle.unit.specs.Listing.{number_of, readings_of, bytes_of, hand_readings, hand_records, listing_in}
use Rattle.unit.proofs.Answers.{listed_answer, short_answer}
use Rattle.unit.proofs.Passes.{melds_called}

-- a hand that passes the checks of a game; the four melds of the calls are four (an array of four in the code)
module _ (g : Game) (cs : List ℕ) (k : Calls) (four : length k.melds ≡ 4) (passes : hand_check_in g cs k ≡ 0) where
  few : length (called k) ≤ 4
  few = few_called cs k four (passes_four g cs k passes)

  -- each listed reading is one that the tiles admit
  pub admitted : (r : Reading) → Memᴰ r (hand_readings cs k) → Admits (held cs) (called k) r
  unfolding hand_readings
  admitted r i = listed_admitted (held cs) (called k) few r i

  -- each reading that the tiles admit is listed
  pub listed : (r : Reading) → Admits (held cs) (called k) r → Memᴰ r (hand_readings cs k)
  unfolding hand_readings
  listed r a = admitted_listed (held cs) (called k) r a

  -- each once, in the order of records
  pub once : Nodup (hand_readings cs k)
  unfolding hand_readings
  once = readings_once (held cs) (called k)

  pub ascending : Pairwise Before (hand_readings cs k)
  unfolding hand_readings
  ascending = readings_ascend (held cs) (called k)

  -- a tile of which there is one in the hand, and a tile of a call, is in the wall
  held_allowed : HandAllowed g.allowed (held cs)
  held_allowed t h u = some_of (g.allowed t) (let m = (passed cs k passes).wall t h in omega arith)
    where
      some_of : (b : Bool) → 1 ≤ cond b 4 0 → T b
      some_of true l = tt
      some_of false l = absurd (omega arith)

  calls_allowed : CallsAllowed g.allowed (called k)
  calls_allowed m i t h u = (each_callable (passed cs k passes) m i).allowed t h (omega arith)

  -- each tile of each reading that is listed is in the wall
  pub in_wall_holds : (r : Reading) → Memᴰ r (hand_readings cs k) → (t : ℕ) → T (in_reading r t) → T (g.allowed t)
  in_wall_holds r i t s = reading_allowed g.allowed (held cs) (called k) held_allowed calls_allowed r (admitted r i) t s

  -- 1,915 bytes are always enough
  pub room : length (hand_records cs k) ≤ always_enough
  unfolding hand_records hand_readings
  room =
      let h = passed cs k passes in
      let t = h.tiles in
      enough (held cs) (called k) (melds_called cs k (passes_four g cs k passes)) few (omega arith) (λ u i. h.four u)

  -- listed wherever the records fit
  pub fits : (lent : ℕ) → length (hand_records cs k) ≤ lent → listing_in g cs k lent ≡ Listed (length (hand_readings cs k)) (length (hand_records cs k))
  fits lent h = sym (listed_answer g cs k passes lent (length (hand_readings cs k)) (length (hand_records cs k)) h refl refl)

  -- with 1,915 bytes lent the hand is listed, whatever it is
  pub accepted : (lent : ℕ) → always_enough ≤ lent → listing_in g cs k lent ≡ Listed (length (hand_readings cs k)) (length (hand_records cs k))
  accepted lent h = let r = room in fits lent (omega arith)

  -- refused with 7 where they do not
  pub refused_short : (lent : ℕ) → lent < length (hand_records cs k) → listing_in g cs k lent ≡ Refused 7
  refused_short lent h = sym (short_answer g cs k passes lent h)

  -- by the numbers of the answer: 0 with both counts wherever the records fit
  pub fits_numbers :
      (lent : ℕ) → length (hand_records cs k) ≤ lent
      → (number_of (listing_in g cs k lent) ≡ 0)
      × ((readings_of (listing_in g cs k lent) ≡ length (hand_readings cs k)) × (bytes_of (listing_in g cs k lent) ≡ length (hand_records cs k)))
  fits_numbers lent h = let e = fits lent h in (ap number_of e, (ap readings_of e, ap bytes_of e))

  -- 7 exactly where they do not fit
  pub seven_short : (lent : ℕ) → (number_of (listing_in g cs k lent) ≡ 7) ↔ (lent < length (hand_records cs k))
  seven_short lent = (λ e. go e (leb (length (hand_records cs k)) lent) refl, λ h. ap number_of (refused_short lent h))
    where
      go : number_of (listing_in g cs k lent) ≡ 7 → (b : Bool) → leb (length (hand_records cs k)) lent ≡ b → lent < length (hand_records cs k)
      go e true t = absurd (let z = (fits_numbers lent (leb-true (length (hand_records cs k)) lent t)).0 in omega arith)
      go e false t = leb-false (length (hand_records cs k)) lent t
