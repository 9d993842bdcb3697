-- What a listing answers beside its number: how many readings there are and how many bytes were written. Assumes nothing.
use mathlib.Core.Path.{◌≡◌, refl}
use mathlib.Core.Bool.{Bool, true, false, cond}
use mathlib.Core.List.{List}
use Prim.Native.Nat.{ℕ}
use native.Mathlib.Omega.{arith}
use lib.Dec.{eqb, leb}
use lib.ListN.{length}
use borrow.Author.Tests.{eqb-false}
use Rattle.rules.specs.Rules.{Game}
use Rattle.checks.specs.declared.Calls.{Calls}
use Rattle.checks.specs.Checks.{hand_check_in}
use Rattle.unit.specs.Listing.{Listing}
use Rattle.unit.specs.Listing.{Refused, Listed}
use Rattle.unit.specs.Listing.{hand_readings, hand_records, listing_in}
use Rattle.answers.specs.Answers.{listing_answer}

module _ (g : Game) (cs : List ℕ) (k : Calls) (room : ℕ) where
  abbrev Counted : Listing → Type 0
  Counted a = (listing_answer a).number ≡ 0 → ((listing_answer a).readings ≡ length (hand_readings cs k)) × ((listing_answer a).bytes ≡ length (hand_records cs k))

  -- accepted: how many readings the hand has, and how many bytes their records
  pub listing_counts : Counted (listing_in g cs k room)
  unfolding listing_in
  listing_counts = checked (eqb (hand_check_in g cs k) 0) (eqb-false (hand_check_in g cs k) 0)
    where
      fits : (b : Bool) → Counted (cond b (Listed (length (hand_readings cs k)) (length (hand_records cs k))) (Refused 7))
      fits true e = (refl, refl)
      fits false e = absurd (omega arith)

      checked : (b : Bool) → (b ≡ false → hand_check_in g cs k ≡ 0 → ⊥) → Counted (cond b (cond (leb (length (hand_records cs k)) room) (Listed (length (hand_readings cs k)) (length (hand_records cs k))) (Refused 7)) (Refused (hand_check_in g cs k)))
      checked true f e = fits (leb (length (hand_records cs k)) room) e
      checked false f e = absurd (f refl e)

-- refused: the number, and 0 in both places
pub listing_refusal : (a : Listing) → ((listing_answer a).number ≡ 0 → ⊥) → listing_answer a ≡ record { number = (listing_answer a).number; readings = 0; bytes = 0 }
listing_refusal (Refused n) f = refl
listing_refusal (Listed readings bytes) f = absurd (f refl)
