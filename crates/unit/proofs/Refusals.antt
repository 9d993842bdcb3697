-- The number that refuses a listing: that of the first check that fails, in the words of the scope paper; and what stands beside it.
-- Assumes nothing.
use mathlib.Core.Path.{◌≡◌, refl, sym, ap}
use mathlib.Core.Logic.{◌↔◌, inl, inr}
use mathlib.Core.Bool.{Bool, true, false}
use mathlib.Core.List.{List, [], ◌∷◌}
use Prim.Native.Nat.{ℕ}
use native.Mathlib.Decide.{ℕ_discrete}
use native.Mathlib.Omega.{arith}
use lib.Dec.{leb}
use lib.ListN.{length}
use borrow.Author.Tests.{leb-true, leb-false}
use Rattle.lists.specs.Refusals.{Answers}
use Rattle.rules.specs.Rules.{Game}
use Rattle.checks.specs.declared.Calls.{Calls}
use Rattle.checks.specs.Checks.{hand_check_in}
use Rattle.checks.specs.Refusals.{hand_checks}
use Rattle.checks.proofs.InOrder.{then_checks, exactly}
use Rattle.checks.proofs.Refusals.{hand_refusals}
use Rattle.unit.specs.Listing.{Listing, Refused, Listed, number_of, readings_of, bytes_of, hand_readings, hand_records, listing_in, written_in}
use Rattle.unit.specs.Refusals.{room_check, list_checks, RefusedAlone}
use Rattle.unit.proofs.Answers.{refused_answer, refused_buffer, short_answer, short_buffer, listed_answer}

module _ (g : Game) (cs : List ℕ) (k : Calls) where
  listing_answers : (lent : ℕ) → Answers (list_checks g cs k lent) (number_of (listing_in g cs k lent))
  listing_answers lent =
      then_checks (hand_checks g cs k) (room_check cs k lent ∷ []) tt (hand_check_in g cs k) (number_of (listing_in g cs k lent)) ((hand_refusals cs k (hand_check_in g cs k)).0 refl)
      (λ z. ap number_of (sym (refused_answer g cs k (hand_check_in g cs k) lent refl z))) (λ z. room z (leb (length (hand_records cs k)) lent) refl)
    where
      room : hand_check_in g cs k ≡ 0 → (b : Bool) → leb (length (hand_records cs k)) lent ≡ b → Answers (room_check cs k lent ∷ []) (number_of (listing_in g cs k lent))
      room z true e =
          let h = leb-true (length (hand_records cs k)) lent e in
          inl (h, ap number_of (sym (listed_answer g cs k z lent (length (hand_readings cs k)) (length (hand_records cs k)) h refl refl)))
      room z false e =
          let h = leb-false (length (hand_records cs k)) lent e in
          inr (λ l. omega arith, ap number_of (sym (short_answer g cs k z lent h)))

  -- n is answered exactly where the checks before it pass and this one fails; 0 where all pass
  pub listing_refusals : (lent n : ℕ) → (number_of (listing_in g cs k lent) ≡ n) ↔ Answers (list_checks g cs k lent) n
  listing_refusals lent n = exactly (list_checks g cs k lent) (number_of (listing_in g cs k lent)) (listing_answers lent) n

  -- beside a refusal: no count, and the buffer as it was
  pub refused_alone : (lent : List ℕ) → (number_of (listing_in g cs k (length lent)) ≡ 0 → ⊥) → RefusedAlone g cs k lent
  refused_alone lent z =
      record { readings = (none (listing_in g cs k (length lent)) z).0; bytes = (none (listing_in g cs k (length lent)) z).1; buffer = go (ℕ_discrete (hand_check_in g cs k) 0) }
    where
      none : (l : Listing) → (number_of l ≡ 0 → ⊥) → (readings_of l ≡ 0) × (bytes_of l ≡ 0)
      none (Refused n) h = (refl, refl)
      none (Listed readings bytes) h = absurd (h refl)

      room : hand_check_in g cs k ≡ 0 → (b : Bool) → leb (length (hand_records cs k)) (length lent) ≡ b → written_in g cs k lent ≡ lent
      room c true e =
          let h = leb-true (length (hand_records cs k)) (length lent) e in
          absurd (z (ap number_of (sym (listed_answer g cs k c (length lent) (length (hand_readings cs k)) (length (hand_records cs k)) h refl refl))))
      room c false e = sym (short_buffer g cs k c lent (leb-false (length (hand_records cs k)) (length lent) e))

      go : Dec (hand_check_in g cs k ≡ 0) → written_in g cs k lent ≡ lent
      go (no c) = sym (refused_buffer g cs k (hand_check_in g cs k) lent refl c)
      go (yes c) = room c (leb (length (hand_records cs k)) (length lent)) refl
