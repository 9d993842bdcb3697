-- The answer and the buffer of a listing, by the three ways it ends: refused by a check, refused for want of room, listed.
-- Assumes nothing.
use mathlib.Core.Path.{◌≡◌, sym, ap, ◌∙◌}
use mathlib.Core.Bool.{Bool, true, ◌&&◌, cond}
use mathlib.Core.List.{List, ◌++◌}
use Prim.Native.Nat.{ℕ, ◌≤◌, ◌<◌}
use lib.Dec.{eqb, leb}
use lib.ListN.{length, drop}
use lib.Seq.{sets}
use Rattle.lists.proofs.Stores.{sets_first}
use borrow.Author.Tests.{eq-eqb, ne_eqb, le-leb, lt-leb}
use Rattle.rules.specs.Rules.{Game}
use Rattle.rules.specs.declared.refusals.Refusal.{Refusal}
use Rattle.rules.specs.declared.refusals.Refusal.TheVariants.{CountsLength, TooManyCalls, NotACall, CountAboveFour, FiveOfAKind, NumberOfTiles, BufferTooShort, OutOfRange, WinningTile, NoReading, NoYaku, NoSuchReading, BasicPoints, Indicators, Seats, Book}
use Rattle.rules.specs.Refusals.{refusal_number}
use Rattle.checks.specs.declared.Calls.{Calls}
use Rattle.checks.specs.Checks.{hand_check_in}
use Rattle.unit.specs.Listing.{Refused, Listed, hand_readings, hand_records, listing_in, written_in}

-- no refusal has the number 0
pub refuses : (e : Refusal) → refusal_number e ≡ 0 → ⊥
refuses CountsLength h = cc
refuses TooManyCalls h = cc
refuses NotACall h = cc
refuses CountAboveFour h = cc
refuses FiveOfAKind h = cc
refuses NumberOfTiles h = cc
refuses BufferTooShort h = cc
refuses OutOfRange h = cc
refuses WinningTile h = cc
refuses NoReading h = cc
refuses NoYaku h = cc
refuses NoSuchReading h = cc
refuses BasicPoints h = cc
refuses Indicators h = cc
refuses Seats h = cc
refuses Book h = cc

module _ (g : Game) (cs : List ℕ) (k : Calls) where
  -- ---- refused by a check
  pub refused_answer : (n room : ℕ) → n ≡ hand_check_in g cs k → (n ≡ 0 → ⊥) → Refused n ≡ listing_in g cs k room
  unfolding listing_in
  refused_answer n room e z = sym (simp (ne_eqb (hand_check_in g cs k) 0 (λ q. z (e ∙ q)), ← e))

  pub refused_buffer : (n : ℕ) (buffer : List ℕ) → n ≡ hand_check_in g cs k → (n ≡ 0 → ⊥) → buffer ≡ written_in g cs k buffer
  unfolding written_in
  refused_buffer n buffer e z = sym (simp (ne_eqb (hand_check_in g cs k) 0 (λ q. z (e ∙ q))))

  module _ (passed : hand_check_in g cs k ≡ 0) where
    -- ---- refused for want of room
    pub short_answer : (room : ℕ) → room < length (hand_records cs k) → Refused 7 ≡ listing_in g cs k room
    unfolding listing_in
    short_answer room h = sym (simp (eq-eqb (hand_check_in g cs k) 0 passed, lt-leb (length (hand_records cs k)) room h))

    pub short_buffer : (buffer : List ℕ) → length buffer < length (hand_records cs k) → buffer ≡ written_in g cs k buffer
    unfolding written_in
    short_buffer buffer h = sym (simp (eq-eqb (hand_check_in g cs k) 0 passed, lt-leb (length (hand_records cs k)) (length buffer) h))

    -- ---- listed
    pub listed_answer :
        (room readings bytes : ℕ) → length (hand_records cs k) ≤ room → readings ≡ length (hand_readings cs k) → bytes ≡ length (hand_records cs k)
        → Listed readings bytes ≡ listing_in g cs k room
    unfolding listing_in
    listed_answer room readings bytes h e f = sym (simp (eq-eqb (hand_check_in g cs k) 0 passed, le-leb (length (hand_records cs k)) room h, ← e, ← f))

    pub listed_buffer : (buffer out : List ℕ) → length (hand_records cs k) ≤ length buffer → out ≡ sets buffer 0 (hand_records cs k) → out ≡ written_in g cs k buffer
    unfolding written_in
    listed_buffer buffer out h e =
        let accepted : eqb (hand_check_in g cs k) 0 && leb (length (hand_records cs k)) (length buffer) ≡ true =
        simp (eq-eqb (hand_check_in g cs k) 0 passed, le-leb (length (hand_records cs k)) (length buffer) h) in
        e ∙ sets_first buffer (hand_records cs k) h
        ∙ ap (λ (b : Bool). cond b (hand_records cs k ++ drop (length (hand_records cs k)) buffer) buffer) (sym accepted)
