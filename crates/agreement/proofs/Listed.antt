-- Two listings that answer alike, and what a listing that is accepted writes. Assumes nothing.
use mathlib.Core.Path.{◌≡◌}
use mathlib.Core.Bool.{cond}
use mathlib.Core.List.{List, ◌++◌, Permᴰ}
use Prim.Native.Nat.{ℕ, ◌≤◌}
use lib.Dec.{eqb, leb}
use lib.ListN.{length, drop}
use borrow.Author.Tests.{eq-eqb, le-leb}
use Rattle.rules.specs.Rules.{Game}
use Rattle.hand.specs.Reading.{Reading}
use Rattle.checks.specs.declared.Calls.{Calls}
use Rattle.checks.specs.Checks.{hand_check_in}
use Rattle.unit.specs.Listing.{Listed, Refused}
use Rattle.unit.specs.Listing.{hand_readings, hand_records, listing_in, written_in}
use Rattle.promises.proofs.Listing.{once, ascending}
use Rattle.agreement.specs.Agreement.{Writes}

-- the same check's number, as many readings and as many bytes: the same answer
pub same_listing :
    (g : Game) (cs ds : List ℕ) (k j : Calls) → hand_check_in g ds j ≡ hand_check_in g cs k → length (hand_readings ds j) ≡ length (hand_readings cs k)
    → length (hand_records ds j) ≡ length (hand_records cs k) → (lent : ℕ) → listing_in g ds j lent ≡ listing_in g cs k lent
unfolding listing_in
same_listing g cs ds k j c r b lent =
    λ i. cond (eqb (c i) 0) (cond (leb (b i) lent) (Listed (r i) (b i)) (Refused 7)) (Refused (c i))

module _ (g : Game) (cs : List ℕ) (k : Calls) (four : length k.melds ≡ 4) (passes : hand_check_in g cs k ≡ 0) where
  written_records :
      (buffer : List ℕ) → length (hand_records cs k) ≤ length buffer
      → written_in g cs k buffer ≡ hand_records cs k ++ drop (length (hand_records cs k)) buffer
  unfolding written_in
  written_records buffer h = simp (eq-eqb (hand_check_in g cs k) 0 passes, le-leb (length (hand_records cs k)) (length buffer) h)

  -- the records of its readings, which are these in some order
  pub listing_writes :
      (rs : List Reading) → Permᴰ (hand_readings cs k) rs → (buffer : List ℕ) → length (hand_records cs k) ≤ length buffer
      → Writes rs buffer (written_in g cs k buffer)
  unfolding hand_records
  listing_writes rs these buffer h =
      record {
        listed = hand_readings cs k;
        these = these;
        once = once g cs k four passes;
        ascending = ascending g cs k four passes;
        bytes = written_records buffer h;
      }
