-- What listing the readings of a hand of a game asks, in the words of the scope paper. These are definitions.
use Rattle.std.specs.Prelude.{◌≡◌, List, [], ◌∷◌, ◌++◌, ℕ, ◌≤◌, length}
use Rattle.lists.specs.Refusals.{Check, unless}
use Rattle.rules.specs.Rules.{Game}
use Rattle.checks.specs.declared.Calls.{Calls}
use Rattle.checks.specs.Refusals.{hand_checks}
use Rattle.unit.specs.Listing.{readings_of, bytes_of, hand_records, listing_in, written_in}

-- the records need no more bytes than were lent
abbrev pub room_check : List ℕ → Calls → ℕ → Check
room_check cs k lent = unless 7 (length (hand_records cs k) ≤ lent)

-- the checks of the hand, then that of the room
abbrev pub list_checks : Game → List ℕ → Calls → ℕ → List Check
list_checks g cs k lent = hand_checks g cs k ++ (room_check cs k lent ∷ [])

-- a refusal's number alone is answered, and nothing is written
pub record RefusedAlone (g : Game) (cs : List ℕ) (k : Calls) (lent : List ℕ) : Type 0 where
  pub readings : readings_of (listing_in g cs k (length lent)) ≡ 0
  pub bytes : bytes_of (listing_in g cs k (length lent)) ≡ 0
  pub buffer : written_in g cs k lent ≡ lent
