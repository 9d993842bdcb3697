-- The calls that the caller lends as a list of melds. These are definitions.
use Rattle.std.specs.Prelude.{List, [], ◌∷◌, ℕ, length, get_or}
use Rattle.meld.specs.declared.Meld.{Meld}
use Rattle.checks.specs.declared.Calls.{Calls}

-- what stands where no meld is
abbrev pub no_meld : Meld
no_meld = record { tile = 0; kind = 0; source = 0 }

-- the meld at a place, or no_meld past the end
abbrev pub call_at : List Meld → ℕ → Meld
call_at ms i = get_or ms i no_meld

-- how many melds there are, and the first four
abbrev pub calls_of : List Meld → Calls
calls_of ms = record { count = length ms; melds = call_at ms 0 ∷ call_at ms 1 ∷ call_at ms 2 ∷ call_at ms 3 ∷ [] }
