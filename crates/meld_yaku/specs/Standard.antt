-- Questions of the pair and the melds, asked of any reading. These are definitions.
use Rattle.std.specs.Prelude.{Bool, false, List, ℕ}
use Rattle.meld.specs.declared.Meld.{Meld}
use Rattle.hand.specs.Reading.{Reading, pairs, orphans, standard}

-- a question of the pair and the melds of a standard reading, and no for any other
abbrev pub of_standard : (ℕ → List Meld → Bool) → Reading → Bool
of_standard q (pairs ps) = false
of_standard q (orphans p) = false
of_standard q (standard p ms) = q p ms
