-- Indicators of dora as they are said, one after the other. These are definitions.
use Rattle.std.specs.Prelude.{List, [], ◌∷◌, ℕ, ◌+◌, min, set}
use Rattle.context.specs.declared.Indicators.{Indicators}

-- one more: each is counted, up to 255, and the first ten are kept
abbrev pub with_indicator : Indicators → ℕ → Indicators
with_indicator k t = record { count = min (k.count + 1) 255; tiles = set k.tiles k.count t }

-- several more, in their order
abbrev pub with_indicators : Indicators → List ℕ → Indicators
with_indicators k [] = k
with_indicators k (t ∷ ts) = with_indicators (with_indicator k t) ts
