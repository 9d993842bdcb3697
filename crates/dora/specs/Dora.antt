-- Dora (in agari context.rs, and total_han_with_dora of yaku.rs): the tile that an indicator names, how many of these tiles a hand holds, and the
-- han with them. c says how many of each tile hand and calls hold together. Red fives and set-aside Norths are not counted.
-- These are definitions.
use Rattle.std.specs.Prelude.{Bool, cond, List, ℕ, ◌+◌, ◌-◌, ◌*◌, ◌%◌, ◌≤◌}
use Rattle.lists.specs.Fold.{sum}
use Rattle.tile.specs.Tile.{is_suited, is_wind, is_dragon, suit_of}
use Rattle.tile.specs.Named.{East, White}
use Rattle.context.specs.declared.GameContext.{GameContext}
use Rattle.context.specs.Context.{shown}
use Rattle.dora.specs.declared.DoraCount.{DoraCount}

-- the tile after t in a round of n tiles that begins at a: after the last comes the first
abbrev pub after : ℕ → ℕ → ℕ → ℕ
after a n t = a + (t - a + 1) % n

-- the dora of an indicator: the next number of its suit, 1 after 9; the next of East, South, West, North; the next of White, Green, Red.
-- A number above 33 is no tile and stays
unfoldable pub dora_of : ℕ → ℕ
dora_of t =
    cond (is_suited t) (after (suit_of t * 9) 9 t) (cond (is_wind t) (after East 4 t) (cond (is_dragon t) (after White 3 t) t))

-- each indicator adds as many as there are of its dora; one that is shown twice adds twice
abbrev pub count_of : (ℕ → ℕ) → List ℕ → ℕ
count_of c ts = sum (λ t. c (dora_of t)) ts

-- by sort: those shown, and those below them (ura), which count exactly where riichi was declared
unfoldable pub dora_in : (ℕ → ℕ) → GameContext → DoraCount
dora_in c w =
    record {
      regular = count_of c (shown w.dora_indicators);
      ura = cond w.is_riichi (count_of c (shown w.ura_dora_indicators)) 0;
    }

-- ten indicators of either sort, each with four tiles
abbrev pub AtMostForty : DoraCount → Type 0
AtMostForty d = (d.regular ≤ 40) × (d.ura ≤ 40)

-- no dora
abbrev pub no_dora : DoraCount
no_dora = record { regular = 0; ura = 0 }

-- both sorts together
abbrev pub dora_total : DoraCount → ℕ
dora_total d = d.regular + d.ura

-- the han of the yaku with dora; a yakuman takes none
unfoldable pub total_han : DoraCount → Bool → ℕ → ℕ
total_han d yakuman han = cond yakuman han (han + dora_total d)
