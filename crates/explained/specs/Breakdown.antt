-- The parts of the fu of a reading. w is the win, `opened` whether something was called from another player. These are definitions; the laws
-- `adds_up` and `answered_fu` say that they add up to the fu of the reading.
use Rattle.std.specs.Prelude.{Bool, ◌||◌, cond, List, map, ℕ, ◌+◌, ◌-◌, get_or}
use Rattle.lists.specs.Fold.{sum}
use Rattle.meld.specs.declared.Meld.{Meld}
use Rattle.context.specs.declared.GameContext.{GameContext}
use Rattle.context.specs.Context.{is_tsumo}
use Rattle.hand.specs.Reading.{Reading, pairs, orphans, standard}
use Rattle.wait.specs.Wait.{pinfu}
use Rattle.wait.specs.Concealed.{spared}
use Rattle.fu.specs.Fu.{meld_fu, pair_fu, wait_fu, base_fu, round_up_to10, at_least30}
use Rattle.explained.specs.declared.breakdown.FuBreakdown.{FuBreakdown}

-- a base and nothing else
abbrev pub only_base : ℕ → FuBreakdown
only_base n = record { base = n; menzen_ron = 0; tsumo = 0; melds = 0; pair = 0; wait = 0; rounding = 0 }

-- pinfu: 20, and 10 by ron, as the hand is closed; nothing for a tsumo
abbrev pub pinfu_parts : Bool → FuBreakdown
pinfu_parts by_tsumo =
    record { base = 20; menzen_ron = cond by_tsumo 0 10; tsumo = 0; melds = 0; pair = 0; wait = 0; rounding = 0 }

-- 10 for a closed ron
abbrev pub menzen_ron_fu : Bool → Bool → ℕ
menzen_ron_fu by_tsumo opened = cond (by_tsumo || opened) 0 10

-- 2 for a tsumo
abbrev pub tsumo_fu : Bool → ℕ
tsumo_fu by_tsumo = cond by_tsumo 2 0

-- the fu of the four melds
abbrev pub melds_fu : GameContext → List Meld → ℕ
melds_fu w ms = sum (meld_fu w (spared w ms)) ms

-- the sum before rounding
abbrev pub unrounded : GameContext → Bool → ℕ → List Meld → ℕ
unrounded w opened p ms = base_fu w opened + melds_fu w ms + pair_fu w p + wait_fu w p ms

-- what is added to n: up to the next ten, in an open hand up to 30 at least
abbrev pub rounding_fu : Bool → ℕ → ℕ
rounding_fu opened n = at_least30 opened (round_up_to10 n) - n

-- a pair and four melds that are no pinfu
unfoldable pub counted_parts : GameContext → Bool → ℕ → List Meld → FuBreakdown
counted_parts w opened p ms =
    record {
      base = 20;
      menzen_ron = menzen_ron_fu (is_tsumo w) opened;
      tsumo = tsumo_fu (is_tsumo w);
      melds = melds_fu w ms;
      pair = pair_fu w p;
      wait = wait_fu w p ms;
      rounding = rounding_fu opened (unrounded w opened p ms);
    }

-- seven pairs have 25, thirteen orphans 30
unfoldable pub breakdown : GameContext → Bool → Reading → FuBreakdown
breakdown w opened (pairs ps) = only_base 25
breakdown w opened (orphans p) = only_base 30
breakdown w opened (standard p ms) =
    cond (pinfu w opened (standard p ms)) (pinfu_parts (is_tsumo w)) (counted_parts w opened p ms)

-- the fu of the meld at a place of the list; 0 past its end
abbrev pub fu_at : GameContext → List Meld → ℕ → ℕ
fu_at w ms i = get_or (map (meld_fu w (spared w ms)) ms) i 0

-- the fu of the meld at a place of the reading; 0 where none stands
unfoldable pub meld_fu_at : GameContext → ℕ → Reading → ℕ
meld_fu_at w i (pairs ps) = 0
meld_fu_at w i (orphans p) = 0
meld_fu_at w i (standard p ms) = fu_at w ms i

-- the sum of the parts
abbrev pub parts_sum : FuBreakdown → ℕ
parts_sum b = b.base + b.menzen_ron + b.tsumo + b.melds + b.pair + b.wait + b.rounding
