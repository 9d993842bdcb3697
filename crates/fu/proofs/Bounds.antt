-- Bounds of fu: at most 170, and those of the parts. Assumes nothing.
use mathlib.Core.Bool.{Bool, true, false}
use mathlib.Core.List.{List}
use Prim.Native.Nat.{ℕ, ◌+◌, ◌<◌, ◌≤◌, max, ◌*◌}
use native.Mathlib.Omega.{arith}
use lib.Dec.{lit≤, lit<}
use lib.ListN.{length}
use Rattle.lists.specs.Fold.{sum}
use Rattle.lists.proofs.Finite.{cond_le}
use Rattle.lists.proofs.Sums.{sum_le}
use Rattle.tile.specs.Tile.{is_terminal_or_honor}
use Rattle.meld.specs.declared.Meld.{Meld}
use Rattle.meld.specs.Meld.{is_kan, is_sequence}
use Rattle.context.specs.declared.GameContext.{GameContext}
use Rattle.context.specs.Context.{is_tsumo}
use Rattle.hand.specs.Reading.{Reading, pairs, orphans, standard}
use Rattle.structure.proofs.Short.{Short}
use Rattle.wait.specs.Wait.{pinfu}
use Rattle.wait.specs.Concealed.{concealed, spared}
use Rattle.fu.specs.Fu.{set_fu, meld_fu, pair_fu, close_wait, wait_fu, win_fu, base_fu, round_up_to10, pinfu_fu, standard_fu, fu}
use Rattle.fu.proofs.DoubleWind.{pair_fu_le}
use native.Mathlib.Nat.{mul-le-mul}

-- the products of a triplet's or a kan's fu are bytes
pub set_fits : (base kan closed : ℕ) → base ≤ 4 → kan ≤ 4 → closed ≤ 2 → (kan * closed ≤ 8) × (base * (kan * closed) ≤ 32)
set_fits base kan closed b k c = let inner = mul-le-mul k c in (inner, mul-le-mul b inner)

set_fu_le_holds : (outer kan hidden : Bool) → set_fu outer kan hidden ≤ 32
set_fu_le_holds false false false = lit≤ tt
set_fu_le_holds false false true = lit≤ tt
set_fu_le_holds false true false = lit≤ tt
set_fu_le_holds false true true = lit≤ tt
set_fu_le_holds true false false = lit≤ tt
set_fu_le_holds true false true = lit≤ tt
set_fu_le_holds true true false = lit≤ tt
set_fu_le_holds true true true = lit≤ tt

win_fu_le_holds : (by_tsumo opened : Bool) → win_fu by_tsumo opened ≤ 10
win_fu_le_holds false false = lit≤ tt
win_fu_le_holds false true = lit≤ tt
win_fu_le_holds true false = lit≤ tt
win_fu_le_holds true true = lit≤ tt

pinfu_fu_le_holds : (by_tsumo : Bool) → pinfu_fu by_tsumo ≤ 30
pinfu_fu_le_holds false = lit≤ tt
pinfu_fu_le_holds true = lit≤ tt

meld_fu_le_holds : (w : GameContext) (kept : Bool) (m : Meld) → meld_fu w kept m ≤ 32
meld_fu_le_holds w kept m = cond_le (is_sequence m) _ _ 32 (lit≤ tt) (set_fu_le_holds (is_terminal_or_honor m.tile) (is_kan m) (concealed w kept m))

-- four melds have at most 128
pub melds_fu_le_holds : (w : GameContext) (kept : Bool) (ms : List Meld) → length ms ≤ 4 → sum (meld_fu w kept) ms ≤ 128
melds_fu_le_holds w kept ms h = let k = sum_le (meld_fu w kept) 32 (meld_fu_le_holds w kept) ms in omega arith

wait_fu_le_holds : (w : GameContext) (p : ℕ) (ms : List Meld) → wait_fu w p ms ≤ 2
wait_fu_le_holds w p ms = cond_le (close_wait w p ms) 2 0 2 (lit≤ tt) (lit≤ tt)

-- at most 170: four closed kans of terminals or honors and a pair of the double wind, won by ron
pub standard_fu_le_holds : (w : GameContext) (opened : Bool) (p : ℕ) (ms : List Meld) → length ms ≤ 4 → standard_fu w opened p ms ≤ 170
unfolding standard_fu
standard_fu_le_holds w opened p ms h =
    let a = melds_fu_le_holds w (spared w ms) ms h in
    let b = win_fu_le_holds (is_tsumo w) opened in
    let c = pair_fu_le w p in
    let d = wait_fu_le_holds w p ms in
    let e = pinfu_fu_le_holds (is_tsumo w) in
    let n = round_up_to10 (base_fu w opened + sum (meld_fu w (spared w ms)) ms + pair_fu w p + wait_fu w p ms) in
    let f : n ≤ 170 = omega arith in
    let g : max n 30 ≤ 170 = omega arith in
    cond_le (pinfu w opened (standard p ms)) _ _ 170 (omega arith) (cond_le opened _ _ 170 (omega arith) f)

pub fu_small : (w : GameContext) (opened : Bool) (r : Reading) → Short r → fu w opened r < 256
unfolding fu
fu_small w opened (pairs ps) h = lit< tt
fu_small w opened (orphans p) h = lit< tt
fu_small w opened (standard p ms) h = let k = standard_fu_le_holds w opened p ms h in omega arith
