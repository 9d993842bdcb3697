-- Calls at the table of the game: with four players all stay as they were said; with three the left is the second seat onward, a call from the left or
-- the right of tiles in the wall can be made, and no sequence can. Assumes nothing.
use mathlib.Core.Path.{◌≡◌, refl, sym, ap, ◌∙◌}
use mathlib.Core.Bool.{Bool, true, false, ◌&&◌, not, cond}
use mathlib.Core.List.{List, [], ◌∷◌, map}
use Prim.Native.Nat.{ℕ, zero, suc, ◌<◌}
use native.Mathlib.Omega.{arith}
use lib.Dec.{eqb, ltb}
use lib.ListN.{length, get_or}
use borrow.Author.Tests.{eqb-true}
use Rattle.lists.proofs.Finite.{true→t, and_left}
use Rattle.lists.proofs.Elements.{four as of_four}
use Rattle.rules.specs.Rules.{Game, four, three}
use Rattle.meld.specs.declared.Meld.{Meld}
use Rattle.meld.specs.Meld.{is_sequence, is_meld, is_call, meld_from, from_seat}
use Rattle.meld.proofs.Melds.{meld_source}
use Rattle.checks.specs.declared.Calls.{Calls}
use Rattle.checks.specs.Checks.{in_wall, is_call_in}
use Rattle.notation.specs.Table.{at_table, seated_at}

-- the four written out
pub seated_four :
    (g : Game) (k : Calls) (m : Meld) → length k.melds ≡ 4
    → record {
      count = k.count;
      melds =
          at_table g (get_or k.melds 0 m) ∷ at_table g (get_or k.melds 1 m) ∷ at_table g (get_or k.melds 2 m)
          ∷ at_table g (get_or k.melds 3 m) ∷ [];
    }
    ≡ seated_at g k
seated_four g k m e =
    ap (λ (l : List Meld). the_calls l) (sym (of_four k.melds m e))
  where
    the_calls : List Meld → Calls
    the_calls l = record { count = k.count; melds = map (at_table g) l }

-- ---- with four players nothing changes
pub four_stays : (m : Meld) → at_table four m ≡ m
four_stays m = go (eqb m.source 3) (eqb-true m.source 3)
  where
    go : (b : Bool) → (b ≡ true → m.source ≡ 3) → cond b (from_seat 3 m) m ≡ m
    go true f = ap (λ (s : ℕ). meld_from m.tile m.kind s) (sym (f refl))
    go false f = refl

each_stays : (l : List Meld) → map (at_table four) l ≡ l
each_stays [] = refl
each_stays (m ∷ l) = ap (λ (x : Meld). x ∷ map (at_table four) l) (four_stays m) ∙ ap (λ (r : List Meld). m ∷ r) (each_stays l)

pub all_stay : (k : Calls) → seated_at four k ≡ k
all_stay k = ap (λ (l : List Meld). the_calls l) (each_stays k.melds)
  where
    the_calls : List Meld → Calls
    the_calls l = record { count = k.count; melds = l }

-- ---- with three players
and_false : (b : Bool) → b && false ≡ false
and_false true = refl
and_false false = refl

-- a triplet or kan from the left or the right, or a closed kan, of tiles in the wall can be called
from_side :
    (t k s : ℕ) → is_call (meld_from t k s) ≡ true → ltb k 2 ≡ false → eqb s 2 ≡ false → s < 4 → in_wall three (meld_from t k 0) ≡ true
    → is_call_in three (at_table three (meld_from t k s)) ≡ true
from_side t k zero call set side h wall = rw (call, wall, set) refl
from_side t k (suc zero) call set side h wall = rw (call, wall, set) refl
from_side t k (suc (suc zero)) call set side h wall = absurd (true→t false (sym side))
from_side t k (suc (suc (suc zero))) call set side h wall =
    let same : is_call (meld_from t k 2) ≡ is_call (meld_from t k 3) = rw set refl in
    rw (same, call, wall, set) refl
from_side t k (suc (suc (suc (suc s)))) call set side h wall = absurd (omega arith)

pub three_call :
    (m : Meld) → is_call m ≡ true → is_sequence m ≡ false → eqb m.source 2 ≡ false → in_wall three m ≡ true
    → is_call_in three (at_table three m) ≡ true
three_call m call set side wall =
    from_side m.tile m.kind m.source call set side (meld_source m (and_left (is_meld m) _ (true→t (is_call m) call))) wall

-- a sequence is refused as a call, whomever it came from
pub no_chi : (m : Meld) → is_sequence m ≡ true → is_call_in three (at_table three m) ≡ false
no_chi m e = go (eqb m.source 3)
  where
    refused : (x : Meld) → is_sequence x ≡ true → is_call_in three x ≡ false
    refused x e = ap (λ (b : Bool). is_call x && (not b && (ltb x.source 3 && in_wall three x))) e ∙ and_false (is_call x)

    go : (b : Bool) → is_call_in three (cond b (from_seat 2 m) m) ≡ false
    go true = refused (from_seat 2 m) e
    go false = refused m e
