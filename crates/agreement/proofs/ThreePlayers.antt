-- Two tables of three players: the renamings that keep the wall are those that keep man in its place, and under each of them a win and the same win
-- renamed agree. Assumes nothing.
use mathlib.Core.Path.{◌≡◌, refl}
use mathlib.Core.Logic.{◌↔◌}
use mathlib.Core.Bool.{Bool, true, false, ◌&&◌, ◌||◌, not, cond}
use mathlib.Core.List.Memᴰ
use mathlib.Core.List.{List, [], ◌∷◌, map, Memᴰ}
use Prim.Native.Nat.{ℕ, ◌+◌, ◌*◌}
use lib.Dec.{T, eqb, ltb, eqb→eq, ltb→lt, lit<}
use lib.ListN.{length}
use Rattle.lists.specs.Fold.{all_below, one, count, flat}
use Rattle.lists.specs.Order.{Nodup}
use Rattle.lists.proofs.Finite.{at, and_left, and_right, and_both, or_skip, or_elim, T→true}
use Rattle.lists.proofs.Members.{flat_in}
use Rattle.lists.proofs.Relations.{rising_pairwise, ascending_nodup}
use Rattle.tile.specs.Named.{man, pin, sou}
use Rattle.tile.specs.declared.Order.{Order}
use Rattle.tile.specs.declared.Order.TheVariants.{Abc, Acb, Bac, Bca, Cab, Cba}
use Rattle.tile.specs.declared.Renaming.{Renaming}
use Rattle.tile.specs.Renaming.{order_to, ren}
use Rattle.tile.proofs.Renamings.{renaming, numbers_test, tiles_at_holds}
use Rattle.rules.specs.Rules.{three}
use Rattle.meld.specs.declared.Meld.{Meld}
use Rattle.meld.specs.Renamed.{ren_meld}
use Rattle.context.specs.declared.GameContext.{GameContext}
use Rattle.context.specs.Context.{none_shown}
use Rattle.context.proofs.Shown.{both_none}
use Rattle.renamed.specs.Renamed.{ren_counts}
use Rattle.checks.specs.declared.Calls.{Calls}
use Rattle.lent.specs.Lent.{calls_of}
use Rattle.win.specs.Win.{win_check_in}
use Rattle.win.proofs.Passed.{checked}
use Rattle.agreement.specs.Agreement.{StaysAllowed, man_stays, RenamedWin, NotGreen, Comparable, no_indicator, Scored, AlikeIn}
use Rattle.agreement.proofs.Lent.{demand3_lent_in}

-- ---- the renamings of this game
-- where man leaves its place, pin 5 or sou 5 becomes man 5
middle_test : (ρ : Renaming) → T (not (three.allowed (ren ρ (pin 5)) && three.allowed (ren ρ (sou 5))) || man_stays ρ)
middle_test ρ = numbers_test (λ ρ. not (three.allowed (ren ρ (pin 5)) && three.allowed (ren ρ (sou 5))) || man_stays ρ) ρ tt

-- where it stays, a tile of a suit that is in the wall becomes one that is in it
suited_test : (ρ : Renaming) → T (not (man_stays ρ) || all_below 27 (λ t. not (three.allowed t) || three.allowed (ren ρ t)))
suited_test ρ = numbers_test (λ ρ. not (man_stays ρ) || all_below 27 (λ t. not (three.allowed t) || three.allowed (ren ρ t))) ρ tt

pub three_renamings : (ρ : Renaming) → StaysAllowed three ρ ↔ T (man_stays ρ)
three_renamings ρ = (keeps_man, keeps_wall)
  where
    keeps_man : StaysAllowed three ρ → T (man_stays ρ)
    keeps_man stays =
        or_skip (three.allowed (ren ρ (pin 5)) && three.allowed (ren ρ (sou 5))) (man_stays ρ)
        (and_both (three.allowed (ren ρ (pin 5))) (three.allowed (ren ρ (sou 5))) (stays (pin 5) (lit< tt) tt) (stays (sou 5) (lit< tt) tt))
        (middle_test ρ)

    -- a tile of a suit, or an honor, which becomes an honor
    keeps_wall : T (man_stays ρ) → StaysAllowed three ρ
    keeps_wall man t h a =
        or_elim (ltb t 27) (three.allowed (ren ρ t)) (tiles_at_holds (λ t u. ltb t 27 || three.allowed u) tt ρ t h)
        (λ i.
        or_skip (three.allowed t) (three.allowed (ren ρ t)) a
        (at 27 (λ t. not (three.allowed t) || three.allowed (ren ρ t)) (or_skip (man_stays ρ) _ man (suited_test ρ)) t (ltb→lt t 27 i)))
        (λ u. u)

-- man 1 and man 9, the only ones of man, change places with the mirror and stay without it
abbrev one_end : Renaming → Bool
one_end ρ = eqb (ren ρ (man 1)) (cond ρ.numbers.mirror (man 9) (man 1))

abbrev other_end : Renaming → Bool
other_end ρ = eqb (ren ρ (man 9)) (cond ρ.numbers.mirror (man 1) (man 9))

pub man_ends :
    (ρ : Renaming) → T (man_stays ρ)
    → (ren ρ (man 1) ≡ cond ρ.numbers.mirror (man 9) (man 1)) × (ren ρ (man 9) ≡ cond ρ.numbers.mirror (man 1) (man 9))
man_ends ρ stays =
    let both = or_skip (man_stays ρ) (one_end ρ && other_end ρ) stays (numbers_test (λ ρ. not (man_stays ρ) || (one_end ρ && other_end ρ)) ρ tt) in
    (eqb→eq _ _ (and_left (one_end ρ) (other_end ρ) both), eqb→eq _ _ (and_right (one_end ρ) (other_end ρ) both))

-- ---- how many there are: 48 of 144
abbrev orders : List Order
orders = Abc ∷ Acb ∷ Bac ∷ Bca ∷ Cab ∷ Cba ∷ []

abbrev bools : List Bool
bools = false ∷ true ∷ []

abbrev pub renamings : List Renaming
renamings = flat (λ s. flat (λ m. flat (λ d. map (renaming s m d) orders) bools) bools) orders

-- each renaming is in the list, and none twice
in_orders : (o : Order) → Memᴰ o orders
in_orders Abc = Memᴰ.head refl
in_orders Acb = Memᴰ.tail (Memᴰ.head refl)
in_orders Bac = Memᴰ.tail (Memᴰ.tail (Memᴰ.head refl))
in_orders Bca = Memᴰ.tail (Memᴰ.tail (Memᴰ.tail (Memᴰ.head refl)))
in_orders Cab = Memᴰ.tail (Memᴰ.tail (Memᴰ.tail (Memᴰ.tail (Memᴰ.head refl))))
in_orders Cba = Memᴰ.tail (Memᴰ.tail (Memᴰ.tail (Memᴰ.tail (Memᴰ.tail (Memᴰ.head refl)))))

in_bools : (b : Bool) → Memᴰ b bools
in_bools false = Memᴰ.head refl
in_bools true = Memᴰ.tail (Memᴰ.head refl)

pub each_renaming : (ρ : Renaming) → Memᴰ ρ renamings
each_renaming ρ =
    let s = ρ.numbers.suits in
    let m = ρ.numbers.mirror in
    let d = ρ.honors.dragons in
    flat_in (λ s. flat (λ m. flat (λ d. map (renaming s m d) orders) bools) bools) (in_orders s)
    (flat_in (λ m. flat (λ d. map (renaming s m d) orders) bools) (in_bools m)
    (flat_in (λ d. map (renaming s m d) orders) (in_bools d) (Memᴰ.map (renaming s m d) (in_orders ρ.honors.winds))))

-- the places of man and pin, the mirror, the dragons, and the places of South and West as the digits of a number
abbrev placed : Order → ℕ
placed o = order_to o 0 * 3 + order_to o 1

abbrev digits : Renaming → ℕ
digits ρ = ((placed ρ.numbers.suits * 2 + one ρ.numbers.mirror) * 2 + one ρ.honors.dragons) * 9 + placed ρ.honors.winds

pub once_renaming : Nodup renamings
once_renaming = ascending_nodup digits renamings (rising_pairwise digits renamings tt)

pub all_renamings : length renamings ≡ 144
all_renamings = refl

pub man_renamings : count man_stays renamings ≡ 48
man_renamings = refl

-- ---- two wins of this game
pub demand3_three :
    (ρ : Renaming) → T (man_stays ρ) → (cs : List ℕ) (ms : List Meld) (w v : GameContext) → RenamedWin ρ w v
    → AlikeIn three ρ cs (calls_of ms) (calls_of (map (ren_meld ρ) ms)) w v
demand3_three ρ stays = demand3_lent_in three ρ ((three_renamings ρ).1 stays)

-- no indicator is shown in a win that passes the checks
pub three_comparable : (ρ : Renaming) (cs : List ℕ) (k : Calls) (w : GameContext) → win_check_in three cs k w ≡ 0 → Comparable ρ w
three_comparable ρ cs k w passes = no_indicator (both_none w (T→true (none_shown w) (checked {g = three} cs k w passes).shown))

-- so the two score alike where neither hand is all green
pub three_scored :
    (ρ : Renaming) → T (man_stays ρ) → (cs : List ℕ) (ms : List Meld) (w v : GameContext) → RenamedWin ρ w v
    → win_check_in three cs (calls_of ms) w ≡ 0 → NotGreen cs (calls_of ms) → NotGreen (ren_counts ρ cs) (calls_of (map (ren_meld ρ) ms))
    → Scored three ρ cs (calls_of ms) (calls_of (map (ren_meld ρ) ms)) w v
three_scored ρ stays cs ms w v r passes plain plain' =
    (demand3_three ρ stays cs ms w v r).scored passes plain plain' (three_comparable ρ cs (calls_of ms) w passes)
