-- Examples of the yaku of winds and dragons: for each a case that has it and cases that just miss it. Computed. Assumes nothing.
use mathlib.Core.Path.{◌≡◌, refl}
use mathlib.Core.Bool.{not}
use mathlib.Core.List.{[], ◌∷◌}
use lib.Dec.{T}
use Rattle.tile.specs.Named.{man, pin, sou, East, South, West, North, White, Green, Red}
use Rattle.meld.specs.Named.{run, chi, triplet, pon, closed_kan, open_kan}
use Rattle.context.specs.Named.{by_ron, ron, win, dealer_wins}
use Rattle.hand.specs.Reading.{pairs}
use Rattle.honor_yaku.specs.Honors.{yakuhai, yakuhai_of, dragons, winds, shousangen, daisangen, shousuushii, daisuushii}

-- ---- Yakuhai: the seat is South in the round East, unless said otherwise
-- the round wind and the seat wind count once each, called or not; West is a guest wind and counts nothing
pub yakuhai_round : yakuhai (ron (man 1)) (pon East ∷ run (man 1) ∷ run (pin 2) ∷ run (sou 3) ∷ []) East ≡ 1
unfolding yakuhai
yakuhai_round = refl

pub yakuhai_seat : yakuhai (ron (man 1)) (run (man 1) ∷ run (pin 2) ∷ run (sou 3) ∷ triplet South ∷ []) South ≡ 1
unfolding yakuhai
yakuhai_seat = refl

pub yakuhai_guest : yakuhai (ron (man 1)) (triplet West ∷ run (man 1) ∷ run (pin 2) ∷ run (sou 3) ∷ []) West ≡ 0
unfolding yakuhai
yakuhai_guest = refl

-- for the seat North in the round East, South is a guest wind
pub yakuhai_other_seat : yakuhai (win by_ron (man 1) East North []) (triplet South ∷ run (man 1) ∷ run (pin 2) ∷ run (sou 3) ∷ []) South ≡ 0
unfolding yakuhai
yakuhai_other_seat = refl

-- twice for a wind that is round and seat wind, the dealer's East in the round East or a kan of West in the round West
pub yakuhai_double : yakuhai (dealer_wins by_ron (man 1) []) (triplet East ∷ run (man 1) ∷ run (pin 2) ∷ run (sou 3) ∷ []) East ≡ 2
unfolding yakuhai
yakuhai_double = refl

pub yakuhai_double_kan : yakuhai (win by_ron (man 1) West West []) (open_kan West ∷ run (man 1) ∷ run (pin 2) ∷ run (sou 3) ∷ []) West ≡ 2
unfolding yakuhai
yakuhai_double_kan = refl

-- a dragon once; a dragon of which there is no triplet not at all, nor a triplet of a number
pub yakuhai_dragon : yakuhai (ron (man 1)) (closed_kan White ∷ run (man 1) ∷ run (pin 2) ∷ run (sou 3) ∷ []) White ≡ 1
unfolding yakuhai
yakuhai_dragon = refl

pub yakuhai_other_dragon : yakuhai (ron (man 1)) (closed_kan White ∷ run (man 1) ∷ run (pin 2) ∷ run (sou 3) ∷ []) Red ≡ 0
unfolding yakuhai
yakuhai_other_dragon = refl

pub yakuhai_number : yakuhai (ron (man 1)) (triplet (man 5) ∷ run (man 1) ∷ run (pin 2) ∷ run (sou 3) ∷ []) (man 5) ≡ 0
unfolding yakuhai
yakuhai_number = refl

-- nothing in seven pairs
pub yakuhai_pairs : yakuhai_of (ron White) (pairs (man 1 ∷ man 2 ∷ pin 3 ∷ sou 4 ∷ East ∷ White ∷ Red ∷ [])) White ≡ 0
yakuhai_pairs = refl

-- ---- Shousangen
-- White and Green, one called, and a pair of Red
pub shousangen_two : T (shousangen Red (pon White ∷ triplet Green ∷ run (man 1) ∷ chi (pin 4) ∷ []))
unfolding shousangen dragons
shousangen_two = tt

-- not with a pair of a wind or of a number, not with one triplet of dragons
pub shousangen_not_wind_pair : T (not (shousangen East (pon White ∷ triplet Green ∷ run (man 1) ∷ chi (pin 4) ∷ [])))
unfolding shousangen dragons
shousangen_not_wind_pair = tt

pub shousangen_not_number_pair : T (not (shousangen (man 5) (pon White ∷ triplet Green ∷ run (man 1) ∷ chi (pin 4) ∷ [])))
unfolding shousangen dragons
shousangen_not_number_pair = tt

pub shousangen_not_one : T (not (shousangen Red (pon White ∷ triplet East ∷ run (man 1) ∷ chi (pin 4) ∷ [])))
unfolding shousangen dragons
shousangen_not_one = tt

-- ---- Daisangen
-- all three, called or a kan, whatever the rest
pub daisangen_three : T (daisangen (pon White ∷ triplet Green ∷ open_kan Red ∷ run (man 1) ∷ []))
unfolding daisangen dragons
daisangen_three = tt

-- not with two of them, nor with a wind as the third
pub daisangen_not_two : T (not (daisangen (pon White ∷ triplet Green ∷ run (man 1) ∷ run (man 1) ∷ [])))
unfolding daisangen dragons
daisangen_not_two = tt

pub daisangen_not_wind : T (not (daisangen (pon White ∷ triplet Green ∷ triplet East ∷ run (man 1) ∷ [])))
unfolding daisangen dragons
daisangen_not_wind = tt

-- ---- Shousuushii
-- East, South and West, and a pair of North
pub shousuushii_three : T (shousuushii North (triplet East ∷ pon South ∷ closed_kan West ∷ run (man 1) ∷ []))
unfolding shousuushii winds
shousuushii_three = tt

-- not with a pair of one of the three, of a dragon or of a number, not with two triplets of winds
pub shousuushii_not_same_wind : T (not (shousuushii East (triplet East ∷ pon South ∷ closed_kan West ∷ run (man 1) ∷ [])))
unfolding shousuushii winds
shousuushii_not_same_wind = tt

pub shousuushii_not_dragon_pair : T (not (shousuushii Red (triplet East ∷ pon South ∷ closed_kan West ∷ run (man 1) ∷ [])))
unfolding shousuushii winds
shousuushii_not_dragon_pair = tt

pub shousuushii_not_number_pair : T (not (shousuushii (man 9) (triplet East ∷ pon South ∷ closed_kan West ∷ run (man 1) ∷ [])))
unfolding shousuushii winds
shousuushii_not_number_pair = tt

pub shousuushii_not_two : T (not (shousuushii North (triplet East ∷ pon South ∷ triplet Red ∷ run (man 1) ∷ [])))
unfolding shousuushii winds
shousuushii_not_two = tt

-- ---- Daisuushii
-- all four
pub daisuushii_four : T (daisuushii (triplet East ∷ pon South ∷ closed_kan West ∷ triplet North ∷ []))
unfolding daisuushii winds
daisuushii_four = tt

-- not with three of them beside a sequence or a dragon
pub daisuushii_not_three : T (not (daisuushii (triplet East ∷ pon South ∷ closed_kan West ∷ run (man 1) ∷ [])))
unfolding daisuushii winds
daisuushii_not_three = tt

pub daisuushii_not_dragon : T (not (daisuushii (triplet East ∷ pon South ∷ closed_kan West ∷ triplet Red ∷ [])))
unfolding daisuushii winds
daisuushii_not_dragon = tt
