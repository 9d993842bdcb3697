-- A renaming (a term of the scope paper) gives every tile the name of another by one rule, under which a hand should keep its worth: the
-- suits change places, all numbers n stay or all become 10 - n, White and Red stay or change places, and South, West and North change places.
-- East, the dealer's wind, stays, and so does Green. Numbers and honors are independent parts. These are definitions.
use Rattle.std.specs.Prelude.{Bool, ◌&&◌, ◌||◌, not, cond, ℕ, ◌+◌, ◌-◌, ◌*◌, ◌/◌, ◌%◌, eqb, ltb}
use Rattle.tile.specs.Tile.{is_after_east}
use Rattle.tile.specs.declared.Order.{Order}
use Rattle.tile.specs.declared.Order.TheVariants.{Abc, Acb, Bac, Bca, Cab, Cba}
use Rattle.tile.specs.declared.Numbers.{Numbers}
use Rattle.tile.specs.declared.Honors.{Honors}
use Rattle.tile.specs.declared.Renaming.{Renaming}

-- one of three numbers: the first for the place 0, the second for 1, the third for 2
abbrev pub three : ℕ → ℕ → ℕ → ℕ → ℕ
three a b c place = cond (eqb place 0) a (cond (eqb place 1) b c)

-- how three change places, a at the place 0, b at 1 and c at 2: the place that each becomes. A name says what a, b and c become
abbrev pub order_to : Order → ℕ → ℕ
order_to Abc = three 0 1 2
order_to Acb = three 0 2 1
order_to Bac = three 1 0 2
order_to Bca = three 1 2 0
order_to Cab = three 2 0 1
order_to Cba = three 2 1 0

-- a and b stay, and so does c
abbrev pub all_stay : Order → Bool
all_stay o = eqb (order_to o 0) 0 && eqb (order_to o 1) 1

-- a tile of a suit: its suit changes (man, pin and sou are a, b and c), and its number n stays or becomes 10 - n
abbrev pub ren_number : Numbers → ℕ → ℕ
ren_number ν t = order_to ν.suits (t / 9) * 9 + cond ν.mirror (8 - t % 9) (t % 9)

-- what South (28), West (29) and North (30) become, which are a, b and c
abbrev pub wind_to : Order → ℕ → ℕ
wind_to o t = 28 + order_to o (t - 28)

-- an honor: White (31) and Red (33) stay or change places, South, West and North change places, the others stay
abbrev pub ren_honor : Honors → ℕ → ℕ
ren_honor η t = cond (η.dragons && (eqb t 31 || eqb t 33)) (64 - t) (cond (is_after_east t) (wind_to η.winds t) t)

-- the tile that a tile becomes; a number above 33 stays
abbrev pub ren : Renaming → ℕ → ℕ
ren ρ t = cond (ltb t 27) (ren_number ρ.numbers t) (ren_honor ρ.honors t)

-- all honors stay
abbrev pub honors_stay : Honors → Bool
honors_stay η = not η.dragons && all_stay η.winds

-- it exchanges suits and nothing else: numbers, dragons and winds stay
abbrev pub suits_alone : Renaming → Bool
suits_alone ρ = not ρ.numbers.mirror && honors_stay ρ.honors

-- the renaming that undoes it
abbrev pub order_back : Order → Order
order_back Abc = Abc
order_back Acb = Acb
order_back Bac = Bac
order_back Bca = Cab
order_back Cab = Bca
order_back Cba = Cba

abbrev pub back : Renaming → Renaming
back ρ =
    record {
      numbers = record { suits = order_back ρ.numbers.suits; mirror = ρ.numbers.mirror };
      honors = record { dragons = ρ.honors.dragons; winds = order_back ρ.honors.winds };
    }
