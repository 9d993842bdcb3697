-- Dora as players name them: which tile an indicator names, and how many a hand has. Assumes nothing.
use mathlib.Core.Path.{◌≡◌, refl}
use Rattle.tile.specs.Named.{man, pin, sou, East, South, West, North, White, Green, Red}
use Rattle.dora.specs.Dora.{dora_of}

-- ---- Which tile an indicator names
pub after_one : dora_of (man 1) ≡ man 2
unfolding dora_of
after_one = refl

-- 9 is before 1 of its own suit
pub after_nine_man : dora_of (man 9) ≡ man 1
unfolding dora_of
after_nine_man = refl

pub after_nine_pin : dora_of (pin 9) ≡ pin 1
unfolding dora_of
after_nine_pin = refl

pub after_nine_sou : dora_of (sou 9) ≡ sou 1
unfolding dora_of
after_nine_sou = refl

-- East, South, West, North, and East again
pub after_east : dora_of East ≡ South
unfolding dora_of
after_east = refl

pub after_south : dora_of South ≡ West
unfolding dora_of
after_south = refl

pub after_west : dora_of West ≡ North
unfolding dora_of
after_west = refl

pub after_north : dora_of North ≡ East
unfolding dora_of
after_north = refl

-- White, Green, Red, and White again
pub after_white : dora_of White ≡ Green
unfolding dora_of
after_white = refl

pub after_green : dora_of Green ≡ Red
unfolding dora_of
after_green = refl

pub after_red : dora_of Red ≡ White
unfolding dora_of
after_red = refl
