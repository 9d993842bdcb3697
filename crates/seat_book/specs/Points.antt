-- Points of a seat, which may fall below zero, and what four seats have together. These are definitions.
use Rattle.std.specs.Prelude.{Bool, ◌&&◌, ℕ, ◌+◌, ℤ, pos, negsuc, ◌+ℤ◌, ◌-ℤ◌}
use Rattle.std.specs.Int.Signed.{le_z}

-- each seat starts with 25,000
abbrev pub start : ℤ
start = pos 25000

-- the limits of a seat's points, 1,000,000,000 either way; negsuc n is -(n + 1)
abbrev pub least : ℤ
least = negsuc 999999999

abbrev pub most : ℤ
most = pos 1000000000

-- a seat exactly at a limit is within it
abbrev pub is_within : ℤ → Bool
is_within p = le_z least p && le_z p most

-- after receiving and paying
abbrev pub moved : ℤ → ℕ → ℕ → ℤ
moved p gets pays = p +ℤ pos gets -ℤ pos pays

-- the four seats together, in points and in numbers
abbrev pub together : (ℕ → ℤ) → ℤ
together p = p 0 +ℤ p 1 +ℤ p 2 +ℤ p 3

abbrev pub four_of : (ℕ → ℕ) → ℕ
four_of f = f 0 + f 1 + f 2 + f 3
