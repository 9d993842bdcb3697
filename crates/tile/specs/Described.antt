-- What a renaming does, as the scope paper says it of each suit, number and honor. These are definitions.
use Rattle.std.specs.Prelude.{◌≡◌, Bool, cond, ℕ, ◌-◌, ◌<◌, T, ltb}
use Rattle.tile.specs.Tile.{is_suited, is_honor, suit_of, value_of}
use Rattle.tile.specs.Named.{East, South, West, North, White, Green, Red}

-- man, pin and sou are the suits 0, 1 and 2
abbrev pub is_suit : ℕ → Bool
is_suit s = ltb s 3

-- of the numbers of which p is true each goes to one of them, no two to the same
pub record OneToOne (p : ℕ → Bool) (σ : ℕ → ℕ) : Type 0 where
  pub among : (s : ℕ) → T (p s) → T (p (σ s))
  pub apart : (s u : ℕ) → T (p s) → T (p u) → σ s ≡ σ u → s ≡ u

-- f is one rule for all tiles: each suit goes to its σ; all numbers n stay, or all become 10 - n; White and Red stay or change places; South, West
-- and North go to their τ; East and Green stay; and so does a number above 33, which is no tile
pub record Does (f σ τ : ℕ → ℕ) (mirror dragons : Bool) : Type 0 where
  pub suit : (t : ℕ) → T (is_suited t) → suit_of (f t) ≡ σ (suit_of t)
  pub number : (t : ℕ) → T (is_suited t) → value_of (f t) ≡ cond mirror (10 - value_of t) (value_of t)
  pub east : f East ≡ East
  pub south : f South ≡ τ South
  pub west : f West ≡ τ West
  pub north : f North ≡ τ North
  pub white : f White ≡ cond dragons Red White
  pub green : f Green ≡ Green
  pub red : f Red ≡ cond dragons White Red
  pub above : (t : ℕ) → 33 < t → f t ≡ t

-- f exchanges suits and nothing else: each tile of a suit keeps its number, and each honor stays
pub record SuitsOnly (f : ℕ → ℕ) : Type 0 where
  pub number : (t : ℕ) → T (is_suited t) → value_of (f t) ≡ value_of t
  pub honor : (t : ℕ) → T (is_honor t) → f t ≡ t
