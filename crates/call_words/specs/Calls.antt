-- The call that a word of tiles given to the program `score` means. These are definitions.
use Rattle.std.specs.Prelude.{◌≡◌, Bool, true, ◌||◌, List, ℕ, ◌+◌, ◌-◌, ◌<◌, min, eqb, ltb, get_or, set, Option, Some, None}
use Rattle.lists.specs.Fold.{all, count}
use Rattle.tile.specs.Tile.{tiles}
use Rattle.meld.specs.declared.Meld.{Meld}
use Rattle.meld.specs.Meld.{is_call, is_open, is_sourced, from_seat, meld, but_source, uses}
use Rattle.hand.specs.Counts.{held}
use Rattle.checks.specs.declared.Calls.{Calls}
use Rattle.tile_words.specs.Words.{tiles_in}

-- the counts are exactly the tiles of the meld
abbrev pub made_of : Meld → List ℕ → Bool
made_of m cs = all (λ t. eqb (held cs t) (uses m t)) tiles

-- the meld is of the kind asked for; where none is, any open one is asked for
abbrev pub is_kind : ℕ → Meld → Bool
is_kind k m = eqb m.kind k

abbrev pub is_asked : Option ℕ → Meld → Bool
is_asked None = is_open
is_asked (Some k) = is_kind k

-- the lowest tile that is there; none where no tile is
pub record Lowest (cs : List ℕ) (r : ℕ) : Type 0 where
  pub tile : r < 34
  pub there : 0 < held cs r
  pub below : (t : ℕ) → t < r → held cs t ≡ 0

abbrev pub IsLowest : List ℕ → Option ℕ → Type 0
IsLowest cs None = (t : ℕ) → t < 34 → held cs t ≡ 0
IsLowest cs (Some r) = Lowest cs r

-- a call as it is taken where nothing says whom it came from: an open one from the left, from where each kind of them can come
abbrev pub IsFromLeft : Meld → Type 0
IsFromLeft m = m ≡ but_source m

-- a call that passes the test p, and has exactly the tiles of the counts
abbrev pub CallOf : (Meld → Bool) → List ℕ → Meld → Type 0
CallOf p cs m = (is_call m ≡ true) × ((p m ≡ true) × (made_of m cs ≡ true))

-- what is found is such a call, from the left; where nothing is found, there is none, whomever it came from
abbrev pub IsCallOf : (Meld → Bool) → List ℕ → Option Meld → Type 0
IsCallOf p cs None = (m : Meld) → CallOf p cs m → ⊥
IsCallOf p cs (Some m) = CallOf p cs m × IsFromLeft m

-- a call that passes the test p, and has exactly the tiles that the word names
abbrev pub CallIn : (Meld → Bool) → List ℕ → Meld → Type 0
CallIn p w m = (is_call m ≡ true) × ((p m ≡ true) × ((t : ℕ) → t < 34 → count (eqb t) (tiles_in w) ≡ uses m t))

-- what is found is such a call, from the left; where nothing is found, there is none, whomever it came from
abbrev pub IsCallIn : (Meld → Bool) → List ℕ → Option Meld → Type 0
IsCallIn p w None = (m : Meld) → CallIn p w m → ⊥
IsCallIn p w (Some m) = CallIn p w m × IsFromLeft m

-- one call more: each is counted, up to 1,000, and the first four are kept
abbrev pub with_call : Calls → Meld → Calls
with_call k m = record { count = min (k.count + 1) 1000; melds = set k.melds k.count m }

-- the last of the calls; a closed sequence, which is no call, where it was not kept
abbrev pub last_call : Calls → Meld
last_call k = get_or k.melds (k.count - 1) (meld 0 0)

-- the last of the calls came from the seat s; the others stay, and so does their count. Where it was not kept nothing changes
abbrev pub with_source : ℕ → Calls → Calls
with_source s k = record { count = k.count; melds = set k.melds (k.count - 1) (from_seat s (last_call k)) }

-- can the last of the calls come from the seat s? Of more than four it is not asked
abbrev pub can_come_from : ℕ → Calls → Bool
can_come_from s k = ltb 4 k.count || is_sourced (from_seat s (last_call k))
