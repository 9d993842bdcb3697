-- Level and basic points of han and fu. These are definitions.
use Rattle.std.specs.Prelude.{Bool, ◌&&◌, ◌||◌, cond, ℕ, ◌+◌, ◌*◌, ◌/◌, ◌^◌, max, min, eqb, leb}
use Rattle.scoring.specs.declared.ScoreLevel.{ScoreLevel}
use Rattle.scoring.specs.declared.ScoreLevel.TheVariants.{Normal, Mangan, Haneman, Baiman, Sanbaiman, Yakuman}

-- ---- what each level asks
abbrev pub reaches_yakuman : ℕ → Bool
reaches_yakuman han = leb 13 han

abbrev pub reaches_sanbaiman : ℕ → Bool
reaches_sanbaiman han = leb 11 han

abbrev pub reaches_baiman : ℕ → Bool
reaches_baiman han = leb 8 han

abbrev pub reaches_haneman : ℕ → Bool
reaches_haneman han = leb 6 han

-- 5 han, or 4 with 40 fu, or 3 with 70 fu
abbrev pub reaches_mangan : ℕ → ℕ → Bool
reaches_mangan han fu = leb 5 han || (eqb han 4 && leb 40 fu || eqb han 3 && leb 70 fu)

-- ---- the level
-- without a yakuman the highest that is reached: a single yakuman (13 han), Sanbaiman, Baiman, Haneman, Mangan
abbrev pub highest : Bool → Bool → Bool → Bool → Bool → ScoreLevel
highest yakuman sanbaiman baiman haneman mangan =
    cond yakuman (Yakuman 1)
    (cond sanbaiman Sanbaiman
    (cond baiman Baiman
    (cond haneman Haneman
    (cond mangan Mangan Normal))))

-- the yakuman that the han of yakuman make: one for each full 13 han, at least one
abbrev pub yakuman_count : ℕ → ℕ
yakuman_count han = max (han / 13) 1

unfoldable pub level : ℕ → ℕ → Bool → ScoreLevel
level han fu yakuman =
    cond yakuman (Yakuman (yakuman_count han))
    (highest (reaches_yakuman han) (reaches_sanbaiman han) (reaches_baiman han) (reaches_haneman han) (reaches_mangan han fu))

-- the place of a level among the levels, from Normal up
abbrev pub place : ScoreLevel → ℕ
place Normal = 0
place Mangan = 1
place Haneman = 2
place Baiman = 3
place Sanbaiman = 4
place (Yakuman k) = 4 + k

-- ---- the basic points
-- the basic points of a level; at Normal n, at most 2,000
abbrev pub points_at : ScoreLevel → ℕ → ℕ
points_at Normal n = min n 2000
points_at Mangan n = 2000
points_at Haneman n = 3000
points_at Baiman n = 4000
points_at Sanbaiman n = 6000
points_at (Yakuman k) n = 8000 * k

-- at Normal fu times 2 to the power of han + 2
unfoldable pub basic_points : ℕ → ℕ → Bool → ℕ
unfolding level
basic_points han fu yakuman = points_at (level han fu yakuman) (fu * 2 ^ (han + 2))
