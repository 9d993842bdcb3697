-- Yaku of the ends of the suits and of honors in each group of a standard reading, the pair p and the melds ms. These are definitions.
use Rattle.std.specs.Prelude.{Bool, ◌&&◌, ◌||◌, List, ℕ, ◌%◌, eqb}
use Rattle.lists.specs.Fold.{all, any}
use Rattle.tile.specs.Tile.{is_terminal, is_terminal_or_honor}
use Rattle.meld.specs.declared.Meld.{Meld}
use Rattle.meld.specs.Meld.{is_sequence}
use Rattle.meld_yaku.specs.Melds.{set_of}

-- 123 or 789
abbrev pub end_run : Meld → Bool
end_run m = is_sequence m && (eqb (m.tile % 9) 0 || eqb (m.tile % 9) 6)

-- Chanta: a terminal or an honor in each meld and in the pair, and at least one sequence. Junchan passes too; the tallies leave Chanta out then
unfoldable pub chanta : ℕ → List Meld → Bool
chanta p ms = is_terminal_or_honor p && (any is_sequence ms && all (λ m. end_run m || set_of is_terminal_or_honor m) ms)

-- Junchan: the same with terminals only
unfoldable pub junchan : ℕ → List Meld → Bool
junchan p ms = is_terminal p && (any is_sequence ms && all (λ m. end_run m || set_of is_terminal m) ms)
