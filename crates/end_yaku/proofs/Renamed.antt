-- A meld with a terminal or an honor, or with a terminal, stays one when all is renamed: by a test over all renamings and melds.
-- Assumes nothing.
use mathlib.Core.Path.{refl}
use mathlib.Core.Bool.{◌||◌}
use Rattle.tile.specs.Tile.{is_terminal, is_terminal_or_honor}
use Rattle.meld.proofs.Renamed.{meld_law}
use Rattle.meld_yaku.specs.Melds.{set_of}
use Rattle.meld_yaku.proofs.Renamed.{Stays}
use Rattle.end_yaku.specs.Ends.{end_run}

pub outer_meld : Stays (λ m. end_run m || set_of is_terminal_or_honor m)
outer_meld = meld_law (λ m. end_run m || set_of is_terminal_or_honor m) (λ m. refl) tt

pub terminal_meld : Stays (λ m. end_run m || set_of is_terminal m)
terminal_meld = meld_law (λ m. end_run m || set_of is_terminal m) (λ m. refl) tt
