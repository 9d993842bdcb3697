-- `unit::find_readings` meets its contract. Assumes nothing.
use Rattle.std.proofs.Common.{ℕ, length, ap₂, ◌∙◌}
use Rattle.tile.specs.Tile.{tiles}
use Rattle.decompose.specs.Pairs.{found_with}
use Rattle.unit.proofs.find_readings.Goals as goal

pub returns : goal.returns
returns c = record {
  special = c.find_special.ensures;
  standard = c.count_standard.ensures.0 ∙ ap₂ (λ (m : ℕ) (d : ℕ → ℕ). length (found_with m d tiles)) c.melds_needed.ensures c.requires;
  few = c.count_standard.ensures.1;
}
