-- The lines of the same triplet in three suits stay when all is renamed, in another order. Assumes nothing.
use lib.Dec.{T}
use Rattle.lists.proofs.Permuted.{same_lines}
use Rattle.tile.specs.declared.Renaming.{Renaming}
use Rattle.tile.specs.Renaming.{ren}
use Rattle.tile.proofs.Renamings.{numbers_test}
use Rattle.set_yaku.specs.Sets.{set_lines}

pub set_lines_same_holds : (ρ : Renaming) → T (same_lines (ren ρ) set_lines)
set_lines_same_holds ρ = numbers_test (λ ρ. same_lines (ren ρ) set_lines) ρ tt
