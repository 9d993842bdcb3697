-- `first_tile` meets its contract: a number without a suit names no tile. Assumes nothing.
use Rattle.std.proofs.Common.{arith}
use Rattle.std.proofs.lemmas.Bool.Decides.{nat_tests}
use Rattle.tile_words.specs.Chars.{tile_of}
use Rattle.tile_words.proofs.first_tile.Goals as goal

pub returns-in_err-suit_after : goal.returns-in_err-suit_after
unfolding tile_of
returns-in_err-suit_after c = grind (arith, nat_tests)
