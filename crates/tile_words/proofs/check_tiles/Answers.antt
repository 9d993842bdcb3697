-- `check_tiles` meets its contract: a word is good where its good characters are all. Assumes nothing.
use Rattle.std.proofs.Common.{arith}
use Rattle.tile_words.proofs.Places.{whole, broken}
use Rattle.tile_words.proofs.check_tiles.Goals as goal

pub returns-then-word-i-clause-good : goal.returns-then-word-i-clause-good
returns-then-word-i-clause-good c = let e = c.good_length-i.ensures.good in whole 0 c.args.word.now (omega arith)

pub returns-clause-good : goal.returns-clause-good
returns-clause-good c = let e = c.good_length-i.ensures.good in broken 0 c.args.word.now (omega arith)
