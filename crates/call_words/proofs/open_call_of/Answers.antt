-- `open_call_of` meets its contract: each kind that it tries is open, and an added kan has the tiles of an open one. Assumes nothing.
use Rattle.call_words.proofs.Calls.{first_open}
use Rattle.call_words.proofs.open_call_of.Goals as goal

pub returns : goal.returns
returns c = rw (c.or-2.ensures, c.or.ensures) (first_open c.args.counts.now _ _ _ c.call_of-kan.ensures c.call_of-triplet.ensures c.call_of-sequence.ensures)
