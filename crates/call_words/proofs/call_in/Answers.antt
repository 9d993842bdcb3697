-- `call_in` meets its contract: the tiles of the word are counted from nothing. Assumes nothing.
use Rattle.meld.specs.Meld.{is_open}
use Rattle.call_words.specs.Calls.{is_kind}
use Rattle.call_words.proofs.Calls.{call_in}
use Rattle.call_words.proofs.call_in.Goals as goal

pub returns-in-Some : goal.returns-in-Some
returns-in-Some c = rw c.in-Some.is (call_in _ c.args.word.now c.add_tiles.ensures.1 (is_kind c.in-Some.kind) c.call_of.result c.call_of.ensures)

pub returns-in-None : goal.returns-in-None
returns-in-None c = rw c.in-None.is (call_in _ c.args.word.now c.add_tiles.ensures.1 is_open c.open_call_of.result c.open_call_of.ensures)
