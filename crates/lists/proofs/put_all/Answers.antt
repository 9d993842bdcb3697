-- `lists::put_all` meets its contract. Assumes nothing.
use Rattle.std.proofs.Common.{arith}
use Rattle.lists.proofs.Stores.{copied}
use Rattle.lists.proofs.put_all.Goals as goal

pub returns : goal.returns
returns c = copied c.args.out.now c.args.src.now _ c.args.at _ (cc) (omega arith) (omega arith)
