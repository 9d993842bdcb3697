-- `Yaku::is_yakuman` meets its contract: the yakuman stand last. Assumes nothing.
use Rattle.yaku.proofs.NameTable.{yakuman_at}
use borrow.Author.Rules.{rules}
use Rattle.yaku.proofs.names.Yaku.is_yakuman.Goals as goal

pub returns : goal.returns
returns c = simp c.place-at.ensures (yakuman_at c.args.self)
