-- `Yaku::han_open` meets its contract: the table's value at the name's place. Assumes nothing.
use mathlib.Core.Path.{refl}
use Rattle.yaku.specs.Names.{han_open, names}
use Rattle.yaku.proofs.NameTable.{at_name, past_names}
use borrow.Author.Rules.{rules}
use Rattle.yaku.proofs.names.Yaku.han_open.Goals as goal

pub returns-then-at-ge47 : goal.returns-then-at-ge47
returns-then-at-ge47 c =
    past_names han_open (λ t. refl) c.args.self c.place-at.result c.place-at.ensures
    (search rules)

pub returns : goal.returns
unfolding names
returns c =
    at_name han_open (λ t. refl) c.args.self c.place-at.result c.place-at.ensures
    (search rules)
