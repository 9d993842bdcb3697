-- `declared_in` meets its contract: the seats counted are those of the definition. Assumes nothing.
use Rattle.std.proofs.Common.{rules, tests, ◌≡◌, ◌∙◌, length, arith}
use Rattle.std.proofs.lemmas.Iterator.{YieldsList-from_slice}
use Rattle.std.proofs.lemmas.Iterator.Consumers.{count_from_yields_List, YieldsList-from_filter}
use Rattle.lists.proofs.Chains.{count_is}
use Rattle.seat_book.specs.Book.{declared_in, declares}
use Rattle.seat_book.proofs.Seats.{declared_among, four_small}
use Rattle.seat_book.proofs.declared_in.Goals as goal

pub returns : goal.returns
returns c =
    let l = c.args.d.declared in
    let size : length l ≡ 4 = search rules in
    let counted : c.count.result ≡ declared_in c.args.d =
    count_from_yields_List c.filter.result _ c.count.ensures.ran (YieldsList-from_filter _ (λ b. b) (YieldsList-from_slice l cc) c.filter.ensures.closure (λ x r q k. search (rules, tests)))
    ∙ count_is _ _ ∙ declared_among l size in
    (counted, omega (arith, counted, four_small (declares c.args.d)))
