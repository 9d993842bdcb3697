use Rattle.std.proofs.Common.{rules, tests, ◌≡◌, ◌∙◌, ap, length}
use mathlib.Core.Bool.{◌&&◌}
use lib.Dec.{ltb, leb}
use Rattle.std.proofs.lemmas.Iterator.{YieldsList-from_slice}
use Rattle.std.proofs.lemmas.Iterator.Search.{all_from_yields_List}
use Rattle.lists.specs.Fold.{all}
use Rattle.lists.proofs.Chains.{all_is}
use Rattle.seat_book.specs.Points.{is_within}
use Rattle.seat_book.specs.Book.{most_deals, most_sticks}
use Rattle.seat_book.proofs.Seats.{each_within}
use Rattle.seat_book.proofs.has_room.Goals as goal

pub returns : goal.returns
returns c =
    let b = c.args.b in
    let size : length b.points ≡ 4 = search rules in
    let seats : c.all.result ≡ all is_within b.points =
    all_from_yields_List is_within _ _ _ c.all.ensures.ran (YieldsList-from_slice b.points cc) (λ x r q k. search (rules, tests)) ∙ all_is is_within b.points in
    ap (λ r. ltb b.deals most_deals && (leb b.sticks most_sticks && r)) (seats ∙ each_within b.points size)
