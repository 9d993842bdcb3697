-- `detect_wait_types` meets its contract, for each kind of reading.
-- Assumes nothing.
use Rattle.std.proofs.Common.{rules, tests, ℕ, ◌≡◌, List, [], ◌∷◌, refl, ap₂, ◌∙◌, sym, eqb, ◌||◌}
use borrow.Author.Tests.{eq-eqb}
use lib.Dec.{eqb→eq}
use Rattle.std.specs.List.{list_any}
use Rattle.lists.specs.Fold.{any}
use Rattle.lists.proofs.Finite.{T-eq, true→t}
use Rattle.lists.proofs.Chains.{one_is}
use Rattle.wait.specs.Wait.{waits, closed_run, closed_triplet, two_sided, middle, edge}
use Rattle.wait.proofs.detect_wait_types.Goals as goal

-- `contains` compares each element with the tile, the definition the tile with each element
contained : (t : ℕ) (l : List ℕ) → list_any (λ n. eqb n t) l ≡ any (eqb t) l
contained t [] = refl
contained t (n ∷ l) =
    ap₂ ◌||◌
    (T-eq (eqb n t) (eqb t n)
    (λ i. true→t (eqb t n) (eq-eqb t n (sym (eqb→eq n t i))))
    (λ i. true→t (eqb n t) (eq-eqb n t (sym (eqb→eq t n i)))))
    (contained t l)

pub returns-in-Standard : goal.returns-in-Standard
unfolding waits
returns-in-Standard c =
    let t = c.args.winning_tile.0 in
    simp (
      c.in-Standard.is,
      c.count_melds.ensures.tally (closed_run two_sided t) (λ m b k. search (rules, tests)),
      c.count_melds-in-Standard.ensures.tally (closed_run middle t) (λ m b k. search (rules, tests)),
      c.count_melds-in-Standard-2.ensures.tally (closed_run edge t) (λ m b k. search (rules, tests)),
      c.count_melds-in-Standard-3.ensures.tally (closed_triplet t) (λ m b k. search (rules, tests)),
      c.from.ensures,
      one_is,
    )

pub returns-in-Chiitoitsu : goal.returns-in-Chiitoitsu
unfolding waits
returns-in-Chiitoitsu c =
    let t = c.args.winning_tile.0 in
    let e : c.contains-paired.result ≡ any (eqb t) c.in-Chiitoitsu.pairs = c.contains-paired.ensures.value ∙ contained t c.in-Chiitoitsu.pairs in
    simp (c.in-Chiitoitsu.is, c.from-in-Chiitoitsu.ensures, one_is, e)

pub returns-in-Kokushi : goal.returns-in-Kokushi
unfolding waits
returns-in-Kokushi c = simp (c.in-Kokushi.is, c.from-in-Kokushi.ensures, c.from-in-Kokushi-2.ensures, one_is)
