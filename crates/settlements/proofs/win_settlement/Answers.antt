-- `win_settlement` meets its contract: each seat pays what it owes, the winner is given what they pay together, and both are small. Assumes nothing.
use Rattle.std.proofs.Common.{rules, tests, ◌≡◌, ◌≤◌, ◌∙◌, ap, sum, ℕ, Bool, List, [], ◌∷◌, eqb, arith, Option}
use Rattle.seat_book.specs.declared.Settlement.{Settlement}
use Rattle.lists.proofs.Filled.{at_each, by_place}
use Rattle.settlements.specs.Settlements.{owes, gain, given, win_settlement}
use Rattle.settlements.proofs.Fours.{four_le, sum_le, given_le}
use Rattle.settlements.proofs.win_settlement.Goals as goal

-- two settlements of which each field is the same
made :
    {g g' p p' : List ℕ} {t : Option ℕ} {r : Bool} → g ≡ g' → p ≡ p'
    → ◌≡◌ {A = Settlement} (record { gets = g; pays = p; taker = t; raises = r }) (record { gets = g'; pays = p'; taker = t; raises = r })
made {t = t} {r = r} e f = λ i. record { gets = e i; pays = f i; taker = t; raises = r }

pub all_of-gain-requires : goal.all_of-gain-requires
all_of-gain-requires c =
    let r = c.from_fn-pays.ensures.items in
    sum_le c.from_fn-pays.result r.long (at_each _ _ (λ i y. y ≤ 5000000000) (λ i y q k. search (rules, tests)) r 0)

pub returns : goal.returns
unfolding win_settlement
returns c =
    let a = c.args in
    let n = c.all_of-gain.result in
    let gets = c.from_fn.ensures.items in
    let pays = c.from_fn-pays.ensures.items in
    let owed = owes a.p a.counter a.w a.d in
    let due = at_each _ _ (λ i y. (y ≡ owed i) × (y ≤ 5000000000)) (λ i y q k. search (rules, tests)) pays 0 in
    let got = at_each _ _ (λ i y. y ≡ given (eqb i a.w.seat) n) (λ i y q k. search (rules, tests)) gets 0 in
    let small = sum_le c.from_fn-pays.result pays.long (λ s h. (due s h).1) in
    let paid = by_place owed c.from_fn-pays.result 4 0 pays.long (λ s h. (due s h).0) in
    let all : n ≡ gain a.p a.counter a.w a.d = c.all_of-gain.ensures ∙ ap sum paid ∙ omega arith in
    let shares = by_place (λ s. given (eqb s a.w.seat) n) c.from_fn.result 4 0 gets.long got in (
      made (shares ∙ ap (λ n. given (eqb 0 a.w.seat) n ∷ given (eqb 1 a.w.seat) n ∷ given (eqb 2 a.w.seat) n ∷ given (eqb 3 a.w.seat) n ∷ []) all) paid,
      record {
        gets = four_le c.from_fn.result gets.long (λ s h. omega (arith, got s h, given_le (eqb s a.w.seat) n, small, c.all_of-gain.ensures));
        pays = four_le c.from_fn-pays.result pays.long (λ s h. omega (arith, (due s h).1));
      },
    )
