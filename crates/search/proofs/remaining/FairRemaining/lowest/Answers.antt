-- `FairRemaining::lowest` meets its contract: the word's trailing zeros say how many places are 0. Assumes nothing.
use Rattle.std.proofs.Common.{◌≡◌, ℕ, ◌+◌, ◌*◌, ◌/◌, ◌%◌, ◌^◌, ◌<◌, sym, ap, ◌∙◌, subst, arith, rules}
use lib.Count.{count_trailing_zeros}
use Rattle.search.specs.declared.remaining.Remaining.{Remaining}
use Rattle.search.specs.Remaining.{Split, split, left, Fair, AtLowest}
use Rattle.search.proofs.Digits.{lowest_place}
use Rattle.search.proofs.Left.{packed, lowest_tile, lowest_of, split_on}
use Rattle.search.proofs.remaining.FairRemaining.lowest.Goals as goal

module _ (s : Remaining) (f : Fair (split s)) (some : s.word ≡ 0 → ⊥) (fits : s.word < 2 ^ 64) (z : ℕ) (e : z ≡ count_trailing_zeros 64 s.word / 3) where
  tile_below : s.behind % 64 + z < 34
  tile_below =
      let h = lowest_tile (split s) f (count_trailing_zeros 64 s.word / 3) (lowest_place 64 s.word some fits) in
      omega arith

  abbrev from_lowest : Remaining
  from_lowest = record { word = s.word / 2 ^ (3 * (count_trailing_zeros 64 s.word / 3)); behind = s.behind + z }

  at_lowest : AtLowest (split from_lowest) × (left (split from_lowest) ≡ left (split s))
  at_lowest =
      let n : ℕ = count_trailing_zeros 64 s.word / 3 in
      let l = lowest_of (split s) f n (lowest_place 64 s.word some fits) in
      let h = tile_below in
      let same = split_on (s.word / 2 ^ (3 * n)) s.behind z (omega arith) in
      subst (λ (t : Split). AtLowest t × (left t ≡ left (split s)))
      (ap (λ (k : ℕ). packed (s.word / 2 ^ (3 * n)) (s.behind / 64) (s.behind % 64 + k)) (sym e) ∙ sym same) l

pub overflow_add-result : goal.overflow_add-result
overflow_add-result c =
    let p = c.current-s in
    let h : p.result.tiles.word < 2 ^ 64 = search rules in
    let b : p.result.tiles.behind < 2 ^ 64 = search rules in
    omega (arith, tile_below p.result.tiles p.result.fair p.ensures.1 h _ c.from.ensures)

pub invariant_of-result : goal.invariant_of-result
invariant_of-result c =
    let p = c.current-s in
    let h : p.result.tiles.word < 2 ^ 64 = search rules in
    record { at_lowest = (at_lowest p.result.tiles p.result.fair p.ensures.1 h _ c.from.ensures).0 }

pub returns : goal.returns
returns c =
    let p = c.current-s in
    let h : p.result.tiles.word < 2 ^ 64 = search rules in
    (at_lowest p.result.tiles p.result.fair p.ensures.1 h _ c.from.ensures).1 ∙ p.ensures.0
