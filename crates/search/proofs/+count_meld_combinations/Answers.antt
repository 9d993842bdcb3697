-- `search::count_meld_combinations` meets its contract: the lists with the sequence and those with the triplet are counted. Assumes nothing.
use Rattle.std.proofs.Common.{◌≡◌, ℕ, ◌+◌, ◌-◌, ◌≤◌, length, refl, sym, ap, ◌∙◌, arith}
use Rattle.meld.specs.Meld.{meld}
use Rattle.hand.specs.Readings.{meld_lists}
use Rattle.search.specs.Remaining.{split, left, has_sequence, has_triplet}
use Rattle.search.proofs.Parts.{first, second, Going, too_many, counted_empty, counted_part, counted_none, counted_all}
use Rattle.search.proofs.+count_meld_combinations.Goals.{Joined-has_sequence, then-has_sequence, else-has_sequence}
use Rattle.search.proofs.+count_meld_combinations.Goals as goal

-- ---- nothing is left, or no meld is to be found

pub returns-then-is_empty : goal.returns-then-is_empty
returns-then-is_empty t c =
    counted_empty c.args.needed c.from.result (split c.args.s.tiles) c.from.ensures (sym c.is_empty.ensures ∙ c.if-is_empty.true)

pub returns-then-needed-eq0 : goal.returns-then-needed-eq0
returns-then-needed-eq0 t c =
    (sym (ap length (too_many c.args.needed (split c.args.s.tiles) c.if-needed-eq0.true (sym c.is_empty.ensures ∙ c.if-is_empty.false))), omega arith)

-- ---- at the lowest tile

-- the total after the sequence, and then with that of the triplet
counted : (t : ℕ) (c : Joined-has_sequence t) (y r : ℕ) → y ≡ length (second c.args.needed (split c.lowest-low.result.tiles)) → r ≡ c.if-has_sequence.total + y
    → (r ≡ length (meld_lists c.args.needed (left (split c.args.s.tiles)))) × (r ≤ 16)
counted t c y r f e =
    let n = c.args.needed - 1 in
    let q = split c.lowest-low.result.tiles in
    let g : Going c.args.needed (split c.args.s.tiles) q = record { some = c.if-needed-eq0.false; lowest = c.lowest-low.result.at_lowest; same = c.lowest-low.ensures } in
    let h : c.if-has_sequence.total ≡ length (first c.args.needed q) =
    elim c.if-has_sequence.branch [
      | then-has_sequence w ↦
          w.total-is
          ∙ counted_part (has_sequence q) n (meld q.tile 0) (left q) (left (split w.without_sequence.result.tiles)) w.count_meld_combinations-total.result
          (sym c.has_sequence.ensures ∙ w.if-has_sequence.true) w.without_sequence.ensures.same w.count_meld_combinations-total.ensures.0
      | else-has_sequence w ↦ w.total-is ∙ counted_none (has_sequence q) n (meld q.tile 0) (left q) (sym c.has_sequence.ensures ∙ w.if-has_sequence.false)
    ] in
    counted_all c.args.needed (split c.args.s.tiles) q c.if-has_sequence.total y r c.requires c.args.s.fair g h f e

pub returns-then-has_triplet : goal.returns-then-has_triplet
returns-then-has_triplet t c =
    let q = split c.lowest-low.result.tiles in
    let d = c.count_meld_combinations-total-then-has_triplet in
    counted t (goal.at.returns-then-has_triplet t c).Joined-has_sequence d.result _
    (counted_part (has_triplet q) (c.args.needed - 1) (meld q.tile 2) (left q) (left (split c.without_triplet.result.tiles)) d.result
    (sym c.has_triplet.ensures ∙ c.if-has_triplet.true) c.without_triplet.ensures.same d.ensures.0)
    refl

pub returns-else-has_triplet : goal.returns-else-has_triplet
returns-else-has_triplet t c =
    let q = split c.lowest-low.result.tiles in
    counted t (goal.at.returns-else-has_triplet t c).Joined-has_sequence 0 _
    (counted_none (has_triplet q) (c.args.needed - 1) (meld q.tile 2) (left q) (sym c.has_triplet.ensures ∙ c.if-has_triplet.false))
    (omega arith)
