-- `check_sanshoku` meets its contract. Assumes nothing.
use Rattle.std.proofs.Common.{rules, tests, ◌≡◌, ◌∙◌, take, length}
use Rattle.structure.proofs.Asked.{any_asked}
use Rattle.sequence_yaku.proofs.Lines.{in_three_suits, doujun_lines}
use Rattle.sequence_yaku.proofs.check_sanshoku.Goals as goal

pub returns : goal.returns
returns c =
    let ms = c.in-Standard.melds in
    let size : length ms ≡ 4 = search rules in
    let e = any_asked (in_three_suits ms) (take 2 ms) (cc) c.any.ensures.ran (λ x b q k. search (rules, tests)) in
    simp c.in-Standard.is (e ∙ doujun_lines ms size)
