-- `check_sanshoku_doukou` meets its contract. Assumes nothing.
use Rattle.std.proofs.Common.{rules, tests, ◌≡◌, ◌%◌, ◌∙◌, take, length}
use Rattle.structure.proofs.Asked.{any_asked}
use Rattle.meld_yaku.specs.Melds.{three_suits}
use Rattle.set_yaku.proofs.Lines.{sets, doukou_lines}
use Rattle.set_yaku.proofs.check_sanshoku_doukou.Goals as goal

pub returns : goal.returns
returns c =
    let ms = c.in-Standard.melds in
    let size : length ms ≡ 4 = search rules in
    let e = any_asked (λ m. sets ms (three_suits (m.tile % 9))) (take 2 ms) (cc) c.any.ensures.ran (λ x b q k. search (rules, tests)) in
    simp c.in-Standard.is (e ∙ doukou_lines ms size)
