-- One question of each meld in place of two over all of them. Assumes nothing.
use Rattle.std.proofs.Common.{rules, tests, ◌≡◌, Bool, true, false, ◌||◌, List, [], ◌∷◌, refl, ap, ◌∙◌}
use Rattle.lists.specs.Fold.{any}
use Rattle.meld.specs.declared.Meld.{Meld}
use Rattle.wait.specs.Wait.{closed_run, edge, middle}
use Rattle.fu.proofs.any_close.Goals as goal

between : (a b c d : Bool) → (a || b || (c || d)) ≡ (a || c || (b || d))
between true b c d = refl
between false true true d = refl
between false true false d = refl
between false false c d = refl

either : (p q : Meld → Bool) (l : List Meld) → any (λ m. p m || q m) l ≡ (any p l || any q l)
either p q [] = refl
either p q (m ∷ l) = ap (λ b. p m || q m || b) (either p q l) ∙ between (p m) (q m) (any p l) (any q l)

pub returns : goal.returns
returns c =
    let t = c.args.t in
    c.any_meld.ensures (λ m. closed_run edge t m || closed_run middle t m) (λ m b k. search (rules, tests))
    ∙ either (closed_run edge t) (closed_run middle t) c.args.ms
