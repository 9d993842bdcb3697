-- `yaku_at` meets its contract: the table's yaku are those of the names.
use Rattle.std.proofs.Common.{◌≡◌, ℕ, zero, suc, List, [], ◌∷◌, map, get_or, refl}
use Rattle.yaku.specs.Names.{names}
use Rattle.lists.proofs.Elements.{same_default}
use Rattle.printed.proofs.names.yaku_at.Goals as goal

-- the first half of a row is the row's in the list of first halves
first_at : {A B : Type 0} (l : List (A × B)) (i : ℕ) (d : A × B) → (get_or l i d).0 ≡ get_or (map (λ (p : A × B). p.0) l) i d.0
first_at [] i d = refl
first_at (p ∷ l) zero d = refl
first_at (p ∷ l) (suc i) d = first_at l i d

pub returns : goal.returns
unfolding names
returns c = rw first_at (same_default names c.args.i _ _ c.requires)
