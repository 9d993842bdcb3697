-- `unit::slots_of` meets its contract: one call after the other is put in. Assumes nothing.
use Rattle.std.proofs.Common.{◌≡◌, List, [], ◌∷◌, ℕ, map, fold, refl, ap, ◌∙◌, rules, tests}
use Rattle.std.proofs.lemmas.Iterator.{YieldsList-from_slice}
use Rattle.std.proofs.lemmas.Iterator.Consumers.{fold_from_yields_List}
use Rattle.meld.specs.declared.Meld.{Meld}
use Rattle.meld.specs.Meld.{key}
use Rattle.search.specs.Slots.{put, put_all, slots_of}
use Rattle.unit.proofs.slots_of.Goals as goal

abbrev with_call : List ℕ → Meld → List ℕ
with_call slots m = put (key m) slots

all_put : (ms : List Meld) (slots : List ℕ) → fold with_call slots ms ≡ put_all (map key ms) slots
unfolding put_all
all_put [] slots = refl
all_put (m ∷ ms) slots = all_put ms (put (key m) slots)

pub returns : goal.returns
unfolding slots_of
returns c =
    fold_from_yields_List {all = c.called.result.now} _ with_call _ c.fold.result c.fold.ensures.ran (YieldsList-from_slice _ cc) (λ a x b q h. search (rules, tests))
    ∙ all_put _ _ ∙ ap slots_of c.called.ensures
