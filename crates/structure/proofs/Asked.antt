-- What `iter().any` and `iter().all` answer where the closure answers as a test p: whether one element of the list passes it, whether each
-- does. Assumes nothing.
use Rattle.std.proofs.Common.{◌≡◌, Bool, List, ◌∙◌, Iter}
use Rattle.std.specs.Fn.{Called}
use Rattle.std.specs.Iterator.{ChecksAny, ChecksAll}
use Rattle.std.specs.Slice.Iter.{iter_rest}
use Rattle.std.proofs.iter.Yields.{fronts}
use Rattle.std.proofs.lemmas.Iterator.{YieldsList-from_slice}
use Rattle.std.proofs.lemmas.Iterator.Search.{any_from_yields_List, all_from_yields_List}
use denote.Param.Members.{Mut}
use denote.Ref.{Bor}
use Rattle.lists.specs.Fold.{any, all}
use Rattle.lists.proofs.Chains.{any_is, all_is}

module _ {A F : Type 0} {g : Mut F (Bor A × Unit {0}) Bool} {s u : Iter A} {f : F} {r : Bool} (p : A → Bool) (l : List A) where
  pub any_asked :
      iter_rest s ≡ l → ChecksAny fronts g s f r u → ((x : Bor A) (b : Bool) (q : F) → Called g f (x, tt) b q → (q ≡ f) × (b ≡ p x.now))
      → r ≡ any p l
  any_asked whole ran same = any_from_yields_List p _ _ _ ran (YieldsList-from_slice l whole) same ∙ any_is p l

  pub all_asked :
      iter_rest s ≡ l → ChecksAll fronts g s f r u → ((x : Bor A) (b : Bool) (q : F) → Called g f (x, tt) b q → (q ≡ f) × (b ≡ p x.now))
      → r ≡ all p l
  all_asked whole ran same = all_from_yields_List p _ _ _ ran (YieldsList-from_slice l whole) same ∙ all_is p l
