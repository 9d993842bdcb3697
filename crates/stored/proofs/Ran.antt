-- After one call more, calls at records have left what that call leaves.
use Rattle.std.proofs.Common.{◌∷◌, ◌++◌, []}
use Rattle.std.specs.declared.result.Result.{Result}
use Rattle.std.specs.Fn.{Mut}
use Rattle.std.specs.Borrow.{Bor, MutBor}
use Rattle.std.proofs.lemmas.Fn.{FoldsTo-push}
use Rattle.stored.specs.declared.tallies.Tally.{Tally}
use Rattle.stored.specs.Runs.{Plays, Ran}

pub ran_more : {F B K E : Type 0} (g : Mut F (Bor B × (MutBor (Tally K) × Unit {0})) (Result (Unit {0}) E × (MutBor (Tally K) × Unit {0}))) (f q r : F) (a b : Tally K) (x : B) → Ran g f q a → Plays g (q, a) x (r, b) → Ran g f r b
ran_more g f q r a b x w p = record {
  none = w.none;
  nothing = w.nothing;
  records = w.records ++ (x ∷ []);
  calls = FoldsTo-push (Plays g) (f, w.none) w.records (q, a) x (r, b) w.calls p;
}
