-- What a run over the records of a file counts. These are definitions.
use Rattle.std.specs.Prelude.{Ok, ◌≡◌, ◌+◌, ◌%◌, ◌^◌, ◌⊎◌, List}
use Rattle.std.specs.declared.result.Result.{Result}
use Rattle.std.specs.List.{FoldsTo}
use Rattle.std.specs.Fn.{Called, Mut}
use Rattle.std.specs.Borrow.{Bor, MutBor}
use Rattle.stored.specs.declared.tallies.Tally.{Tally}

-- b has one record more than a, and one answer more that differs
pub record AddsDiffering {K : Type 0} (a b : Tally K) : Type 0 where
  pub records : b.records ≡ (a.records + 1) % 2 ^ 64
  pub differ : b.differ ≡ (a.differ + 1) % 2 ^ 64
  pub kinds : b.kinds ≡ a.kinds

-- of a closure that takes a record and a tally
module _ {F B K E : Type 0} (g : Mut F (Bor B × (MutBor (Tally K) × Unit {0})) (Result (Unit {0}) E × (MutBor (Tally K) × Unit {0}))) where
  -- a call at the record x takes closure and tally from u to v, and is Ok
  pub record Plays (u : F × Tally K) (x : B) (v : F × Tally K) : Type 0 where
    pub shown : Bor B
    pub shows : shown.now ≡ x
    pub lent : MutBor (Tally K)
    pub lends : lent.now ≡ u.1
    pub left : MutBor (Tally K)
    pub met : Called g u.0 (shown, (lent, tt)) (Ok tt, (left, tt)) v.0
    pub leaves : left.now ≡ v.1

  -- calls at records, one after the other, from nothing counted, have left the closure q and the tally a
  pub record Ran (f q : F) (a : Tally K) : Type 0 where
    pub none : Tally K
    pub nothing : (none.records ≡ 0) × (none.differ ≡ 0)
    pub records : List B
    pub calls : FoldsTo Plays (f, none) records (q, a)

  -- such calls have left the tally t, or t has one more record, which is cut off
  pub record Runs (f : F) (t : Tally K) : Type 0 where
    pub last : F
    pub whole : Tally K
    pub ran : Ran f last whole
    pub rest : (t ≡ whole) ⊎ AddsDiffering whole t
