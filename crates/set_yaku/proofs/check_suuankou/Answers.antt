-- `check_suuankou` meets its contract. Assumes nothing.
use Rattle.std.proofs.Common.{◌≡◌, Bool, true, false, not, cond, refl}
use Rattle.std.specs.Bool.{beq}
use Rattle.set_yaku.specs.Sets.{suuankou}
use Rattle.set_yaku.proofs.check_suuankou.Goals as goal

-- asked whether two answers agree, the code; asked for yes or for no, the definition
asked : (b yes : Bool) → beq b yes ≡ cond yes b (not b)
asked true true = refl
asked true false = refl
asked false true = refl
asked false false = refl

pub returns : goal.returns
unfolding suuankou
returns c = simp (c.in-Standard.is, c.count_concealed.ensures, asked)
