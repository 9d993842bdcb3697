use Rattle.std.proofs.Common.{rules, [], refl, of_calls, inl, inr}
use Rattle.stored.proofs.Ran.{ran_more}
use Rattle.stored.proofs.files.run.Goals as goal
use Rattle.stored.proofs.files.run.Goals.{else-loop-test, then-loop-test+in_ok-n+then-n-eq0, then-loop-test+in_ok-n+else-n-eq0+then-n-length}

pub loop-init : goal.loop-init
loop-init g c = (search rules, record { none = c.default-tally.result; nothing = (search rules, search rules); records = []; calls = refl })

pub loop-preserved : goal.loop-preserved
loop-preserved g c = (search of_calls, ran_more g.P.FnMut c.args.play _ _ _ _ _ c.loop.invariant.1 record { shown = _; shows = refl; lent = _; lends = refl; left = _; met = c.in_ok-play.ensures; leaves = refl })

pub returns : goal.returns
returns g c = record {
  last = c.loop.play;
  whole = c.loop.tally;
  ran = c.loop.invariant.1;
  rest = elim c.loop-test.branch [
    | else-loop-test w ↦ inl w.tally-is
    | then-loop-test+in_ok-n+then-n-eq0 w ↦ inl w.tally-is
    | then-loop-test+in_ok-n+else-n-eq0+then-n-length w ↦ inr record { records = search rules; differ = search rules; kinds = search rules }
  ];
}
