-- `has_ends` meets its contract, for any question q that the test answers. Assumes nothing.
use Rattle.std.proofs.Common.{rules, tests, ◌≡◌, ◌||◌}
use Rattle.meld.specs.Meld.{is_sequence}
use Rattle.meld_yaku.specs.Melds.{set_of}
use Rattle.end_yaku.specs.Ends.{end_run}
use Rattle.end_yaku.proofs.has_ends.Goals as goal

pub returns : goal.returns
returns g c =
    record {
      ends = λ q k.
          let pair : c.test.result ≡ q c.args.pair.0 = search (rules, k) in
          simp (
            pair,
            c.any_meld-sequence.ensures is_sequence (λ m b e. search (rules, tests)),
            c.all_melds-each.ensures (λ m. end_run m || set_of q m) (λ m b e. search (rules, tests, k)),
          );
    }
