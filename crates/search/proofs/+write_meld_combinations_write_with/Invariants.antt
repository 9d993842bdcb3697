-- `search::write_meld_combinations` and `search::write_with`, which call each other, end as the number of melds to find falls: a search
-- for n melds hands on to a search for n - 1 with a meld taken, and that one to a search for n - 1.
use Rattle.std.proofs.Common.{◌+◌, ◌*◌}
use Rattle.search.proofs.+write_meld_combinations_write_with.Given as goal

abbrev pub decreases-write_meld_combinations : goal.decreases-write_meld_combinations
decreases-write_meld_combinations l = l.needed * 2

abbrev pub decreases-write_with : goal.decreases-write_with
decreases-write_with l = l.needed * 2 + 1
