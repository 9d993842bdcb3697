-- `search::count_meld_combinations` ends as the number of melds to find falls.
use Rattle.search.proofs.+count_meld_combinations.Given as goal

abbrev pub decreases-count_meld_combinations : goal.decreases-count_meld_combinations
decreases-count_meld_combinations l = l.needed
