-- The reading that a value of the code stands for: agari's HandStructure. These are definitions.
use Rattle.hand.specs.Reading.{Reading, pairs, orphans, standard}
use Rattle.structure.specs.declared.HandStructure.{HandStructure}
use Rattle.structure.specs.declared.HandStructure.TheVariants.{Standard, Chiitoitsu, Kokushi}

abbrev pub reading_of : HandStructure → Reading
reading_of (Standard pair melds) = standard pair.0 melds
reading_of (Chiitoitsu ps) = pairs ps
reading_of (Kokushi pair) = orphans pair.0
