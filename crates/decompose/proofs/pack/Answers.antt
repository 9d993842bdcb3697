-- `decompose::pack` meets its contract. Assumes nothing.
use Rattle.decompose.proofs.Words.{words_held, words_fit}
use Rattle.decompose.proofs.pack.Goals as goal

pub returns : goal.returns
returns c =
    let cs = c.args.counts.now in (
      words_held cs c.told-counts c.requires _ c.pack_range.ensures c.pack_range-2.ensures,
      words_fit cs c.told-counts c.requires _ c.pack_range.ensures c.pack_range-2.ensures,
    )
