use Rattle.pz_grid.proofs.Common.{rules}
use Rattle.pz_grid.proofs.NamedLemmas.{named_decide}
use Rattle.pz_grid.proofs.Level.marks_all.Goals as goal

pub returns-clause-all : goal.returns-clause-all
returns-clause-all c =
    let decides = rw c.words-2.ensures.words at (rw c.words.ensures.words at c.has_subset.ensures) in
    named_decide _ c.args.marks.now c.named.result.now c.args.row.now.cells decides (c.named.ensures (search rules))
