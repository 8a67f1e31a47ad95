use Rattle.std.proofs.Common.{arith, sym, ◌∙◌}
use Rattle.pz_bare.specs.Loading.{first_in_column}
use Rattle.pz_bare.proofs.LoadingLemmas.{first_none_more, first_found}
use Rattle.pz_bare.proofs.loading.first_on.Goals as goal

pub returns-in-Some-clause-first : goal.returns-in-Some-clause-first
returns-in-Some-clause-first g c =
    let grid = c.args.sheet.now.grid in
    sym (first_found (first_in_column grid c.args.layer) c.loop-x.x grid.width c.in-Some.piece c.loop-x.invariant (omega arith) (sym c.first_in_column.ensures.first ∙ c.in-Some.is))

pub loop-x-preserved : goal.loop-x-preserved
loop-x-preserved g c =
    first_none_more (first_in_column c.args.sheet.now.grid c.args.layer) c.loop-x.x c.loop-x.invariant (sym c.first_in_column.ensures.first ∙ c.in-None.is)
