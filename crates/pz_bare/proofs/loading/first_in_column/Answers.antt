use Rattle.std.proofs.Common.{ℕ, arith, sym, ◌∙◌}
use Rattle.pz_sheet.specs.Grid.{place_at}
use Rattle.pz_bare.proofs.LoadingLemmas.{first_none_more, first_found}
use Rattle.pz_bare.proofs.loading.first_in_column.Goals as goal

pub returns-in-Some-clause-first : goal.returns-in-Some-clause-first
returns-in-Some-clause-first g c =
    let grid = c.args.sheet.now.grid in
    sym (first_found (λ (y : ℕ). place_at grid c.args.x y c.args.layer) c.loop-y.y grid.height c.in-Some.piece c.loop-y.invariant (omega arith) (sym c.place.ensures.place ∙ c.in-Some.is))

pub loop-y-preserved : goal.loop-y-preserved
loop-y-preserved g c =
    let grid = c.args.sheet.now.grid in
    first_none_more (λ (y : ℕ). place_at grid c.args.x y c.args.layer) c.loop-y.y c.loop-y.invariant (sym c.place.ensures.place ∙ c.in-None.is)
