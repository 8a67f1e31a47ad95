use Rattle.std.proofs.Common.{arith, ap, ◌∙◌}
use Rattle.pz_planes.specs.Planes.{PlaneSets}
use Rattle.pz_planes.proofs.PlaneLemmas.{column_in, row_in}
use Rattle.pz_planes.proofs.planes.Planes.note_at.Goals as goal

pub nonzero_rem-index : goal.nonzero_rem-index
nonzero_rem-index c = grind (arith, column_in c.args.index c.args.self.now.columns.count c.args.self.now.rows.count c.requires.within, c.count-width.ensures, c.self.view_is)

pub nonzero_div-index : goal.nonzero_div-index
nonzero_div-index c = grind (arith, column_in c.args.index c.args.self.now.columns.count c.args.self.now.rows.count c.requires.within, c.count-width.ensures, c.self.view_is)

pub note-requires : goal.note-requires
note-requires c = grind (arith, column_in c.args.index c.args.self.now.columns.count c.args.self.now.rows.count c.requires.within, row_in c.args.index c.args.self.now.columns.count c.args.self.now.rows.count c.requires.within, c.count-width.ensures, c.self.view_is)

pub returns : goal.returns
returns c = rw (c.count-width.ensures ∙ ap (λ (p : PlaneSets). p.columns.count) c.self.view_is) at c.note.ensures
