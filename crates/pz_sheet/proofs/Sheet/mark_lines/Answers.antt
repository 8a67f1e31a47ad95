use Rattle.pz_sheet.proofs.Common.{arith, ap, subst, AreMarks, LineSets, BareState}
use Rattle.pz_sheet.proofs.MarkLemmas.{Gives, gives}
use Rattle.pz_sheet.proofs.Sheet.mark_lines.Goals as goal

pub returns-then-object_count-long-clause-exact : goal.returns-then-object_count-long-clause-exact
returns-then-object_count-long-clause-exact g c =
    let a = c.self.inside in
    let axis = c.args.axis in
    let marks = c.mark.new.marks in
    subst (Gives a.planes axis marks) (ap (λ (s : BareState). s.grid) c.self.view_is) (gives g.row.N a.width a.height a.layers a.cells.items a.notes a.planes c.self.invariant.stored c.self.invariant.placed axis marks)
    (omega (arith, c.if-long-le-ROOM.true, c.line_length-long.ensures.long)) (subst (λ (sets : LineSets). AreMarks sets marks) c.lines.ensures c.mark.ensures.exact)
