use Rattle.pz_sheet.proofs.Common.{◌≤◌, arith, ap, sym, subst, line_length, LineSets, MayRun, BareState}
use Rattle.pz_sheet.proofs.MarkLemmas.{AdmitsRun, admits_run}
use Rattle.pz_sheet.proofs.Sheet.starts_in.Goals as goal

pub returns : goal.returns
returns g c at at_in low holds =
    let a = c.self.inside in
    let walk = c.args.walk in
    let line = walk.line in
    let patterns = c.args.patterns.now in
    let all = subst (AdmitsRun a.planes walk patterns) (ap (λ (s : BareState). s.grid) c.self.view_is) (admits_run g.row.N a.width a.height a.layers a.cells.items a.notes a.planes c.self.invariant.stored c.self.invariant.placed walk patterns) in
    let short : line_length c.args.self.now.grid line.axis ≤ 128 = omega (arith, c.line_length.ensures.long, c.if-line_length-gt-ROOM.false) in
    c.starts.ensures at low (subst (λ (sets : LineSets). MayRun sets line.number walk.way patterns at) (sym c.lines.ensures) (all c.requires.line_in short c.requires.run.0 at at_in holds))
