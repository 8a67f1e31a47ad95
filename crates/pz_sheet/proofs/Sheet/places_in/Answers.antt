use Rattle.pz_sheet.proofs.Common.{◌<◌, arith, ap, sym, subst, LineSets, MayHold, BareState}
use Rattle.pz_sheet.proofs.MarkLemmas.{Admits, admits}
use Rattle.pz_sheet.proofs.Sheet.places_in.Goals as goal

pub returns : goal.returns
returns g c at at_in holds =
    let a = c.self.inside in
    let line = c.args.line in
    let pattern = c.args.pattern.now in
    let all = subst (Admits a.planes line pattern) (ap (λ (s : BareState). s.grid) c.self.view_is) (admits g.row.N a.width a.height a.layers a.cells.items a.notes a.planes c.self.invariant.stored c.self.invariant.placed line pattern) in
    let small : at < 128 = omega (arith, at_in, c.requires.short) in
    c.places.ensures at small (subst (λ (sets : LineSets). MayHold sets line.number at pattern) (sym c.lines.ensures) (all c.requires.line_in at at_in small holds))
