use Rattle.pz_sheet.proofs.Common.{◌<◌, arith, ap, BareState}
use Rattle.pz_sheet.proofs.StillLemmas.{columns_are_still}
use Rattle.pz_sheet.proofs.Sheet.next_column.Goals as goal

pub returns-in-None-clause-next : goal.returns-in-None-clause-next
returns-in-None-clause-next g c = columns_are_still _ _ _ _ _ _ c.self.invariant.stored _ (ap (λ (s : BareState). s.grid) c.self.view_is) c.args.from c.args.self.now.grid.width (grind (arith, c.self.view_is)) (λ line number late below. c.in-None.ensures line number late (grind (arith, below, c.self.view_is, c.self.invariant.stored.noted.column_count)))

pub returns-in-Some-clause-next : goal.returns-in-Some-clause-next
returns-in-Some-clause-next g c =
    let found = c.in-Some.ensures in
    let within : c.in-Some.x < c.self.inside.width = omega (arith, found.1, c.self.invariant.stored.noted.column_count) in
    (found.0, grind (arith, within, c.self.view_is), columns_are_still _ _ _ _ _ _ c.self.invariant.stored _ (ap (λ (s : BareState). s.grid) c.self.view_is) c.args.from c.in-Some.x (omega (arith, within)) found.2)
