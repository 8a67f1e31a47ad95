use Rattle.pz_sheet.proofs.Common.{◌<◌, arith, ap, BareState}
use Rattle.pz_sheet.proofs.SheetLemmas.{lawful_here}
use Rattle.pz_sheet.proofs.StillLemmas.{rows_are_still}
use Rattle.pz_sheet.proofs.Sheet.next_noted.Goals as goal

pub returns-in-None-clause-next : goal.returns-in-None-clause-next
returns-in-None-clause-next g c = rows_are_still _ _ _ _ _ _ c.self.invariant.stored _ (ap (λ (s : BareState). s.grid) c.self.view_is) c.args.x c.args.from c.args.self.now.grid.height c.requires (grind (arith, c.self.view_is)) (λ line number late below. c.in-None.ensures line number late (grind (arith, below, c.self.view_is, c.self.invariant.stored.noted.row_count)))

pub returns-in-Some-clause-next : goal.returns-in-Some-clause-next
returns-in-Some-clause-next g c =
    let found = c.in-Some.ensures in
    let within : c.in-Some.y < c.self.inside.height = omega (arith, found.1, c.self.invariant.stored.noted.row_count) in
    (found.0, grind (arith, within, c.self.view_is), rows_are_still _ _ _ _ _ _ c.self.invariant.stored _ (ap (λ (s : BareState). s.grid) c.self.view_is) c.args.x c.args.from c.in-Some.y c.requires (omega (arith, within)) found.2)

pub returns-in-None-clause-lawful : goal.returns-in-None-clause-lawful
returns-in-None-clause-lawful g c = lawful_here _ _ _ _ _ _ _ c.self.invariant.stored c.self.view_is

pub returns-in-Some-clause-lawful : goal.returns-in-Some-clause-lawful
returns-in-Some-clause-lawful g c = lawful_here _ _ _ _ _ _ _ c.self.invariant.stored c.self.view_is
