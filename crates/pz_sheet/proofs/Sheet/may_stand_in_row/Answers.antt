use Rattle.pz_sheet.proofs.Common.{◌<◌, arith}
use Rattle.pz_sheet.proofs.MarkLemmas.{missing_in_row}
use Rattle.pz_sheet.proofs.Sheet.may_stand_in_row.Goals as goal

pub returns-else-self-gt-ROOM : goal.returns-else-self-gt-ROOM
returns-else-self-gt-ROOM g c = λ none x x_in.
    let wide : x < c.self.inside.width = rw (← c.self.view_is) at x_in in
    rw (← c.self.view_is) (missing_in_row _ _ _ _ _ _ _ c.self.invariant.stored c.self.invariant.placed c.args.objects.now x c.args.y wide (rw (← c.self.view_is) at c.requires) (omega (arith, wide, c.if-self-gt-ROOM.false)) (rw c.lines-rows.ensures at (c.may_have_one_of.ensures none)))
