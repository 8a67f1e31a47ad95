use Rattle.pz_sheet.proofs.Common.{sym, ◌∙◌, pieces_of_cell}
use Rattle.pz_sheet.proofs.SheetLemmas.{unrewritten}
use Rattle.pz_sheet.proofs.Sheet.rewrite.Goals as goal

pub returns-else-changed-clause-level : goal.returns-else-changed-clause-level
returns-else-changed-clause-level g c =
    unrewritten c.args.self.now.grid c.args.x c.args.y c.args.left.now c.args.right.now (pieces_of_cell c.layers-layers.result.now c.cell.result.now)
    (rw c.layers-layers.ensures.layers (rw c.index-index.ensures.index at c.cell.ensures.cell)) (sym c.rewrite-changed.ensures.changed ∙ c.if-changed.false)
