use Rattle.pz_sheet.proofs.Common.{◌≡◌, arith, sym, ◌∙◌, layers_in}
use Rattle.pz_sheet.proofs.SameLemmas.{same_here}
use Rattle.pz_sheet.proofs.Sheet.has_cell_of.Goals as goal

pub returns : goal.returns
returns g c =
    let grid = c.args.self.now.grid in
    let other = c.args.other.now.grid in
    let over : layers_in other ≡ layers_in grid = grind (arith, c.requires.size) in
    let told = same_here g.row.N (layers_in grid) (layers_in other) c.cell.result.now c.cell-2.result.now over c.layers.ensures.law.layered c.cell.ensures.sound c.cell-2.ensures.sound c.same.result c.same.ensures in
    (λ t. sym c.cell.ensures.cell ∙ told.0 t ∙ c.cell-2.ensures.cell, λ same. told.1 (c.cell.ensures.cell ∙ same ∙ sym c.cell-2.ensures.cell))
