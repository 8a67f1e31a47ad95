use Rattle.pz_sheet.proofs.Common.{◌<◌, ℕ, List, [], Option, get_or, arith, ap, sym, ◌∙◌, member, heading_in, Piece, Layering, standing, standing_seen, standing_by}
use Rattle.pz_sheet.proofs.SheetLemmas.{standing_on_map, piece_seen}
use Rattle.pz_sheet.proofs.Sheet.piece.Goals as goal

pub returns-then-y-height : goal.returns-then-y-height
returns-then-y-height g c =
    let grid = c.args.self.now.grid in
    let object = c.args.object in
    let cell = c.cell.result.now in
    let law = c.layers-layers.ensures.law in
    let heading = λ (layering : Layering). heading_in cell.movement (get_or layering.layers object 0) in
    let wide : c.args.x < grid.width = omega (arith, c.if-x-width.true, c.width.ensures.width) in
    let high : c.args.y < grid.height = omega (arith, c.if-y-height.true, c.height.ensures.height) in
    let here = c.cell.ensures.cell ∙ ap (λ (i : ℕ). get_or grid.cells i []) c.index.ensures.index in
    let stand = standing_on_map grid c.args.x c.args.y object wide high ∙ ap (λ (places : List (Option Piece)). standing places object) (sym here)
    ∙ standing_seen grid.depth grid.layers cell.objects cell.movement object law.layered c.cell.ensures.sound
    ∙ ap (λ (layering : Layering). standing_by (member cell.objects object) (heading layering)) (sym c.layers-layers.ensures.layers) in
    piece_seen (member cell.objects object) (heading c.layers-layers.result.now) object _ c.piece.result stand c.piece.ensures
