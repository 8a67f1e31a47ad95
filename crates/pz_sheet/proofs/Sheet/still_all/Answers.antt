use Rattle.pz_sheet.proofs.Common.{List, Option, length, map, ap, ◌∙◌, Piece, grid_of, still_place}
use Rattle.pz_sheet.proofs.SheetLemmas.{lawful_seen}
use Rattle.pz_sheet.proofs.StillLemmas.{all_are_still, noted_nowhere}
use Rattle.pz_sheet.proofs.PlacedLemmas.{placed_same}
use Rattle.pz_sheet.proofs.MapLemmas.{stored_mapped}
use Rattle.pz_sheet.proofs.Sheet.still_all.Goals as goal

pub returns-then-is_empty-clause-stilled : goal.returns-then-is_empty-clause-stilled
returns-then-is_empty-clause-stilled g c =
    let a = c.self.inside in
    let none = rw c.whole.ensures at (c.is_empty.ensures.0 c.if-is_empty.true) in
    rw (← c.self.view_is) (ap (λ (cells : List (List (Option Piece))). record (grid_of a.width a.height a.layers a.cells.items) { cells = cells }) (all_are_still _ _ _ _ _ _ c.self.invariant.stored none))

pub invariant_of-self : goal.invariant_of-self
invariant_of-self g c =
    let a = c.self.inside in
    let noted = c.self.invariant.stored.noted in
    let cells = c.still_rows.new.cells.items in
    record {
      stored = stored_mapped _ a.width a.height a.layers (map still_place) a.cells.items cells a.notes c.clear.new.self c.self.invariant.stored c.still_rows.ensures.mapped (noted_nowhere _ a.width a.height c.clear.new.self cells (c.clear.ensures.rows ∙ noted.row_count) (c.clear.ensures.columns ∙ noted.column_count) c.still_rows.ensures.nowhere);
      placed = placed_same _ (length a.layers.layers) a.width a.height a.planes a.cells.items cells c.still_rows.ensures.objects c.self.invariant.placed;
    }

pub returns-clause-lawful : goal.returns-clause-lawful
returns-clause-lawful g c = lawful_seen _ _ _ _ _ _ (invariant_of-self g c).stored
