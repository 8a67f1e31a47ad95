use Rattle.pz_sheet.proofs.Common.{length, arith, ◌∙◌, filled_cell, covers_all, small_cell}
use Rattle.pz_sheet.proofs.PlacedLemmas.{all_known, placed_all}
use Rattle.pz_sheet.proofs.SheetLemmas.{lawful_seen}
use Rattle.pz_sheet.proofs.MapLemmas.{long_mapped, stored_mapped}
use Rattle.pz_sheet.proofs.Sheet.fill.Goals as goal

pub fill_cells-requires : goal.fill_cells-requires
fill_cells-requires g c =
    let law = c.self.invariant.stored.law in
    let on_layer = rw (← c.self.view_is) at c.requires.on_layer in
    (small_cell _ law.short, (omega arith, (omega (arith, law.layered c.args.piece.object 0 on_layer.0, on_layer.1), (on_layer, c.self.invariant.stored.sound))))

pub renew_notes-requires : goal.renew_notes-requires
renew_notes-requires g c =
    let stored = c.self.invariant.stored in
    let long = long_mapped c.self.inside.layers (filled_cell c.args.layer c.args.piece) c.self.inside.cells.items c.fill_cells.new.cells.items c.fill_cells.ensures in
    (omega arith, (small_cell _ stored.law.short, rw (c.deref.ensures.value, stored.noted.column_count, stored.noted.row_count) (long ∙ stored.covers)))

pub note_all-requires : goal.note_all-requires
note_all-requires g c =
    let a = c.self.inside in
    let old = c.self.invariant.stored in
    let fits = c.self.invariant.placed.fits in
    let cells = c.fill_cells.new.cells.items in
    let covers = covers_all _ a.width a.height _ a.planes fits (long_mapped a.layers (filled_cell c.args.layer c.args.piece) a.cells.items cells c.fill_cells.ensures ∙ old.covers) in
    (small_cell _ old.law.short, (old.law.short, (rw c.deref-2.ensures.value covers, rw c.deref-2.ensures.value (all_known _ a.layers a.width a.height a.planes cells fits c.fill_cells.ensures.sound))))

pub invariant_of-self : goal.invariant_of-self
invariant_of-self g c =
    let a = c.self.inside in
    let stored = c.self.invariant.stored in
    let cells = c.fill_cells.new.cells.items in
    record {
      stored = stored_mapped _ a.width a.height a.layers (filled_cell c.args.layer c.args.piece) a.cells.items cells a.notes c.renew_notes.new.notes stored c.fill_cells.ensures (rw (stored.noted.column_count, stored.noted.row_count, c.deref.ensures.value) at c.renew_notes.ensures);
      placed = placed_all _ (length a.layers.layers) a.width a.height a.planes c.note_all.new.planes cells c.self.invariant.placed.fits c.note_all.ensures.size (rw c.deref-2.ensures.value at c.note_all.ensures.there) c.note_all.ensures.ends;
    }

pub returns-clause-lawful : goal.returns-clause-lawful
returns-clause-lawful g c = lawful_seen _ _ _ _ _ _ (invariant_of-self g c).stored
