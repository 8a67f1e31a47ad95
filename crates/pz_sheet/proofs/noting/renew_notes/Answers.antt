use Rattle.pz_sheet.proofs.Common.{length, arith, ◌∙◌}
use Rattle.pz_sheet.proofs.SheetLemmas.{noted_more}
use Rattle.pz_sheet.proofs.noting.renew_notes.Goals as goal

pub loop-index-preserved : goal.loop-index-preserved
loop-index-preserved g c =
    let i = c.loop-index.invariant in
    let done = c.note_heading.ensures in
    record {
      row_count = done.wider.row_count ∙ i.row_count;
      column_count = done.wider.column_count ∙ i.column_count;
      each = noted_more g.row.N (length c.clear.new.self.columns) c.loop-index.notes c.note_heading.new.notes c.args.cells.now c.loop-index.index c.index-cells-index.result c.loop-index-test.true c.index-cells-index.is done.wider (rw i.column_count at done.noted) i.each;
    }

pub returns : goal.returns
returns g c =
    let i = c.loop-index.invariant in
    record {
      row_count = i.row_count ∙ c.clear.ensures.rows;
      column_count = i.column_count ∙ c.clear.ensures.columns;
      each = λ index cell within. rw c.clear.ensures.columns at (i.each index cell (omega (arith, within, c.loop-index-test.false)));
    }
