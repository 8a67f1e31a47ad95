use Rattle.pz_sheet.proofs.Common.{length, arith, ap, ◌∙◌, length-set, Grid, cell_of}
use Rattle.pz_sheet.proofs.NewerLemmas.{same_before}
use Rattle.pz_sheet.proofs.Sheet.take_all.Goals as goal

pub changes-preserved : goal.changes-preserved
changes-preserved g c =
    let size = c.changes.invariant.size in
    let other = c.args.other.now.grid in
    let is = c.take_cell.ensures in
    let long = ap (λ (level : Grid). length level.cells) is ∙ length-set c.changes.self.grid.cells c.in-Some.index (cell_of other c.in-Some.index) in
    record {
      size = rw is (record { width = size.width; height = size.height; depth = size.depth; layers = size.layers });
      low = omega (arith, long, c.in-Some.ensures.next.1);
      same = λ number below. rw is (same_before c.changes.self.grid other c.changes.from c.in-Some.index c.in-Some.ensures.next c.changes.invariant.same number below);
    }
