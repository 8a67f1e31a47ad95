use Rattle.pz_sheet.proofs.Common.{covers_all, small_cell}
use Rattle.pz_sheet.proofs.PlacedLemmas.{all_known}
use Rattle.pz_sheet.proofs.noting.noted.Goals as goal

pub note_all-requires : goal.note_all-requires
note_all-requires g c =
    let law = c.object_count-objects.ensures.law in
    let fits = rw c.object_count-objects.ensures.count at c.in_ok-planes.ensures.size in
    (small_cell _ law.short, (law.short, (covers_all _ c.args.width c.args.height _ c.in_ok-planes.planes fits c.requires.covers, all_known g.row.N c.args.layers.now c.args.width c.args.height c.in_ok-planes.planes c.args.cells.now fits c.requires.sound)))
