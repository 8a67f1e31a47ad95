use Rattle.pz_sheet.proofs.Common.{ℕ, ◌*◌, ◌<◌, ◌≤◌, false, get_or, member, Cell, HaveSameLines, AreThereAt, EndWithin}
use Rattle.pz_sheet.proofs.noting.note_all.Given as goal

abbrev pub invariant-loop-index : goal.invariant-loop-index
invariant-loop-index g l = record {
  size : HaveSameLines l.initial.planes l.planes;
  there : (k : ℕ) (cell : Cell g.row.N) → k < l.index → AreThereAt l.initial.planes l.planes k (member (get_or l.cells k cell).objects);
  none : (k : ℕ) → l.index ≤ k → k < l.initial.planes.columns.count * l.initial.planes.rows.count → AreThereAt l.initial.planes l.planes k (λ object. false);
  ends : EndWithin l.initial.planes.columns.count l.initial.planes.rows.count l.planes;
}
