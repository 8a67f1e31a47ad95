use Rattle.std.proofs.Common.{◌≡◌, drop, length}
use Rattle.pz_bare.specs.Differing.{DifferWithin}
use Rattle.pz_sheet.specs.Grid.{SameSize}
use Rattle.pz_bare.proofs.BareLevel.take_cells_of.Given as goal

abbrev pub invariant-loop-cell : goal.invariant-loop-cell
invariant-loop-cell l = record {
  size : SameSize l.self.grid l.other.grid;
  long : length l.self.grid.cells ≡ length l.initial.self.grid.cells;
  rest : DifferWithin (drop l.cell-index l.cells) l.self.grid l.other.grid;
}
