use Rattle.std.proofs.Common.{◌≡◌, drop, length}
use Rattle.pz_bare.specs.Differing.{DifferWithin}
use Rattle.pz_sheet.specs.Grid.{Grid, SameSize}
use Rattle.pz_store.specs.Book.{AreNumbers}
use Rattle.pz_solve.proofs.origin.put_cells.Given as goal

-- the cells that are left
abbrev pub invariant-loop-cell : goal.invariant-loop-cell
invariant-loop-cell l = record {
  size : SameSize l.levels.frame l.bare.grid;
  long : length l.bare.grid.cells ≡ length l.initial.bare.grid.cells;
  rest : (there : Grid) → SameSize l.levels.frame there → AreNumbers l.levels.cells l.numbers there → DifferWithin l.cells l.initial.bare.grid there → DifferWithin (drop l.cell-index l.cells) l.bare.grid there;
}
