use Rattle.std.proofs.Common.{◌≡◌, ℕ, Some, length, map}
use Rattle.std.specs.Prelude.{slice_get}
use Rattle.pz_sheet.specs.Grid.{SameSize}
use Rattle.pz_sheet.specs.Presence.{cell_of}
use Rattle.pz_store.specs.Levels.{AreLevels, level_of}
use Rattle.pz_store.proofs.levels.Levels.number_all.Given as goal

-- the cells so far have their numbers, and the levels are what they were
abbrev pub invariant-loop-index : goal.invariant-loop-index
invariant-loop-index l = record {
  levels : AreLevels l.self-inside.book l.self-inside.rows l.self-inside.powers.items;
  frame : l.self-inside.book.frame ≡ l.fn.self.frame;
  objects : l.self-inside.book.objects ≡ l.fn.self.objects;
  grids : map (level_of l.self-inside.book.frame l.self-inside.book.cells) l.self-inside.rows.rows ≡ l.fn.self.grids;
  size : SameSize l.self-inside.book.frame l.level.grid;
  long : length l.level.grid.cells ≡ length l.self-inside.book.frame.cells;
  count : length l.numbers.items ≡ l.index;
  each : (index number : ℕ) → slice_get l.numbers.items index ≡ Some number → slice_get l.self-inside.book.cells number ≡ Some (cell_of l.level.grid index);
}
