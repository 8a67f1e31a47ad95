use Rattle.std.proofs.Common.{◌≡◌, ℕ, ◌<◌, ◌≤◌, ◌-◌, ◌++◌, All, Some, length, map}
use Rattle.std.specs.Prelude.{slice_get}
use Rattle.pz_sheet.proofs.ChangeLemmas.{left_from}
use Rattle.pz_sheet.specs.Changes.{TellsOf, cell_there, changed_cells, differ_in}
use Rattle.pz_sheet.specs.Grid.{SameSize}
use Rattle.pz_sheet.specs.Presence.{cell_of}
use Rattle.pz_store.specs.Book.{Extends}
use Rattle.pz_store.specs.Digest.{digest_of}
use Rattle.pz_store.specs.Levels.{AreLevels, IsRow, level_of}
use Rattle.pz_store.proofs.levels.Levels.number.Given as goal

-- the cells so far have their numbers, those behind have the numbers of the level before, the digest is that of the level between, and
-- the cells in which they differ are among the changed ones so far
abbrev pub invariant-changes : goal.invariant-changes
invariant-changes l = record {
  levels : AreLevels l.self-inside.book l.self-inside.rows l.self-inside.powers.items;
  frame : l.self-inside.book.frame ≡ l.fn.self.frame;
  objects : l.self-inside.book.objects ≡ l.fn.self.objects;
  grids : map (level_of l.self-inside.book.frame l.self-inside.book.cells) l.self-inside.rows.rows ≡ l.fn.self.grids;
  extends : Extends l.fn.self.cells l.self-inside.book.cells;
  size : SameSize l.self-inside.book.frame l.level.grid;
  long : length l.level.grid.cells ≡ length l.self-inside.book.frame.cells;
  known : TellsOf (differ_in l.level.grid l.before.grid) (length l.level.grid.cells) l.known;
  row : IsRow l.self-inside.book.frame l.self-inside.book.cells l.numbers;
  low : l.from ≤ length l.level.grid.cells;
  each : (index number : ℕ) → index < l.from → slice_get l.numbers index ≡ Some number → slice_get l.self-inside.book.cells number ≡ Some (cell_of l.level.grid index);
  left : (index number : ℕ) → l.from ≤ index → slice_get l.numbers index ≡ Some number → slice_get l.self-inside.book.cells number ≡ Some (cell_of l.before.grid index);
  digest : l.digest ≡ digest_of l.self-inside.book.objects (level_of l.self-inside.book.frame l.self-inside.book.cells l.numbers);
  changed : map (cell_there l.before.grid) l.changed.items ++ left_from l.level.grid l.before.grid l.from ≡ map (cell_there l.before.grid) l.fn.changed.items ++ changed_cells l.level.grid l.before.grid;
  within : All (λ index. index < length l.level.grid.cells) l.fn.changed.items → All (λ index. index < length l.level.grid.cells) l.changed.items;
}

abbrev pub decreases-changes : goal.decreases-changes
decreases-changes l = length l.level.grid.cells - l.from
