use Rattle.std.proofs.Common.{◌≡◌, ◌++◌, ◌+◌, drop, length}
use Rattle.std.specs.List.{flat_map, enumerate_from}
use Rattle.pz_plan.specs.Numbering.{asked_count, cells_of, choices_of_cell, choices_in_row}
use Rattle.pz_plan.proofs.numbering.number_cells.Given as goal

abbrev pub invariant-loop-cell : goal.invariant-loop-cell
invariant-loop-cell l = record {
  terms : l.out.items ++ cells_of (length l.choices.items) (drop l.cell l.cells) ≡ cells_of (length l.fn.choices.items) l.cells;
  choices : l.choices.items ++ flat_map (choices_of_cell l.row) (enumerate_from l.cell (drop l.cell l.cells)) ≡ l.fn.choices.items ++ choices_in_row l.row l.cells;
  count : length l.choices.items + asked_count (drop l.cell l.cells) ≡ length l.fn.choices.items + asked_count l.cells;
}
