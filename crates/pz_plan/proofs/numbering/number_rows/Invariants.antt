use Rattle.std.proofs.Common.{◌≡◌, ◌++◌, drop, length}
use Rattle.std.specs.List.{flat_map, enumerate_from}
use Rattle.pz_plan.specs.Numbering.{rows_of, choices_of_row, choices_in_rows}
use Rattle.pz_plan.proofs.numbering.number_rows.Given as goal

abbrev pub invariant-loop-number : goal.invariant-loop-number
invariant-loop-number l = record {
  terms : l.out.items ++ rows_of (length l.choices.items) (drop l.number l.rows) ≡ rows_of (length l.fn.choices.items) l.rows;
  choices : l.choices.items ++ flat_map choices_of_row (enumerate_from l.number (drop l.number l.rows)) ≡ l.fn.choices.items ++ choices_in_rows l.rows;
}
