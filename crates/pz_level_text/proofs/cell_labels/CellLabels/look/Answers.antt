use Rattle.pz_level_text.proofs.Common.{common_steps, arith, one_changed}
use Rattle.pz_level_text.proofs.Changing.{read_at, number_within, looked}
use Rattle.pz_level_text.proofs.cell_labels.CellLabels.look.Goals as goal

pub number_at-number-requires-clause-x_in : goal.number_at-number-requires-clause-x_in
number_at-number-requires-clause-x_in c = (read_at c.args.level.now.grid c.args.index c.position-x.result.0 c.position-x.result.1 c.width.ensures.lawful c.requires.on_map c.position-x.ensures.column c.position-x.ensures.row).wide

pub number_at-number-requires-clause-y_in : goal.number_at-number-requires-clause-y_in
number_at-number-requires-clause-y_in c = (read_at c.args.level.now.grid c.args.index c.position-x.result.0 c.position-x.result.1 c.width.ensures.lawful c.requires.on_map c.position-x.ensures.column c.position-x.ensures.row).high

pub put-requires-clause-within : goal.put-requires-clause-within
put-requires-clause-within c = grind (arith, common_steps, read_at, number_within)

pub returns-clause-known : goal.returns-clause-known
returns-clause-known c seen size within known = grind (arith, common_steps, read_at, looked)

pub returns-clause-changed : goal.returns-clause-changed
returns-clause-changed c = grind (arith, common_steps, read_at, number_within, one_changed)
