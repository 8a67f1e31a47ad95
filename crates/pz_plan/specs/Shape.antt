-- The rows of a rule are short, and those of a plan have the shape of rows.
use Rattle.std.specs.Prelude.{◌≤◌, List, length, All}
use Rattle.pz_game.specs.Pattern.{HasShape}
use Rattle.pz_game.specs.declared.limits.TheConstants.{MOST_ROW_CELLS}
use Rattle.pz_grammar.specs.declared.rule.Cell.{Cell}
use Rattle.pz_plan.specs.declared.plan.PlanRow.{PlanRow}

abbrev pub IsShaped : {T : Type 0} → PlanRow T → Type 0
IsShaped row = HasShape (length row.cells) row.gap_at

abbrev pub AreShaped : {T : Type 0} → List (PlanRow T) → Type 0
AreShaped rows = All IsShaped rows

-- rows of no more cells than a row may have
abbrev pub AreShort : List (List Cell) → Type 0
AreShort rows = All (λ row. length row ≤ MOST_ROW_CELLS) rows
