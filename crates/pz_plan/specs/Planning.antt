-- The plan of a rule, or its first fault.
use Rattle.std.specs.Prelude.{Bool, List, Option, Some, None, Result, Ok, Err}
use Rattle.pz_game.specs.declared.denotation.Denotation.{Denotation}
use Rattle.pz_plan.specs.declared.fault.RuleFault.{RuleFault}
use Rattle.pz_plan.specs.declared.fault.RuleFault.TheVariants as fault
use Rattle.pz_plan.specs.declared.plan.Mention.{Mention}
use Rattle.pz_plan.specs.declared.plan.Plan.{Plan}
use Rattle.pz_plan.specs.declared.plan.PlanRow.{PlanRow}
use Rattle.pz_plan.specs.declared.plan.Term.{Term}
use Rattle.pz_grammar.specs.declared.rule.Rule.{Rule}
use Rattle.pz_plan.specs.declared.spelling.Side.TheVariants as side
use Rattle.pz_plan.specs.Checks.{fault_of}
use Rattle.pz_plan.specs.Commands.{commands_given}
use Rattle.pz_plan.specs.Deciding.{decided_rows}
use Rattle.pz_plan.specs.Numbering.{choices_in_rows, rows_of}
use Rattle.pz_plan.specs.Prefix.{directions_of}
use Rattle.pz_plan.specs.Spelling.{rows_spelled_out}

-- the plan of a rule whose left is spelled out. None: it is ambiguous which choice decides an item of its right
unfoldable pub with_right : Rule → List (PlanRow Mention) → Option (List (PlanRow Term)) → Result Plan RuleFault
with_right rule left None = Err fault.AmbiguousRight
with_right rule left (Some right) =
    Ok (record { directions = directions_of rule; choices = choices_in_rows left; left = rows_of 0 left; right = right; commands = commands_given rule.commands })

-- the plan of a rule whose names are spelled out
unfoldable pub plan_of_spelled : Rule → List (PlanRow Mention) → List (PlanRow Mention) → Result Plan RuleFault
plan_of_spelled rule left right = with_right rule left (decided_rows (choices_in_rows left) 0 right)

-- the plan of a rule, late or not, or its first fault
unfoldable pub plan_of : List Denotation → Bool → Rule → Result Plan RuleFault
plan_of table is_late rule =
    elim (fault_of table is_late rule) [
      | Some fault ↦ Err fault
      | None ↦ plan_of_spelled rule (rows_spelled_out side.Left table rule.left) (rows_spelled_out side.Right table rule.right)
    ]
