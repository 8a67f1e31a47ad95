-- The job that a list of entries makes.
use Rattle.std.specs.Prelude.{ℕ, List, map, Option, Some, None, Result, Ok, Err}
use Rattle.pz_game.specs.declared.game.GameParts.{GameParts}
use Rattle.pz_source.specs.Reading.{source_of}
use Rattle.pz_program.specs.declared.instance.Program.{Program}
use Rattle.pz_rules.specs.Drafts.{program_of}
use Rattle.pz_entries.specs.declared.entry.Entry.{Entry}
use Rattle.pz_record.specs.declared.input.Input.{Input}
use Rattle.pz_record.specs.declared.order.Order.{Order}
use Rattle.pz_case.specs.declared.case.Case.{Case}
use Rattle.pz_case.specs.declared.item.Refusal.{Refusal}
use Rattle.pz_case.specs.declared.item.Refusal.TheVariants.{NoLevel}
use Rattle.pz_case.specs.FirstLevel.{level_from}
use Rattle.pz_case.specs.Plan.{PlanState}
use Rattle.pz_case.specs.Rulebook.{RulebookState}
use Rattle.pz_job.specs.Rulebooks.{or_refused}

abbrev pub or_no_level : Option ℕ → (ℕ → PlanState) → Result PlanState Refusal
or_no_level (Some first) plan = Ok (plan first)
or_no_level None plan = Err NoLevel

abbrev pub plan_at : GameParts → Program → List Input → List (List (List ℕ)) → Order → ℕ → PlanState
plan_at game program inputs recorded order first =
    record { game = game; program = program; first = first; inputs = inputs; recorded = recorded; order = order }

-- play.refused: a session is refused by the fault of its source, else by the fault of its rules, else if no level is left from
-- its index on
unfoldable pub plan_of : List ℕ → List Input → List (List (List ℕ)) → ℕ → Order → Result PlanState Refusal
plan_of source inputs recorded index order =
    or_refused (source_of source) (λ game.
    or_refused (program_of game) (λ program.
    or_no_level (level_from game index) (plan_at game program inputs recorded order)))

-- the same, if it is known what the source gives
abbrev pub plan_from : Result RulebookState Refusal → List Input → List (List (List ℕ)) → ℕ → Order → Result PlanState Refusal
plan_from (Ok rulebook) inputs recorded index order =
    or_no_level (level_from rulebook.game index) (plan_at rulebook.game rulebook.program inputs recorded order)
plan_from (Err refusal) inputs recorded index order = Err refusal

abbrev pub case_of : Order → Entry → Case
case_of order entry = record { name = entry.name; plan = plan_of entry.source entry.inputs entry.recorded entry.index order }

-- a case for each entry, in their order: none is left out
abbrev pub job_of : Order → List Entry → List Case
job_of order entries = map (case_of order) entries
