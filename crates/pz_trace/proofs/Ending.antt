-- The last stage of a step is the step.
use Rattle.std.proofs.Common.{◌≡◌, ℕ, suc, List, [], ◌∷◌, ◌||◌, Option, Some, None, Result, Ok, Err, fold, refl, ap, sym, ◌∙◌, arith}
use Rattle.std.proofs.lemmas.List.Folds.{fold_stays}
use Rattle.pz_game.specs.declared.direction.Dir.{Dir}
use Rattle.pz_game.specs.Game.{players_of}
use Rattle.pz_game.specs.declared.game.GameParts.{GameParts}
use Rattle.pz_program.specs.Commands.{no_commands, either}
use Rattle.pz_program.specs.declared.commands.Commands.{Commands}
use Rattle.pz_program.specs.declared.instance.Block.{Block}
use Rattle.pz_program.specs.declared.instance.Program.{Program}
use Rattle.pz_sheet.specs.Grid.{Grid}
use Rattle.pz_grid.specs.Movement.{after_movement}
use Rattle.pz_turn.specs.declared.outcome.StepFault.{StepFault}
use Rattle.pz_turn.specs.Outcome.{Outcome, nothing_run, followed_by, outcome_behind}
use Rattle.pz_turn.specs.Step.{given_input, with_movement, then_moved, step_ended}
unfoldable use Rattle.pz_turn.specs.Step.{block_runs, blocks_run, rules_run, step_of}
use Rattle.pz_turn.proofs.Passes.{either_comm}
use Rattle.pz_turn.proofs.Segments.{follow_pass}
use Rattle.pz_trace.specs.declared.stage.Part.{Part}
use Rattle.pz_trace.specs.declared.stage.Part.TheVariants.{Early, Late}
use Rattle.pz_trace.specs.Stages.{StageState, Course, Standing, Asked, going_on, blocks_from, change_between, end_of, end_from, late_from, movement_from, early_from, end_in}
unfoldable use Rattle.pz_trace.specs.Stages.{stages_of}

-- how a course ends that follows this outcome
abbrev end_after : Outcome Grid → Course → Result (Outcome Grid) StepFault
end_after before course = elim course.stop [ None ↦ Ok (fold (λ (before : Outcome Grid) (stage : StageState). stage.gave) before course.stages) | Some fault ↦ Err fault ]

abbrev standing_of : Outcome Grid → Standing
standing_of o = record { level = o.level; commands = o.commands }

abbrev on_ok : (Outcome Grid → Result (Outcome Grid) StepFault) → Result (Outcome Grid) StepFault → Result (Outcome Grid) StepFault
on_ok f (Err fault) = Err fault
on_ok f (Ok o) = f o

abbrev step : Result (Outcome Grid) StepFault → Block → Result (Outcome Grid) StepFault
step so_far block = followed_by so_far (block_runs block)

-- what follows the blocks ends so, whatever the outcome before it
abbrev Ends : (Standing → Course) → (Outcome Grid → Result (Outcome Grid) StepFault) → Type 0
Ends later f = (so_far before : Outcome Grid) → end_after before (later (standing_of so_far)) ≡ f so_far

module _ (part : ℕ → Part) (later : Standing → Course) (f : Outcome Grid → Result (Outcome Grid) StepFault) (ends : Ends later f) where
  -- one block, which gave this, and those behind it
  one_ends : (number : ℕ) (blocks : List Block) → ((so_far before : Outcome Grid) → end_after before (blocks_from part (suc number) later blocks (standing_of so_far)) ≡ on_ok f (fold step (Ok so_far) blocks))
      → (so_far before : Outcome Grid) (r : Result (Outcome Grid) StepFault) → end_after before (going_on (part number) (standing_of so_far) (blocks_from part (suc number) later blocks) r) ≡ on_ok f (fold step (outcome_behind so_far r) blocks)
  one_ends number blocks behind so_far before (Err fault) = ap (on_ok f) (sym (fold_stays step (Err fault) (λ x. refl) blocks))
  one_ends number blocks behind so_far before (Ok gave) = behind (record { level = gave.level; commands = either so_far.commands gave.commands; changed = so_far.changed || gave.changed }) gave

  -- blocks in order end as the fold over them does, and what follows
  blocks_end : (number : ℕ) (blocks : List Block) (so_far before : Outcome Grid) → end_after before (blocks_from part number later blocks (standing_of so_far)) ≡ on_ok f (fold step (Ok so_far) blocks)
  blocks_end number [] so_far before = ends so_far before
  blocks_end number (block ∷ blocks) so_far before = one_ends number blocks (blocks_end (suc number) blocks) so_far before (block_runs block so_far.level)

either_none : (c : Commands) → either c no_commands ≡ c
either_none c = grind (arith, either_comm c no_commands)

module _ (asked : Asked) where
  -- from the end of the late blocks on
  abbrev at_end : Outcome Grid → Result (Outcome Grid) StepFault
  at_end so_far = Ok (end_of asked (standing_of so_far))

  late_ends : (so_far before : Outcome Grid) → end_after before (late_from asked 0 (standing_of so_far)) ≡ on_ok at_end (fold step (Ok so_far) asked.program.late)
  late_ends so_far before = blocks_end Late (end_from asked) at_end (λ (so_far before : Outcome Grid). refl) 0 asked.program.late so_far before

  -- from the movement on
  abbrev at_movement : Outcome Grid → Result (Outcome Grid) StepFault
  at_movement so_far = on_ok at_end (fold step (Ok (with_movement so_far)) asked.program.late)

  movement_ends : (so_far before : Outcome Grid) → end_after before (movement_from asked (standing_of so_far)) ≡ at_movement so_far
  movement_ends so_far before =
      ap (λ (c : Commands). end_after (change_between so_far.level (after_movement so_far.level)) (late_from asked 0 (record { level = after_movement so_far.level; commands = c }))) (either_none so_far.commands)
      ∙ late_ends (with_movement so_far) (change_between so_far.level (after_movement so_far.level))

  early_ends : (so_far before : Outcome Grid) → end_after before (early_from asked 0 (standing_of so_far)) ≡ on_ok at_movement (fold step (Ok so_far) asked.program.early)
  early_ends so_far before = blocks_end Early (movement_from asked) at_movement movement_ends 0 asked.program.early so_far before

-- a step with this outcome of its early blocks
rules_end : (asked : Asked) (early : Result (Outcome Grid) StepFault) → on_ok (at_movement asked) early ≡ step_ended asked.game asked.input asked.grid (followed_by (then_moved early) (blocks_run asked.program.late))
unfolding blocks_run
rules_end asked (Err fault) = refl
rules_end asked (Ok o) = ends (fold step (Ok (with_movement o)) asked.program.late) ∙ ap (step_ended asked.game asked.input asked.grid) (sym (follow_pass block_runs (Ok (with_movement o)) asked.program.late)) where
  ends : (r : Result (Outcome Grid) StepFault) → on_ok (at_end asked) r ≡ step_ended asked.game asked.input asked.grid r
  ends (Err fault) = refl
  ends (Ok o) = refl

pub stages_end : (game : GameParts) (program : Program) (grid : Grid) (input : Option Dir) → end_in grid (stages_of game program grid input) ≡ step_of game program grid input
unfolding stages_of step_of rules_run blocks_run
stages_end game program grid input =
    let asked : Asked = record { game = game; program = program; grid = grid; input = input } in
    let start = given_input (players_of game) input grid in
    early_ends asked (nothing_run start) (change_between grid start) ∙ rules_end asked (fold step (Ok (nothing_run start)) program.early)
