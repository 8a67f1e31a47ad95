-- What a search tells of a session.
use Rattle.std.specs.Prelude.{◌≡◌, true, false, Option, Some, None, Result, Ok, Err}
use Rattle.pz_case.specs.declared.item.Refusal.{Refusal}
use Rattle.pz_case.specs.Plan.{PlanState}
use Rattle.pz_session.specs.Board.{State}
use Rattle.pz_session.specs.Case.{state_of}
use Rattle.pz_steps.specs.Steps.{stands_behind}
use Rattle.pz_solve.specs.declared.answer.Bounds.{Bounds}
use Rattle.pz_solve.specs.Answers.{IsAnswer}
use Rattle.pz_solve.specs.Moves.{move_of}
use Rattle.pz_solutions.specs.declared.solution.Solution.{Solution}
use Rattle.pz_solutions.specs.declared.solution.Solution.TheVariants.{Of, Over, Stopped, Refused}

-- it is told of where the session stands: once its last level was won play is over, and a session that stopped stands nowhere
abbrev pub IsSolutionAt : Bounds → Option State → Solution → Type 0
IsSolutionAt bounds (Some state) (Of answer) = (state.is_over ≡ false) × IsAnswer (move_of state.game state.program) state.level bounds answer
IsSolutionAt bounds (Some state) Over = state.is_over ≡ true
IsSolutionAt bounds (Some state) Stopped = ⊥
IsSolutionAt bounds (Some state) Refused = ⊥
IsSolutionAt bounds None solution = solution ≡ Stopped

-- it is told of a session behind its inputs, or of one that is refused
abbrev pub IsSolutionOf : Bounds → Result PlanState Refusal → Solution → Type 0
IsSolutionOf bounds (Err refusal) solution = solution ≡ Refused
IsSolutionOf bounds (Ok plan) solution = IsSolutionAt bounds (stands_behind plan.inputs (state_of plan)) solution
