use Rattle.std.proofs.Common.{◌-◌, ◌≤◌, ◌++◌, List, length}
use Rattle.std.specs.Prelude.{take}
use Rattle.pz_record.specs.declared.input.Input.{Input}
use Rattle.pz_case.specs.Plan.{PlanState}
use Rattle.pz_open.specs.Opened.{StandsAt}
use Rattle.pz_open.specs.Places.{IsStood}
use Rattle.pz_open.proofs.place.play_all.Given as goal

-- the inputs that were taken have led to the board
abbrev pub invariant-inputs : goal.invariant-inputs
invariant-inputs l =
    (l.taken ≤ length l.inputs)
    × ((plan : PlanState) → IsStood plan l.fn.board → IsStood plan l.board)
    × ((plan : PlanState) (before : List Input) → IsStood plan l.fn.board → StandsAt plan before l.fn.frames l.fn.board → StandsAt plan (before ++ take l.taken l.inputs) l.frames l.board)

abbrev pub decreases-inputs : goal.decreases-inputs
decreases-inputs l = length l.inputs - l.taken
