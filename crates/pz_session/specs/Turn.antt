-- What a session makes of the end of a step.
use Rattle.std.specs.Prelude.{Bool, not, ◌||◌}
use Rattle.pz_program.specs.Commands.{has, cancel, restart, win}
use Rattle.pz_sheet.specs.Grid.{Grid}
use Rattle.pz_turn.specs.declared.outcome.StepFault.{StepFault}
use Rattle.pz_turn.specs.declared.outcome.StepFault.TheVariants as step
use Rattle.pz_turn.specs.Outcome.{Outcome}
use Rattle.pz_case.specs.declared.item.Stop.{Stop}
use Rattle.pz_case.specs.declared.item.Stop.TheVariants as stop
use Rattle.pz_session.specs.declared.chain.PlayFault.{PlayFault}
use Rattle.pz_session.specs.declared.chain.PlayFault.TheVariants.{Memory, Stopped}

-- the stop of a step is the stop of its session; no step of a game ends with want of memory, so that case doesn't matter
abbrev pub stop_of : StepFault → Stop
stop_of step.MatchLimit = stop.MatchLimit
stop_of _ = stop.LoopLimit

abbrev pub fault_of : StepFault → PlayFault
fault_of step.Memory = Memory
fault_of step.LoopLimit = Stopped stop.LoopLimit
fault_of step.MatchLimit = Stopped stop.MatchLimit

-- play.idle: a tick is idle if it is cancelled, or if it changes nothing and gives neither `restart` nor `win`; win lines don't
-- count
abbrev pub is_idle : Outcome Grid → Bool
is_idle end = has end.commands cancel || not (end.changed || (has end.commands restart || has end.commands win))
