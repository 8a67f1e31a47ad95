-- Which fault is answered if there are several.
use Rattle.std.specs.Prelude.{ℕ, nat_lt, if◌then◌else◌, Option, Some, None, Result, Ok, Err}
use Rattle.pz_crew.specs.declared.fault.ReplayFault.{ReplayFault}
use Rattle.pz_crew.specs.declared.fault.ReplayFault.TheVariants as fault
use Rattle.pz_crew.specs.declared.lane.End.{End}
use Rattle.pz_crew.specs.declared.lane.End.TheVariants as end

-- the place of a fault in the order of faults
abbrev pub rank : ReplayFault → ℕ
rank fault.Memory = 0
rank fault.Workers = 1
rank fault.GateClosed = 2
rank fault.LaneLost = 3

-- the first of two faults, or the only one
abbrev pub first_fault : Option ReplayFault → Option ReplayFault → Option ReplayFault
first_fault None other = other
first_fault (Some one) None = Some one
first_fault (Some one) (Some other) = Some (if nat_lt (rank other) (rank one) then other else one)

-- the fault of a worker that ended so
abbrev pub fault_at : End → Option ReplayFault
fault_at end.Memory = Some fault.Memory
fault_at end.GateClosed = Some fault.GateClosed
fault_at end.Finished = None

-- the fault that is answered, if one is
abbrev pub fault_in : {A : Type 0} → Result A ReplayFault → Option ReplayFault
fault_in (Ok made) = None
fault_in (Err cause) = Some cause
