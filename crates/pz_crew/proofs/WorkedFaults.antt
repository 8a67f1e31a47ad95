-- Small cases of the faults, worked by hand.
use Rattle.std.proofs.Common.{◌≡◌, Some, None, refl}
use Rattle.pz_crew.specs.Faults.{first_fault, fault_at}
use Rattle.pz_crew.specs.declared.fault.ReplayFault.TheVariants.{Memory, Workers, GateClosed, LaneLost}
use Rattle.pz_crew.specs.declared.lane.End.TheVariants as end

-- want of memory comes before all others, also where it is the second of two
memory_comes_first : first_fault (Some GateClosed) (Some Memory) ≡ Some Memory
memory_comes_first = refl

workers_come_second : first_fault (Some Workers) (Some GateClosed) ≡ Some Workers
workers_come_second = refl

-- a closed gate comes before a lost lane, whichever of them is the worker's
gate_before_lane : first_fault (Some LaneLost) (Some GateClosed) ≡ Some GateClosed
gate_before_lane = refl

lane_after_gate : first_fault (Some GateClosed) (Some LaneLost) ≡ Some GateClosed
lane_after_gate = refl

-- one fault is answered, none is none
one_alone : first_fault None (Some LaneLost) ≡ Some LaneLost
one_alone = refl

none_at_all : first_fault None None ≡ None
none_at_all = refl

-- a worker that found no number left has none
finished : fault_at end.Finished ≡ None
finished = refl

broken_off : fault_at end.GateClosed ≡ Some GateClosed
broken_off = refl
