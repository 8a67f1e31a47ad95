use Rattle.pz_crew.specs.Recorded.{IsRecorded, GoesOn}
use Rattle.pz_crew.proofs.recorder.record.Given as goal

abbrev pub invariant-loop : goal.invariant-loop
invariant-loop g l = record { recorded : IsRecorded l.inboxes l.sessions; goes : GoesOn l.initial.inboxes l.inboxes l.initial.sessions l.sessions }
