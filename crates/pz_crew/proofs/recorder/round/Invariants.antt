use Rattle.std.proofs.Common.{◌≡◌, ℕ, ◌<◌, true, get_or}
use Rattle.pz_crew.specs.Recorded.{IsRecorded, GoesOn, HasEnded}
use Rattle.pz_crew.specs.declared.recorder.Inbox.{Inbox}
use Rattle.pz_crew.proofs.recorder.round.Given as goal

abbrev pub invariant-loop-number : goal.invariant-loop-number
invariant-loop-number g l = record {
  recorded : IsRecorded l.inboxes l.sessions;
  goes : GoesOn l.initial.inboxes l.inboxes l.initial.sessions l.sessions;
  ended : l.all ≡ true → (j : ℕ) (d : Inbox _) → j < l.number → HasEnded (get_or l.inboxes j d);
}
