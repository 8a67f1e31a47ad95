use Rattle.std.proofs.Common.{◌≡◌, [], map, replicate}
use Rattle.pz_crew.proofs.recorder.Sessions.blank.Given as goal

abbrev pub invariant-loop : goal.invariant-loop
invariant-loop g l = map (λ pieces. pieces.items) l.pieces.items ≡ replicate l.counter []
