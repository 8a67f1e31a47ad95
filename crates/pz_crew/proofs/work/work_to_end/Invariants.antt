use Rattle.std.proofs.Common.{◌≡◌, ◌<◌, All}
use Rattle.pz_crew.specs.Gates.{MayPassFor}
use Rattle.pz_crew.specs.Sent.{messages_for}
use Rattle.pz_crew.proofs.work.work_to_end.Given as goal

abbrev pub invariant-loop : goal.invariant-loop
invariant-loop g l = record {
  table : l.seat.of ≡ l.duty.claims.now;
  below : All (λ number. number < l.duty.claims.now.total) l.seat.numbers;
  lane : l.sender.lane ≡ l.initial.sender.lane;
  sent : l.sender.sent ≡ messages_for (g.P.Playable.sessions l.duty.played.now) l.seat.numbers;
  passed : MayPassFor (g.G.Gate.may_pass l.duty.gate.now) (g.P.Playable.sessions l.duty.played.now) l.seat.numbers;
}
