use Rattle.std.proofs.Common.{ap, map}
use Rattle.pz_crew.proofs.Blank.{all_blank, more_blank}
use Rattle.pz_crew.proofs.recorder.Sessions.blank.Goals as goal

pub loop-init : goal.loop-init
loop-init g c = ap (map (λ pieces. pieces.items)) c.in_ok-pieces.ensures.items

pub loop-preserved : goal.loop-preserved
loop-preserved g c = more_blank (λ pieces. pieces.items) c.loop.pieces.items c.push.new.self.items c.new.result c.loop.counter c.loop.invariant c.new.ensures.items c.in_ok-push.ensures.items

pub returns : goal.returns
returns g c = all_blank (map (λ pieces. pieces.items) c.loop.pieces.items) c.loop.counter c.args.count c.loop.invariant c.loop-test.false c.loop.auto.counter-end
