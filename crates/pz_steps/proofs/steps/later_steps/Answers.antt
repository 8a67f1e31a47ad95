use Rattle.pz_steps.proofs.Stepping.{later_are}
use Rattle.pz_steps.proofs.steps.later_steps.Goals as goal

pub returns : goal.returns
returns c = later_are c.args.input c.behind-next.result c.args.board c.begin.new.board c.in_ok-begin.field-0 c.ticks_after.result c.behind-next.ensures c.ticks_after.ensures c.in_ok-begin.ensures
