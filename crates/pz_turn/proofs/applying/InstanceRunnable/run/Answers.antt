use Rattle.pz_turn.proofs.Unchanged.{applied_leaves, call_leaves}
use Rattle.pz_turn.proofs.applying.InstanceRunnable.run.Goals as goal

pub returns-clause-kept : goal.returns-clause-kept
returns-clause-kept c = call_leaves c.args.level.now.grid c.apply.new.level.grid _ c.apply.result (applied_leaves c.args.self.now c.args.level.now.grid) c.apply.ensures.outcome
