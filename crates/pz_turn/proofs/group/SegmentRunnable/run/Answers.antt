use Rattle.pz_turn.proofs.Segments.{segment_of_group}
use Rattle.pz_turn.proofs.Unchanged.{pass_leaves, call_leaves}
use Rattle.pz_turn.proofs.group.SegmentRunnable.run.Goals as goal

pub pass-requires : goal.pass-requires
pass-requires c = record { of_game = rw c.instances_in.ensures (segment_of_group c.args.level.now.grid.layers c.args.group.now c.args.self.now c.requires.of_game.0) }

pub returns-clause-kept : goal.returns-clause-kept
returns-clause-kept c = call_leaves c.args.level.now.grid c.pass.new.level.grid _ c.pass.result (pass_leaves c.instances_in.result.now c.args.level.now.grid) c.pass.ensures.outcome
