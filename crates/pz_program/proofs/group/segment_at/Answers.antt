use Rattle.std.proofs.Common.{arith}
use Rattle.pz_program.proofs.SegmentLemmas.{more_left_out}
use Rattle.pz_program.proofs.group.segment_at.Goals as goal

pub instances-preserved : goal.instances-preserved
instances-preserved c = record {
  from = omega (arith, c.instances.invariant.from);
  within = omega (arith, c.instances-test.true);
  told = more_left_out c.instances.asked c.joins.new.asked c.args.instances.now c.args.start c.instances.end c.index-instances-end.result
      c.joins.ensures.wider c.instances.invariant.from c.instances-test.true c.index-instances-end.is c.instances.invariant.told (c.joins.ensures.joins c.if-not-joins.false);
}
