use Rattle.std.proofs.Common.{arith}
use Rattle.std.proofs.lemmas.List.{take_rest}
use Rattle.pz_lines.specs.declared.packed.TheConstants.{BLOCK}
use Rattle.pz_lines.proofs.Packing.{alike_more}
use Rattle.pz_lines.proofs.packed.alike_to.Goals as goal

pub loop-at-preserved : goal.loop-at-preserved
loop-at-preserved c =
    let at = c.loop-at.at in
    let last = c.args.last.now in
    let line = c.args.line.now in
    record {
      onward = omega arith;
      within = omega arith;
      alike = λ places bytes are. alike_more last line places bytes at BLOCK (c.loop-at.invariant.alike places bytes are) (omega arith) (rw (take_rest last at, take_rest line at) at (c.begin_alike.ensures c.if-begin_alike.true));
    }
