use Rattle.std.proofs.Common.{arith}
use Rattle.pz_lines.proofs.Packing.{replaced_by}
use Rattle.pz_lines.proofs.packed.put_chunk.Goals as goal

pub returns-then-at-line : goal.returns-then-at-line
returns-then-at-line c = replaced_by c.args.line.now c.args.own.now c.copy_from_slice.new.self c.args.place _ (omega arith) (omega arith) c.copy_from_slice.ensures.after
