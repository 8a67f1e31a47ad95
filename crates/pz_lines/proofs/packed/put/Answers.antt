use Rattle.std.proofs.Common.{arith}
use Rattle.pz_lines.proofs.Packing.{replaced_by, replaced_past}
use Rattle.pz_lines.proofs.packed.put.Goals as goal
use Rattle.pz_lines.proofs.packed.put.Goals.{else-own-line-via-then-own-line+else-place-line, else-own-line-via-else-own-line}

pub returns-then-place-line : goal.returns-then-place-line
returns-then-place-line c = replaced_by c.args.line.now c.args.own.now c.copy_from_slice.new.self c.args.place _ (omega arith) (omega arith) c.copy_from_slice.ensures.after

pub returns-else-own-line : goal.returns-else-own-line
returns-else-own-line c = elim c.else-own-line.branch [
  | else-own-line-via-then-own-line+else-place-line w ↦ replaced_past c.args.line.now c.args.place c.args.own.now (omega arith)
  | else-own-line-via-else-own-line w ↦ replaced_past c.args.line.now c.args.place c.args.own.now (omega arith)
]
