use Rattle.std.proofs.Common.{flat_map, take}
use Rattle.pz_lines.specs.Lines.{item_line}
use Rattle.pz_lines.specs.Writing.{IsSent}
use Rattle.pz_lines.proofs.writing.write_session.Given as goal

abbrev pub invariant-loop-item : goal.invariant-loop-item
invariant-loop-item g l = IsSent (flat_map (item_line l.session l.shown.name l.frames) (take l.item-index l.items)) l.fn.written l.written l.fn.output l.output
