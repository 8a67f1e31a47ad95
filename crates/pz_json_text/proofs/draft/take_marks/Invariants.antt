use Rattle.std.proofs.Common.{◌≡◌, ◌++◌, map, take}
use Rattle.pz_json_text.specs.Written.{with_shifted_end}
use Rattle.pz_json_text.proofs.draft.take_marks.Given as goal

abbrev pub invariant-loop-mark : goal.invariant-loop-mark
invariant-loop-mark l = l.marks.items ≡ l.fn.marks.items ++ map (with_shifted_end l.from l.to) (take l.mark-index l.rest)
