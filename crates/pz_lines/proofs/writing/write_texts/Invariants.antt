use Rattle.std.proofs.Common.{◌≡◌, ◌++◌, ℕ, List, drop}
use Rattle.std.specs.List.{concat}
use Rattle.pz_lines.specs.Writing.{IsSent}
use Rattle.pz_lines.proofs.writing.write_texts.Given as goal

abbrev pub invariant-loop-packed : goal.invariant-loop-packed
invariant-loop-packed g l = (sent : List ℕ) × (concat l.texts ≡ sent ++ (l.lines.items ++ concat (drop l.packed-index l.texts))) × IsSent sent l.fn.written l.written l.fn.output l.output
