use Rattle.std.proofs.Common.{◌≡◌, ◌++◌, ℕ, List, [], drop}
use Rattle.pz_lines.specs.Packed.{lines_of_parts}
use Rattle.pz_lines.specs.Writing.{IsSent}
use Rattle.pz_lines.proofs.writing.write_lines_of.Given as goal

abbrev pub invariant-loop-part : goal.invariant-loop-part
invariant-loop-part g l =
    let kept = l.packed-inside.kept in
    let parts = l.packed-inside.parts.items in
    (sent : List ℕ) × (l.fn.before.items ++ lines_of_parts kept.places.items kept.bytes.items [] parts ≡ sent ++ (l.lines.items ++ lines_of_parts kept.places.items kept.bytes.items l.last.items (drop l.part-index parts))) × IsSent sent l.fn.written l.written l.fn.output l.output
