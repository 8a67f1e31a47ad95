use Rattle.std.proofs.Common.{◌≡◌, ◌++◌, [], drop}
use Rattle.pz_lines.specs.Packed.{lines_of_parts}
use Rattle.pz_lines.proofs.packed.PackedLines.append_to.Given as goal

abbrev pub invariant-loop-part : goal.invariant-loop-part
invariant-loop-part l =
    let kept = l.self-inside.kept in
    let parts = l.self-inside.parts.items in
    l.lines.items ++ lines_of_parts kept.places.items kept.bytes.items l.last.items (drop l.part-index parts) ≡ l.fn.lines.items ++ lines_of_parts kept.places.items kept.bytes.items [] parts
