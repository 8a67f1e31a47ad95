use Rattle.std.proofs.Common.{◌≡◌, ◌+◌, ◌≤◌, ◌++◌, length, map, drop}
use Rattle.std.specs.Prelude.{sum_by}
use Rattle.pz_text.specs.Cutting.{lines_of_text, lines_from}
use Rattle.pz_text.proofs.cutting.cut.Given as goal

abbrev pub invariant-loop-part : goal.invariant-loop-part
invariant-loop-part l = record {
  lines : l.lines.items ++ lines_from l.standing.section l.standing.depth l.number (map (λ part. part.now) (drop l.part-index l.part-items)) ≡ lines_of_text l.text;
  count : l.number ≡ l.part-index + 1;
  many : length l.part-items ≤ length l.text + 1;
  depth : l.standing.depth + sum_by (λ part. length part.now) (drop l.part-index l.part-items) ≤ length l.text;
}
