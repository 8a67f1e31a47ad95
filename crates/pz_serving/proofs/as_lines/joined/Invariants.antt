use Rattle.std.proofs.Common.{◌≡◌, map}
use Rattle.pz_serving.specs.AsLines.{all_told, lines_of, pieces_in}
use Rattle.pz_serving.proofs.as_lines.joined.Given as goal

abbrev pub invariant-loop-pieces : goal.invariant-loop-pieces
invariant-loop-pieces l = record {
  texts : l.played.texts.items ≡ map lines_of (pieces_in (map (λ pieces. pieces.items) l.yielded));
  passed : l.played.passed ≡ all_told (map (λ pieces. pieces.items) l.yielded);
}
