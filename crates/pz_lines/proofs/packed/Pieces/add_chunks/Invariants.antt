use Rattle.std.proofs.Common.{◌+◌, ◌*◌}
use Rattle.pz_lines.specs.Packed.{AreChanges}
use Rattle.pz_lines.specs.declared.packed.TheConstants.{CHUNK}
use Rattle.pz_lines.proofs.packed.Pieces.add_chunks.Given as goal

abbrev pub invariant-loop-chunk : goal.invariant-loop-chunk
invariant-loop-chunk l = AreChanges l.last l.line (l.at + l.chunk * CHUNK) l.self.places.items l.self.bytes.items
