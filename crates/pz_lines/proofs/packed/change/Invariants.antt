use Rattle.std.proofs.Common.{◌≡◌, drop}
use Rattle.pz_lines.specs.Packed.{with_chunks, tail_of}
use Rattle.pz_lines.specs.declared.packed.TheConstants.{CHUNK}
use Rattle.pz_lines.proofs.packed.change.Given as goal

abbrev pub invariant-loop-place : goal.invariant-loop-place
invariant-loop-place l = record {
  changed : with_chunks CHUNK l.line (drop l.place-index l.places) l.rest ≡ with_chunks CHUNK l.fn.line l.places l.fn.own;
  tail : tail_of CHUNK (drop l.place-index l.places) l.rest ≡ tail_of CHUNK l.places l.fn.own;
}
