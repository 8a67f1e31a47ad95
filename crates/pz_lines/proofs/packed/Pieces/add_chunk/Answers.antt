use Rattle.std.proofs.Common.{◌≡◌, ◌+◌, ◌-◌, take, drop, sym, ap, rules, arith}
use Rattle.pz_lines.specs.declared.packed.TheConstants.{CHUNK}
use Rattle.pz_lines.proofs.Packing.{alike_more, chunk_more}
use Rattle.pz_lines.proofs.packed.Pieces.add_chunk.Goals as goal

pub returns-in_ok-extend_from_slice : goal.returns-in_ok-extend_from_slice
returns-in_ok-extend_from_slice c =
    let at = c.args.at in
    let line = c.args.line.now in
    let count : (at + CHUNK) - at ≡ CHUNK = omega arith in
    rw (c.in_ok-push.ensures.items, c.in_ok-extend_from_slice.ensures.items)
    (chunk_more c.args.last.now line _ _ _ at c.requires.before (omega arith) (omega arith) (ap (λ n. take n (drop at line)) count))

pub returns-else-ne : goal.returns-else-ne
returns-else-ne c =
    let at = c.args.at in
    let last = c.args.last.now in
    let line = c.args.line.now in
    let count : (at + CHUNK) - at ≡ CHUNK = omega arith in
    let same : take ((at + CHUNK) - at) (drop at line) ≡ take ((at + CHUNK) - at) (drop at last) = search rules in
    alike_more last line _ _ at CHUNK c.requires.before (omega arith) (rw count at (sym same))
