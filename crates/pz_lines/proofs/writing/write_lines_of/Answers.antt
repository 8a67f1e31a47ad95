use Rattle.std.proofs.Common.{◌+◌, ◌++◌, drop, ap, sym, ◌∙◌}
use Rattle.std.proofs.lemmas.Result.{err_from_is_err_and}
use Rattle.pz_lines.specs.Packed.{lines_of_parts}
use Rattle.pz_lines.proofs.Sent.{part_behind, part_is, part_sent, sent_more}
use Rattle.pz_lines.proofs.Unpacking.{more_out, next_unpacked}
use Rattle.pz_lines.proofs.writing.write_lines_of.Goals as goal

pub returns-in_default-clause-err : goal.returns-in_default-clause-err
returns-in_default-clause-err g c =
    let i = c.loop-part.invariant in
    let before = c.args.before.items in
    let left = lines_of_parts c.packed.inside.kept.places.items c.packed.inside.kept.bytes.items c.loop-part.last.items (drop c.loop-part.part-index c.packed.inside.parts.items) in
    let rest = c.loop-part.lines.items ++ left in
    part_is (before ++ c.args.packed.now) (i.0 ++ rest) _ _ _ _ _ (ap (λ text. before ++ text) (sym c.packed.view_is) ∙ i.1) (part_sent i.0 rest _ _ _ _ i.2)

pub returns-in_err-lines-clause-err : goal.returns-in_err-lines-clause-err
returns-in_err-lines-clause-err g c =
    let i = c.loop-part.invariant in
    let before = c.args.before.items in
    let more = c.unpack.new.lines.items in
    let left = lines_of_parts c.packed.inside.kept.places.items c.packed.inside.kept.bytes.items c.unpack.new.last.items (drop (c.loop-part.part-index + 1) c.packed.inside.parts.items) in
    let next = next_unpacked c.packed.inside.kept.places.items c.packed.inside.kept.bytes.items c.loop-part.last.items _ c.loop-part.lines.items _ c.packed.inside.parts.items _ c.loop-part.part-index _ c.deref-part-items.ensures.value c.loop-part-test.true c.in-Ok.ensures.added c.in-Ok.ensures.last in
    let p = err_from_is_err_and c.from_residual.result c.from_residual.ensures.1 in
    rw (p.1, p.2) (part_is (before ++ c.args.packed.now) (i.0 ++ (more ++ left)) _ _ _ _ _ (ap (λ text. before ++ text) (sym c.packed.view_is) ∙ (i.1 ∙ ap (λ text. i.0 ++ text) next)) (part_behind i.0 more left _ _ _ _ _ _ _ i.2 c.in_err-lines.ensures.err))

pub loop-part-preserved : goal.loop-part-preserved
loop-part-preserved g c =
    let i = c.loop-part.invariant in
    let more = c.unpack.new.lines.items in
    let left = lines_of_parts c.packed.inside.kept.places.items c.packed.inside.kept.bytes.items c.unpack.new.last.items (drop (c.loop-part.part-index + 1) c.packed.inside.parts.items) in
    let n = c.in_ok-lines.ensures.ok in
    let next = next_unpacked c.packed.inside.kept.places.items c.packed.inside.kept.bytes.items c.loop-part.last.items _ c.loop-part.lines.items _ c.packed.inside.parts.items _ c.loop-part.part-index _ c.deref-part-items.ensures.value c.loop-part-test.true c.in-Ok.ensures.added c.in-Ok.ensures.last in (
      i.0 ++ n.0,
      more_out _ i.0 n.0 more c.in_ok-lines.lines.items left (i.1 ∙ ap (λ text. i.0 ++ text) next) n.1,
      sent_more i.0 n.0 _ _ _ _ _ _ i.2 n.2,
    )
