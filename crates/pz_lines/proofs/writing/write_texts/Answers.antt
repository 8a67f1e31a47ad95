use Rattle.std.proofs.Common.{◌+◌, ◌++◌, [], drop, ap, ◌∙◌}
use Rattle.std.specs.List.{concat}
use Rattle.std.proofs.lemmas.Result.{err_from_is_err_and}
use Rattle.pz_lines.proofs.Sent.{part_behind, part_is, sent_more}
use Rattle.pz_lines.proofs.Unpacking.{more_out, next_text, no_text}
use Rattle.pz_lines.proofs.writing.write_texts.Goals as goal

pub returns-in_err-lines-clause-err : goal.returns-in_err-lines-clause-err
returns-in_err-lines-clause-err g c =
    let i = c.loop-packed.invariant in
    let texts = c.args.texts.now in
    let text = c.packed-item.result in
    let held = c.loop-packed.lines.items in
    let rest = concat (drop (c.loop-packed.packed-index + 1) texts) in
    let next = next_text texts text held c.loop-packed.packed-index c.loop-packed-test.true c.packed-item.is in
    let p = err_from_is_err_and c.from_residual.result c.from_residual.ensures.1 in
    rw (p.1, p.2) (part_is (concat texts) (i.0 ++ ((held ++ text) ++ rest)) _ _ _ _ _ (i.1 ∙ ap (λ xs. i.0 ++ xs) next) (part_behind i.0 (held ++ text) rest _ _ _ _ _ _ _ i.2 c.in_err-lines.ensures.err))

pub loop-packed-preserved : goal.loop-packed-preserved
loop-packed-preserved g c =
    let i = c.loop-packed.invariant in
    let texts = c.args.texts.now in
    let text = c.packed-item.result in
    let held = c.loop-packed.lines.items in
    let rest = concat (drop (c.loop-packed.packed-index + 1) texts) in
    let next = next_text texts text held c.loop-packed.packed-index c.loop-packed-test.true c.packed-item.is in
    let n = c.in_ok-lines.ensures.ok in (
      i.0 ++ n.0,
      more_out (concat texts) i.0 n.0 (held ++ text) c.in_ok-lines.lines.items rest (i.1 ∙ ap (λ xs. i.0 ++ xs) next) n.1,
      sent_more i.0 n.0 _ _ _ _ _ _ i.2 n.2,
    )

pub returns-in_err-write_lines-clause-err : goal.returns-in_err-write_lines-clause-err
returns-in_err-write_lines-clause-err g c =
    let i = c.loop-packed.invariant in
    let texts = c.args.texts.now in
    let held = c.loop-packed.lines.items in
    let end = no_text texts held c.loop-packed.packed-index c.loop-packed-test.false in
    let p = err_from_is_err_and c.from_residual-in_err-write_lines.result c.from_residual-in_err-write_lines.ensures.1 in
    rw (p.1, p.2) (part_is (concat texts) (i.0 ++ (held ++ [])) _ _ _ _ _ (i.1 ∙ ap (λ xs. i.0 ++ xs) end) (part_behind i.0 held [] _ _ _ _ _ _ _ i.2 (rw c.deref.ensures.value at c.in_err-write_lines.ensures.err)))
