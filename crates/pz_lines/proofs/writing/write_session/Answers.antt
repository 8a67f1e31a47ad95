use Rattle.std.proofs.Common.{◌≡◌, ◌+◌, ◌++◌, flat_map, drop, take, ◌∙◌, ap, sym}
use Rattle.std.proofs.lemmas.Result.{err_from_is_err_and}
use Rattle.pz_lines.specs.Lines.{item_line}
use Rattle.pz_lines.proofs.Cut.{shown_cut}
use Rattle.pz_lines.proofs.Sent.{part_behind, part_is, part_sent}
use Rattle.pz_lines.proofs.writing.write_session.Goals as goal

pub returns-in_default-clause-err : goal.returns-in_default-clause-err
returns-in_default-clause-err g c =
    let cut = shown_cut c.args.session c.args.shown.now c.items-items.result.now c.frame_count-frames.result c.loop-item.item-index c.item-item.result c.items-items.ensures c.frame_count-frames.ensures c.loop-item-test.true c.item-item.is in
    part_is _ _ _ _ _ _ _ cut (part_sent _ _ _ _ _ _ c.loop-item.invariant)

pub returns-in_err-write_lines-clause-err : goal.returns-in_err-write_lines-clause-err
returns-in_err-write_lines-clause-err g c =
    let frames = c.frame_count-frames.result in
    let items = c.items-items.result.now in
    let at = c.loop-item.item-index in
    let item = c.item-item.result in
    let line = item_line c.args.session c.args.shown.now.name frames in
    let front = flat_map line (take at items) in
    let rest = flat_map line (drop (at + 1) items) in
    let next : c.in-Ok.next.items ≡ line item = c.in-Ok.ensures ∙ ap (λ held. held ++ item_line c.args.session c.as_str-name.result.now frames item) c.clear.ensures.items ∙ ap (λ name. item_line c.args.session name frames item) c.as_str-name.ensures in
    let cut = shown_cut c.args.session c.args.shown.now items frames at item c.items-items.ensures c.frame_count-frames.ensures c.loop-item-test.true c.item-item.is in
    let whole = cut ∙ ap (λ text. front ++ (text ++ rest)) (sym (c.as_slice.ensures.value ∙ next)) in
    let p = err_from_is_err_and c.from_residual.result c.from_residual.ensures.1 in
    rw (p.1, p.2) (part_is _ _ _ _ _ _ _ whole (part_behind _ c.as_slice.result.now rest _ _ _ _ _ _ _ c.loop-item.invariant c.in_err-write_lines.ensures.err))
