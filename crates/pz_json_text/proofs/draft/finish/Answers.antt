use Rattle.std.proofs.Common.{◌≤◌, ◌*◌, ◌+◌, ◌-◌, ◌/◌, length, map, subst, arith}
use Rattle.std.proofs.lemmas.List.{length-map}
use Rattle.pz_json_text.specs.declared.draft.TheConstants.{STEP}
use Rattle.pz_json_text.specs.Labels.{text_at}
use Rattle.pz_json_text.proofs.Drafts.{same_behind}
use Rattle.pz_json_text.proofs.draft.finish.Goals as goal

pub marks-init : goal.marks-init
marks-init c =
    let past : c.args.changed.end ≤ ((c.args.changed.end - 1) / STEP + 1) * STEP = omega arith in
    record { begun = c.requires.begun; mark = c.requires.mark; from = omega (arith, c.requires.from, c.requires.some, past); past = past }

pub finish_at-requires-clause-last : goal.finish_at-requires-clause-last
finish_at-requires-clause-last c =
    let all = map (text_at c.args.texts.now) c.args.labels.now in
    let before = c.requires.last.0 in
    let whole = c.requires.last.1 in
    let same = c.requires.last.2 in
    let n = c.marks.count * STEP in
    let within : n ≤ length all = omega (arith, c.marks-test.true, c.len.ensures, whole.marks.past, same.count) in
    (before, whole, same_behind c.args.changed.first c.args.changed.end n before all same c.marks.invariant.past within)

pub finish_at-requires-clause-begun : goal.finish_at-requires-clause-begun
finish_at-requires-clause-begun c = c.marks.invariant.begun

pub finish_at-requires-clause-mark : goal.finish_at-requires-clause-mark
finish_at-requires-clause-mark c = c.marks.invariant.mark

pub finish_at-requires-clause-from : goal.finish_at-requires-clause-from
finish_at-requires-clause-from c = c.marks.invariant.from

pub write_cells-requires-clause-from : goal.write_cells-requires-clause-from
write_cells-requires-clause-from c = subst (λ n. c.marks.draft.at.cells ≤ n) (length-map c.args.labels.now (text_at c.args.texts.now)) c.marks.invariant.begun.written.cells

pub write_cells-requires-clause-begun : goal.write_cells-requires-clause-begun
write_cells-requires-clause-begun c = c.marks.invariant.begun

pub write_cells-requires-clause-mark : goal.write_cells-requires-clause-mark
write_cells-requires-clause-mark c = c.marks.invariant.mark
