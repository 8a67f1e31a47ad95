use Rattle.std.proofs.Common.{sym, ◌∙◌}
use Rattle.pz_program.proofs.SegmentLemmas.{asked_of}
use Rattle.pz_program.proofs.group.asked_by.Goals as goal

pub returns : goal.returns
returns c = asked_of _ _ c.args.instance.now c.in_ok-row.row.now c.in_ok-row.field-0-1.now c.required.result.now c.words.result.now c.next.result
    (sym c.items.ensures ∙ c.in_ok-row.ensures.cases.0) c.required.ensures c.words.ensures.words c.words.ensures.long c.next.ensures
