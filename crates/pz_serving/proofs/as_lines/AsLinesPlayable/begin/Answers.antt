use Rattle.std.proofs.Common.{sym, ap, ◌∙◌, arith}
use Rattle.pz_case.specs.Playing.{shown_by}
use Rattle.pz_session.specs.Case.{items_of}
use Rattle.pz_serving.specs.AsLines.{pieces_left}
use Rattle.pz_serving.proofs.Lines.{one_of, pieces-at}
use Rattle.pz_serving.proofs.as_lines.AsLinesPlayable.begin.Goals as goal

pub case-case-requires : goal.case-case-requires
case-case-requires c = one_of c.args.number c.args.self.now.job.now c.requires

pub returns : goal.returns
returns c =
    ap (pieces_left c.args.number c.case-case.result.now.name 0) c.in_ok-run.ensures.items
    ∙ sym (pieces-at 0 c.args.number (shown_by items_of) c.args.self.now.job.now c.args.number c.case-case.result.now c.case-case.ensures (omega arith))
