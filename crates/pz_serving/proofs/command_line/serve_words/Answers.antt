use Rattle.std.proofs.Common.{refl, rules, Err}
use Rattle.pz_console.specs.declared.failure.Failure.TheVariants.{Memory, BadLine}
use Rattle.pz_serving.proofs.Obeying.{ends_opened, ends_served, names_none}
use Rattle.pz_serving.proofs.command_line.serve_words.Goals as goal

pub returns-in-Err-Memory-clause-served : goal.returns-in-Err-Memory-clause-served
returns-in-Err-Memory-clause-served g c = (Err Memory, c.fail_with.ensures.status, (refl, c.requires.fresh.1), c.fail_with.ensures.line)

pub returns-in-Err-BadLine-clause-served : goal.returns-in-Err-BadLine-clause-served
returns-in-Err-BadLine-clause-served g c =
    let refused = rw c.in-Err-BadLine.field-0-is at c.in-Err-BadLine.ensures.refused in
    (Err BadLine, c.fail_with-in-Err-BadLine.ensures.status, (refl, refl, refused (search rules)), c.fail_with-in-Err-BadLine.ensures.line)

pub returns-in_default-clause-called : goal.returns-in_default-clause-called
returns-in_default-clause-called g c = c.serve_and_keep-status.ensures.served.2.called

pub returns-in_default-clause-unread : goal.returns-in_default-clause-unread
returns-in_default-clause-unread g c = names_none _ c.in-Ok.chosen c.in-Ok.ensures.chosen (rw c.in_default.is refl)

pub returns-in_default-clause-served : goal.returns-in_default-clause-served
returns-in_default-clause-served g c =
    ends_served g.T.File.Read.remaining _ c.in-Ok.chosen _ _ _ _ _ _ _ c.in-Ok.ensures.chosen (rw c.in_default.is refl) c.serve_and_keep-status.ensures.served

pub returns-clause-served : goal.returns-clause-served
returns-clause-served g c =
    ends_opened g.T.File.Read.remaining _ c.in-Ok.chosen _ _ _ _ _ _ _ _ c.in-Ok.ensures.chosen (rw c.in-Some.is refl) c.requires.fresh.1 c.open-opened.ensures c.serve_opened_and_keep-status.ensures.served
