use Rattle.std.proofs.Common.{Err}
use Rattle.pz_serving.proofs.serving.serve_and_keep.Goals as goal

pub returns-in-Err : goal.returns-in-Err
returns-in-Err g c =
    record { served = (Err c.in-Err.failure, c.fail_with.ensures.status, c.in-Err.ensures.reads, c.in-Err.ensures.refused c.args.output.now, c.fail_with.ensures.line) }
