use Rattle.std.proofs.Common.{refl, ap, Err}
use Rattle.pz_serving.proofs.serving.serve_opened_and_keep.Goals as goal

pub returns-in-Err : goal.returns-in-Err
returns-in-Err g c =
    record { served = (Err c.failure_at.result, c.fail_with.ensures.status, rw c.in-Err.is (refl, ap Err c.failure_at.ensures), c.fail_with.ensures.line) }
