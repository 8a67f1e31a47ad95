use Rattle.std.proofs.Common.{refl}
use Rattle.pz_serving.proofs.Deciding.{too_long_if}
use Rattle.pz_serving.proofs.serving.read_job.Goals as goal

pub returns-in-Err-TooLong-clause-refused : goal.returns-in-Err-TooLong-clause-refused
returns-in-Err-TooLong-clause-refused g c =
    let some_bytes = too_long_if _ (c.in-Err-TooLong.ensures.long c.in-Err-TooLong.field-0-is) in
    λ output. (refl, some_bytes.0, some_bytes.1, some_bytes.2)
