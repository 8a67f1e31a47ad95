-- A worked case of a job.
use Rattle.std.proofs.Common.{◌≡◌, [], refl}
use Rattle.std.specs.Prelude.{Err}
use Rattle.std.specs.Str.{chars}
use Rattle.pz_base.specs.declared.fault.Code.TheVariants as code
use Rattle.pz_source.specs.Reading.{source_of}
use Rattle.pz_record.specs.declared.order.Order.TheVariants.{Rows}
use Rattle.pz_case.specs.declared.item.Refusal.TheVariants.{Source}
use Rattle.pz_job.specs.Job.{plan_of}

-- an empty source is refused by its sections
empty_source : plan_of [] [] [] 0 Rows ≡ Err (Source (record { code = code.Section; line = 0 }))
unfolding plan_of source_of chars
empty_source = refl
