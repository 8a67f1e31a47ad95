use Rattle.pz_console.specs.Failures.{failure_line}
use Rattle.pz_console.proofs.Reported.{reported}
use Rattle.pz_console.proofs.failure.fail_with.Goals as goal

pub returns-clause-line : goal.returns-clause-line
returns-clause-line g c = reported c.report.result (failure_line c.args.failure) _ _ c.report.ensures.whole c.report.ensures.cut
