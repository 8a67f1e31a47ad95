use Rattle.pz_export.specs.Solutions.{bounded_by}
use Rattle.pz_export.proofs.Told.{refused, solved}
use Rattle.pz_export.proofs.solutions.saxtegun_solutions.Goals as goal

pub returns-clause-solved : goal.returns-clause-solved
returns-clause-solved c = solved (bounded_by c.args.levels c.args.bytes) c.args.file.now _ _ _ _ c.solved.result c.solved.ensures.solved c.tell.ensures.told c.tell.ensures.told_why

pub returns-clause-refused : goal.returns-clause-refused
returns-clause-refused c = refused c.args.file.now _ _ _ _ c.solved.result c.solved.ensures.refused c.tell.ensures.told c.tell.ensures.told_why
