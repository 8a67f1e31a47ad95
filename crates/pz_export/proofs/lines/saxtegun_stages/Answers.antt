use Rattle.std.proofs.Common.{sym}
use Rattle.pz_export.specs.Lines.{order_of}
use Rattle.pz_export.proofs.Told.{refused, staged}
use Rattle.pz_stages.specs.declared.detail.Detail.TheVariants.{Stages}
use Rattle.pz_export.proofs.lines.saxtegun_stages.Goals as goal

pub returns-clause-answered : goal.returns-clause-answered
returns-clause-answered c =
    staged Stages (order_of c.args.order) c.args.file.now c.args.session c.args.number _ _ _ _ c.staged.result (rw (sym c.order_of.ensures) c.staged.ensures.staged) c.tell.ensures.told c.tell.ensures.told_why

pub returns-clause-refused : goal.returns-clause-refused
returns-clause-refused c = refused c.args.file.now _ _ _ _ c.staged.result c.staged.ensures.refused c.tell.ensures.told c.tell.ensures.told_why
