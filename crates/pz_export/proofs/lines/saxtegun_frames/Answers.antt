use Rattle.std.proofs.Common.{sym}
use Rattle.pz_lines.specs.Lines.{text_from}
use Rattle.pz_export.specs.Lines.{order_of}
use Rattle.pz_export.proofs.Told.{answered, refused}
use Rattle.pz_export.proofs.lines.saxtegun_frames.Goals as goal

pub returns-clause-answered : goal.returns-clause-answered
returns-clause-answered c =
    answered (text_from c.args.from) (order_of c.args.order) c.args.file.now _ _ _ _ c.lines_from.result (rw (sym c.order_of.ensures) c.lines_from.ensures.played) c.tell.ensures.told c.tell.ensures.told_why

pub returns-clause-refused : goal.returns-clause-refused
returns-clause-refused c = refused c.args.file.now _ _ _ _ c.lines_from.result c.lines_from.ensures.refused c.tell.ensures.told c.tell.ensures.told_why
