use Rattle.pz_describe.specs.Description.{outline_of}
use Rattle.pz_export.proofs.Told.{described, undescribed}
use Rattle.pz_export.proofs.description.saxtegun_outline.Goals as goal

pub returns-clause-answered : goal.returns-clause-answered
returns-clause-answered c = described (outline_of c.args.source.now) _ _ _ _ c.outlined.result c.outlined.ensures.described c.tell.ensures.told c.tell.ensures.told_why

pub returns-clause-refused : goal.returns-clause-refused
returns-clause-refused c = undescribed c.args.source.now _ _ _ _ c.outlined.result c.outlined.ensures.refused c.tell.ensures.told c.tell.ensures.told_why
