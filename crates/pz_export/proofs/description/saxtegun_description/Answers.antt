use Rattle.pz_describe.specs.Description.{description_of}
use Rattle.pz_export.proofs.Told.{described, undescribed}
use Rattle.pz_export.proofs.description.saxtegun_description.Goals as goal

pub returns-clause-answered : goal.returns-clause-answered
returns-clause-answered c = described (description_of c.args.source.now) _ _ _ _ c.described.result c.described.ensures.described c.tell.ensures.told c.tell.ensures.told_why

pub returns-clause-refused : goal.returns-clause-refused
returns-clause-refused c = undescribed c.args.source.now _ _ _ _ c.described.result c.described.ensures.refused c.tell.ensures.told c.tell.ensures.told_why
