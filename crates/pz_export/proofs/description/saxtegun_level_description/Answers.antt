use Rattle.pz_describe.specs.Recordings.{level_description_of}
use Rattle.pz_export.proofs.Told.{described, undescribed}
use Rattle.pz_export.proofs.description.saxtegun_level_description.Goals as goal

pub returns-clause-answered : goal.returns-clause-answered
returns-clause-answered c =
    described (level_description_of c.args.level.now) _ _ _ _ c.described_level.result c.described_level.ensures.described c.tell.ensures.told c.tell.ensures.told_why

pub returns-clause-refused : goal.returns-clause-refused
returns-clause-refused c = undescribed c.args.level.now _ _ _ _ c.described_level.result c.described_level.ensures.refused c.tell.ensures.told c.tell.ensures.told_why
