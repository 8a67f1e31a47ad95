use Rattle.pz_export.proofs.Told.{described_file, refused}
use Rattle.pz_export.proofs.description.saxtegun_file_description.Goals as goal

pub returns-clause-answered : goal.returns-clause-answered
returns-clause-answered c = described_file c.args.file.now _ _ _ _ c.described_file.result c.described_file.ensures.described c.tell.ensures.told c.tell.ensures.told_why

pub returns-clause-refused : goal.returns-clause-refused
returns-clause-refused c = refused c.args.file.now _ _ _ _ c.described_file.result c.described_file.ensures.refused c.tell.ensures.told c.tell.ensures.told_why
