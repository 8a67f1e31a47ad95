use Rattle.pz_session.specs.Case.{items_of}
use Rattle.pz_replay.proofs.Told.{items_told}
use Rattle.pz_replay.proofs.as_items.AsItemsTelling.tells.Goals as goal

pub returns : goal.returns
returns c = items_told items_of 0 c.args.self.now.job.now
