use Rattle.std.proofs.Common.{sym, ◌∙◌}
use Rattle.pz_session.specs.Case.{items_of}
use Rattle.pz_replay.proofs.Told.{items_told}
use Rattle.pz_replay.proofs.replaying.replay_with.Goals as goal

pub named-requires : goal.named-requires
named-requires g c = c.in_ok-sessions.ensures.recording ∙ sym (items_told items_of 0 c.args.job.now)
