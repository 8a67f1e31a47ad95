use Rattle.std.proofs.Common.{◌++◌, List, ap, ◌∙◌}
use Rattle.pz_crew.specs.declared.lane.Message.{Message}
use Rattle.pz_crew.proofs.Settling.{took_all}
use Rattle.pz_crew.proofs.workers.confirm.Goals as goal

pub returns : goal.returns
returns g c =
    took_all (g.P.Playable.sessions c.args.played.now) c.args.ended.now.numbers c.args.inbox.taker.taken c.left_beside.new.self.known c.args.sender.sent c.args.inbox.end c.requires.inbox.0 c.requires.inbox.1
    (c.left_beside.ensures.rest ∙ ap (λ (t : List (Message _)). t ++ c.left_beside.new.self.known) c.left_beside.ensures.taken.1) c.requires.sent
