use Rattle.std.proofs.Common.{ap, ◌∙◌}
use Rattle.pz_crew.specs.Recorded.{kept}
use Rattle.pz_crew.specs.declared.lane.Message.TheVariants as messages
use Rattle.pz_crew.proofs.Gathering.{grows_at}
use Rattle.pz_crew.proofs.recorder.Sessions.keep.Goals as goal

pub returns : goal.returns
returns g c =
    grows_at (λ pieces. pieces.items) c.self.inside.pieces.items c.args.session c.args.piece c.in-Some.pieces.now c.push.new.self c.in-Some.ensures.value (c.in-Some.ensures.item.3.0) c.in_ok-push.ensures.items
    ∙ ap (λ sessions. kept sessions (messages.Piece c.args.session c.args.piece)) c.self.view_is
