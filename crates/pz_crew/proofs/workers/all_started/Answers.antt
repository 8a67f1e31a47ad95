use Rattle.std.proofs.Common.{ap, ◌∙◌}
use Rattle.std.specs.Prelude.{map}
use Rattle.pz_crew.specs.Recorded.{lane_of}
use Rattle.pz_crew.proofs.Finishing.{finishes}
use Rattle.pz_crew.proofs.Gating.{none_passed_for}
use Rattle.pz_crew.proofs.workers.all_started.Goals as goal

pub returns-clause-all : goal.returns-clause-all
returns-clause-all g c =
    let m = c.requires.maker in
    finishes (g.P.Playable.sessions c.args.shared.now.played.now) c.args.shared.now.claims.now c.args.workers c.args.maker c.run_workers.new.inboxes.items c.run_workers.result (c.run_workers.ensures.lanes ∙ ap (map lane_of) c.new-inboxes.ensures.items) m.0 m.1 m.2 m.3 c.requires.job c.run_workers.ensures.whole

pub returns-clause-passed : goal.returns-clause-passed
returns-clause-passed g c =
    c.run_workers.ensures.passed (none_passed_for (g.G.Gate.may_pass c.args.shared.now.gate.now) (g.P.Playable.sessions c.args.shared.now.played.now) c.args.maker.numbers c.requires.maker.3)
