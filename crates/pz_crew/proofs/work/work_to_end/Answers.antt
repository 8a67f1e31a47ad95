use Rattle.std.proofs.Common.{length, refl, sym, ◌∙◌}
use Rattle.pz_crew.specs.Worked.{handed_back}
use Rattle.pz_crew.proofs.Gating.{broke_off, finished_has_no_stop, none_passed_for, sent_whole, session_passed}
use Rattle.pz_crew.proofs.Sending.{begins, below_more, breaks_off, case_there, ends_whole, session_more}
use Rattle.pz_crew.proofs.work.work_to_end.Goals as goal

pub returns-in-Err-clause-worked : goal.returns-in-Err-clause-worked
returns-in-Err-clause-worked g c =
    let loop = c.loop.invariant in
    breaks_off c.args.duty.now.claims.now (g.P.Playable.sessions c.args.duty.now.played.now) c.args.sender.lane c.loop.seat c.in-Got.same c.in-Got.session c.in-Err.ensures.part.0
    c.loop.sender c.play.new.sender c.in-Err.end (handed_back c.end_work.result) loop.table loop.below loop.lane loop.sent c.in-Got.ensures.0 c.in-Got.ensures.2
    c.in-Err.ensures.part.1 c.in-Err.ensures.broken c.end_work.ensures.end c.end_work.ensures.ended c.end_work.ensures.sent

pub loop-preserved : goal.loop-preserved
loop-preserved g c =
    let loop = c.loop.invariant in
    record {
      table = rw c.in-Got.ensures.2 loop.table;
      below = below_more c.args.duty.now.claims.now c.loop.seat c.in-Got.same c.in-Got.session c.in-Got.ensures.2 loop.below loop.table c.in-Got.ensures.0;
      lane = rw c.in_default.ensures.whole loop.lane;
      sent = session_more (g.P.Playable.sessions c.args.duty.now.played.now) c.loop.seat c.in-Got.same c.in-Got.session c.loop.sender c.play.new.sender
          c.in-Got.ensures.2 loop.sent c.in_default.ensures.whole;
      passed = session_passed (g.G.Gate.may_pass c.args.duty.now.gate.now) (g.P.Playable.sessions c.args.duty.now.played.now) c.loop.seat c.in-Got.same c.in-Got.session c.in-Got.ensures.2 loop.passed c.in_default.ensures.passed;
    }

pub loop-init : goal.loop-init
loop-init g c =
    let start = begins c.args.duty.now.claims.now (g.P.Playable.sessions c.args.duty.now.played.now) c.args.seat c.args.sender.sent c.requires.seat.1 c.requires.sender in
    record { table = c.requires.seat.0; below = start.0; lane = refl; sent = start.1; passed = none_passed_for (g.G.Gate.may_pass c.args.duty.now.gate.now) (g.P.Playable.sessions c.args.duty.now.played.now) c.args.seat.numbers c.requires.seat.1 }

pub claim-requires : goal.claim-requires
claim-requires g c = c.loop.invariant.table

pub play-requires : goal.play-requires
play-requires g c = (c.type_bounds.send-P-Piece, case_there c.args.duty.now.claims.now (length (g.P.Playable.sessions c.args.duty.now.played.now)) c.loop.seat c.in-Got.session c.in-Got.ensures.0 c.loop.invariant.table c.requires.job)

pub returns-in-Err-clause-passed : goal.returns-in-Err-clause-passed
returns-in-Err-clause-passed g c =
    let loop = c.loop.invariant in
    let part = c.in-Err.ensures.part in
    broke_off (g.G.Gate.may_pass c.args.duty.now.gate.now) (g.P.Playable.sessions c.args.duty.now.played.now) c.loop.seat.numbers c.in-Got.session part.0 c.loop.sender c.play.new.sender c.in-Err.end (handed_back c.end_work.result)
    loop.sent part.1 loop.passed part.2 c.end_work.ensures.end c.end_work.ensures.ended c.end_work.ensures.sent

pub returns-in-Err-clause-closed : goal.returns-in-Err-clause-closed
returns-in-Err-clause-closed g c =
    let within = case_there c.args.duty.now.claims.now (length (g.P.Playable.sessions c.args.duty.now.played.now)) c.loop.seat c.in-Got.session c.in-Got.ensures.0 c.loop.invariant.table c.requires.job in
    λ is. (c.in-Got.session, within, c.in-Err.ensures.closed (sym c.end_work.ensures.end ∙ is))

pub returns-in-Done-clause-worked : goal.returns-in-Done-clause-worked
returns-in-Done-clause-worked g c =
    let loop = c.loop.invariant in
    ends_whole c.args.duty.now.claims.now (g.P.Playable.sessions c.args.duty.now.played.now) c.args.sender.lane c.loop.seat c.in-Done.ended c.loop.sender (handed_back c.end_work-in-Done.result) loop.table loop.lane loop.sent c.in-Done.ensures.0 c.in-Done.ensures.1
    c.end_work-in-Done.ensures.end c.end_work-in-Done.ensures.ended c.end_work-in-Done.ensures.sent

pub returns-in-Done-clause-passed : goal.returns-in-Done-clause-passed
returns-in-Done-clause-passed g c =
    sent_whole (g.G.Gate.may_pass c.args.duty.now.gate.now) (g.P.Playable.sessions c.args.duty.now.played.now) c.loop.seat c.in-Done.ended (handed_back c.end_work-in-Done.result) c.in-Done.ensures.1 c.loop.invariant.passed c.end_work-in-Done.ensures.end c.end_work-in-Done.ensures.ended

pub returns-in-Done-clause-closed : goal.returns-in-Done-clause-closed
returns-in-Done-clause-closed g c = finished_has_no_stop c.end_work-in-Done.result.end c.end_work-in-Done.ensures.end
