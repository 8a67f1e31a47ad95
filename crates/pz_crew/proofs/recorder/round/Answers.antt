use Rattle.std.proofs.Common.{true≢false, get_or, sym, ◌∙◌, refl, arith}
use Rattle.pz_crew.proofs.Visiting.{visits, more_ended}
use Rattle.pz_crew.proofs.recorder.round.Goals as goal
use Rattle.pz_crew.proofs.recorder.round.Goals.{then-all, else-all}

pub loop-number-preserved : goal.loop-number-preserved
loop-number-preserved g c =
    let d = c.index-inboxes-number.result in
    let v = visits c.args.inboxes.now c.loop-number.inboxes c.loop-number.number d (get_or c.loop-number.inboxes c.loop-number.number d) c.visit-ended.new.inbox c.args.sessions.now c.loop-number.sessions c.visit-ended.new.sessions (omega arith) refl c.visit-ended.ensures.lane c.visit-ended.ensures.visited c.loop-number.invariant.recorded c.loop-number.invariant.goes in record {
      recorded = v.0;
      goes = v.1;
      ended = λ is. elim c.if-all.branch [
        | then-all w ↦ more_ended c.loop-number.inboxes c.loop-number.number c.visit-ended.new.inbox (omega arith) (c.visit-ended.ensures.ended (sym w.all-is ∙ is)) (c.loop-number.invariant.ended w.if-all.true)
        | else-all w ↦ absurd (true≢false (sym is ∙ w.all-is ∙ w.if-all.false))
      ];
    }
