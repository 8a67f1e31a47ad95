use Rattle.std.proofs.Common.{map, refl, ap, ◌∙◌}
use Rattle.pz_crew.specs.Recorded.{lane_of}
use Rattle.pz_crew.proofs.Joining.{all_back, ended_as, gathered_as, recorded_as}
use Rattle.pz_crew.proofs.workers.gather.Goals as goal

pub record-requires : goal.record-requires
record-requires g c = recorded_as c.args.inboxes.now.items c.as_mut_slice.result.now c.args.sessions c.as_mut_slice.ensures.value c.requires

pub returns-in-Some-clause-lanes : goal.returns-in-Some-clause-lanes
returns-in-Some-clause-lanes g c =
    let old = c.args.inboxes.now in
    let lent = c.as_mut_slice.result.now in
    ap (map lane_of) (all_back old.len old.items lent c.record.new.inboxes old.ok.0 c.as_mut_slice.ensures.value c.record.ensures.goes.same) ∙ c.record.ensures.goes.same ∙ ap (map lane_of) c.as_mut_slice.ensures.value

pub returns-in-Some-clause-ended : goal.returns-in-Some-clause-ended
returns-in-Some-clause-ended g c =
    let old = c.args.inboxes.now in
    let lent = c.as_mut_slice.result.now in
    ended_as c.record.new.inboxes _ (all_back old.len old.items lent c.record.new.inboxes old.ok.0 c.as_mut_slice.ensures.value c.record.ensures.goes.same) c.record.ensures.recorded.honest c.record.ensures.ended

pub returns-in-Some-clause-done : goal.returns-in-Some-clause-done
returns-in-Some-clause-done g c =
    let old = c.args.inboxes.now in
    let lent = c.as_mut_slice.result.now in
    let made = gathered_as c.record.new.inboxes _ c.args.sessions c.record.new.sessions c.in-Some.sessions (all_back old.len old.items lent c.record.new.inboxes old.ok.0 c.as_mut_slice.ensures.value c.record.ensures.goes.same) c.in-Some.is c.record.ensures.recorded c.record.ensures.goes.long in
    (refl, made.0, made.1, made.2)

pub returns-in-Some-clause-fault : goal.returns-in-Some-clause-fault
returns-in-Some-clause-fault g c = tt

pub returns-in-None-clause-lanes : goal.returns-in-None-clause-lanes
returns-in-None-clause-lanes g c =
    let old = c.args.inboxes.now in
    let lent = c.as_mut_slice.result.now in
    ap (map lane_of) (all_back old.len old.items lent c.record.new.inboxes old.ok.0 c.as_mut_slice.ensures.value c.record.ensures.goes.same) ∙ c.record.ensures.goes.same ∙ ap (map lane_of) c.as_mut_slice.ensures.value

pub returns-in-None-clause-ended : goal.returns-in-None-clause-ended
returns-in-None-clause-ended g c =
    let old = c.args.inboxes.now in
    let lent = c.as_mut_slice.result.now in
    ended_as c.record.new.inboxes _ (all_back old.len old.items lent c.record.new.inboxes old.ok.0 c.as_mut_slice.ensures.value c.record.ensures.goes.same) c.record.ensures.recorded.honest c.record.ensures.ended

pub returns-in-None-clause-done : goal.returns-in-None-clause-done
returns-in-None-clause-done g c = tt

pub returns-in-None-clause-fault : goal.returns-in-None-clause-fault
returns-in-None-clause-fault g c = refl
