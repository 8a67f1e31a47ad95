use Rattle.std.proofs.Common.{map, ap, ◌∙◌, ◌-◌, refl, sym, Err}
use Rattle.pz_crew.specs.Recorded.{lane_of}
use Rattle.pz_crew.specs.Worked.{handed_back}
use Rattle.pz_crew.specs.declared.fault.ReplayFault.TheVariants.{Memory}
use Rattle.pz_crew.proofs.Gating.{kept_by, settled_passed, settled_stop}
use Rattle.pz_crew.proofs.Joining.{lanes_left, last_ended, last_lane, made_of, moved_maker, none_left, not_closed, not_lost, not_workers, one_fewer, one_there, opens, others_ended, recorded_as, settles, some_left, taken_off, unopened, worked_on}
use Rattle.pz_crew.proofs.workers.+run_workers.Goals as goal

-- Each goal is answered, since a search reads all that is known in so long a function.

pub gather-requires : goal.gather-requires
gather-requires g t c = c.requires.recorded.0

pub returns-then-left-eq0-clause-lanes : goal.returns-then-left-eq0-clause-lanes
returns-then-left-eq0-clause-lanes g t c = c.gather.ensures.lanes

pub returns-then-left-eq0-clause-ended : goal.returns-then-left-eq0-clause-ended
returns-then-left-eq0-clause-ended g t c = c.gather.ensures.ended

pub returns-then-left-eq0-clause-whole : goal.returns-then-left-eq0-clause-whole
returns-then-left-eq0-clause-whole g t c = none_left (g.P.Playable.sessions c.args.shared.now.played.now) c.args.maker c.args.left c.gather.new.inboxes.items c.args.sessions c.gather.result c.if-left-eq0.true c.gather.ensures.done c.requires.recorded.1

pub returns-then-left-eq0-clause-workers : goal.returns-then-left-eq0-clause-workers
returns-then-left-eq0-clause-workers g t c = not_workers c.gather.result c.gather.ensures.fault

pub returns-then-left-eq0-clause-lost : goal.returns-then-left-eq0-clause-lost
returns-then-left-eq0-clause-lost g t c = not_lost c.gather.result c.gather.ensures.fault

pub returns-then-left-eq0-clause-passed : goal.returns-then-left-eq0-clause-passed
returns-then-left-eq0-clause-passed g t c = kept_by (g.G.Gate.may_pass c.args.shared.now.gate.now) (g.P.Playable.sessions c.args.shared.now.played.now) c.args.maker c.gather.new.inboxes.items c.args.sessions c.gather.result c.gather.ensures.done

pub returns-then-left-eq0-clause-closed : goal.returns-then-left-eq0-clause-closed
returns-then-left-eq0-clause-closed g t c = λ is. absurd (not_closed c.gather.result c.gather.ensures.fault is)

pub open_lane-requires : goal.open_lane-requires
open_lane-requires g t c = c.requires.capacity

pub gather-requires-in_default : goal.gather-requires-in_default
gather-requires-in_default g t c =
    recorded_as c.args.inboxes.now.items c.open_lane.new.inboxes.items c.args.sessions (unopened c.open_lane.result c.args.inboxes.now.items c.open_lane.new.inboxes.items c.in_default.is c.open_lane.ensures.none) c.requires.recorded.0

pub returns-in_default-clause-lanes : goal.returns-in_default-clause-lanes
returns-in_default-clause-lanes g t c =
    c.gather-in_default.ensures.lanes ∙ ap (map lane_of) (unopened c.open_lane.result c.args.inboxes.now.items c.open_lane.new.inboxes.items c.in_default.is c.open_lane.ensures.none)

pub returns-in_default-clause-ended : goal.returns-in_default-clause-ended
returns-in_default-clause-ended g t c = c.gather-in_default.ensures.ended

pub returns-in_default-clause-whole : goal.returns-in_default-clause-whole
returns-in_default-clause-whole g t c = tt

pub returns-in_default-clause-workers : goal.returns-in_default-clause-workers
returns-in_default-clause-workers g t c = not_workers (Err Memory) refl

pub returns-in_default-clause-lost : goal.returns-in_default-clause-lost
returns-in_default-clause-lost g t c = not_lost (Err Memory) refl

pub returns-in_default-clause-passed : goal.returns-in_default-clause-passed
returns-in_default-clause-passed g t c = λ _. tt

pub returns-in_default-clause-closed : goal.returns-in_default-clause-closed
returns-in_default-clause-closed g t c = λ is. absurd (not_closed (Err Memory) refl is)

pub split-maker-requires-clause-table : goal.split-maker-requires-clause-table
split-maker-requires-clause-table g t c = c.requires.maker.0

pub split-maker-requires-clause-few : goal.split-maker-requires-clause-few
split-maker-requires-clause-few g t c = one_fewer c.args.maker.made c.args.left c.requires.maker.1 c.if-left-eq0.false

pub start-requires-clause-seat : goal.start-requires-clause-seat
start-requires-clause-seat g t c κs within = (ap (λ s. s.of) c.split-maker.ensures.seat ∙ c.requires.maker.0, ap (λ s. s.numbers) c.split-maker.ensures.seat)

pub start-requires-clause-sender : goal.start-requires-clause-sender
start-requires-clause-sender g t c κs within = c.in-Some.ensures.some.0

pub start-requires-clause-job : goal.start-requires-clause-job
start-requires-clause-job g t c κs within = c.requires.job

pub gather-requires-in_default-start : goal.gather-requires-in_default-start
gather-requires-in_default-start g t c =
    recorded_as c.args.inboxes.now.items c.pop.new.self.items c.args.sessions (taken_off c.args.inboxes.now.items c.open_lane.new.inboxes.items c.pop.new.self.items c.in-Some.sender.lane c.open_lane.new.inboxes.len c.in-Some.ensures.some.1 c.open_lane.new.inboxes.ok.0 c.pop.ensures.rest) c.requires.recorded.0

pub returns-in_default-start-clause-lanes : goal.returns-in_default-start-clause-lanes
returns-in_default-start-clause-lanes g t c =
    c.gather-in_default-start.ensures.lanes ∙ ap (map lane_of) (taken_off c.args.inboxes.now.items c.open_lane.new.inboxes.items c.pop.new.self.items c.in-Some.sender.lane c.open_lane.new.inboxes.len c.in-Some.ensures.some.1 c.open_lane.new.inboxes.ok.0 c.pop.ensures.rest)

pub returns-in_default-start-clause-ended : goal.returns-in_default-start-clause-ended
returns-in_default-start-clause-ended g t c = c.gather-in_default-start.ensures.ended

pub returns-in_default-start-clause-whole : goal.returns-in_default-start-clause-whole
returns-in_default-start-clause-whole g t c = tt

pub returns-in_default-start-clause-workers : goal.returns-in_default-start-clause-workers
returns-in_default-start-clause-workers g t c = not_workers (Err Memory) refl

pub returns-in_default-start-clause-lost : goal.returns-in_default-start-clause-lost
returns-in_default-start-clause-lost g t c = not_lost (Err Memory) refl

pub returns-in_default-start-clause-passed : goal.returns-in_default-start-clause-passed
returns-in_default-start-clause-passed g t c = λ _. tt

pub returns-in_default-start-clause-closed : goal.returns-in_default-start-clause-closed
returns-in_default-start-clause-closed g t c = λ is. absurd (not_closed (Err Memory) refl is)

pub overflow_sub-left : goal.overflow_sub-left
overflow_sub-left g t c = some_left c.args.left c.if-left-eq0.false

pub run_workers-below-requires-clause-capacity : goal.run_workers-below-requires-clause-capacity
run_workers-below-requires-clause-capacity g t c κs within = c.requires.capacity

pub run_workers-below-requires-clause-maker : goal.run_workers-below-requires-clause-maker
run_workers-below-requires-clause-maker g t c κs within = moved_maker c.args.shared.now.claims.now c.args.maker c.split-maker.result.0 c.args.left c.split-maker.ensures.maker c.requires.maker c.if-left-eq0.false

pub run_workers-below-requires-clause-job : goal.run_workers-below-requires-clause-job
run_workers-below-requires-clause-job g t c κs within = c.requires.job

pub run_workers-below-requires-clause-recorded : goal.run_workers-below-requires-clause-recorded
run_workers-below-requires-clause-recorded g t c κs within =
    (opens c.args.inboxes.now.items c.open_lane.new.inboxes.items c.in-Some.sender.lane c.args.sessions c.in-Some.ensures.some.1 c.requires.recorded.0, c.requires.recorded.1)

pub unreachable-requires : goal.unreachable-requires
unreachable-requires g t c =
    one_there c.args.inboxes.now.items c.open_lane.new.inboxes.items c.run_workers-below.new.inboxes.items c.in-Some.sender.lane c.in-Some.ensures.some.1 c.run_workers-below.ensures.lanes (sym c.run_workers-below.new.inboxes.ok.0 ∙ c.in_default-pop.ensures.cases.0)

pub settle-requires-clause-maker : goal.settle-requires-clause-maker
settle-requires-clause-maker g t c κs within =
    made_of (g.P.Playable.sessions c.args.shared.now.played.now) c.args.shared.now.claims.now c.args.maker c.split-maker.result.0 (c.args.left - 1) c.run_workers-below.new.inboxes.items c.run_workers-below.result c.split-maker.ensures.maker c.requires.maker.0 c.run_workers-below.ensures.whole

pub settle-requires-clause-worked : goal.settle-requires-clause-worked
settle-requires-clause-worked g t c κs within =
    let lane = last_lane c.args.inboxes.now.items c.open_lane.new.inboxes.items c.run_workers-below.new.inboxes.items c.pop-2.new.self.items c.in-Some-pop.inbox c.in-Some.sender.lane c.in-Some.ensures.some.1 c.run_workers-below.ensures.lanes c.in-Some-pop.ensures.items in
    worked_on (g.P.Playable.sessions c.args.shared.now.played.now) c.args.shared.now.claims.now c.of-of.result.value.lane c.in-Some.sender.lane c.in-Some-pop.inbox.taker.lane (handed_back c.join-done.result) (ap (λ s. s.lane) c.of-of.ensures) lane c.join-done.ensures.0

pub settle-requires-clause-inbox : goal.settle-requires-clause-inbox
settle-requires-clause-inbox g t c κs within = last_ended c.run_workers-below.new.inboxes.items c.pop-2.new.self.items c.in-Some-pop.inbox c.in-Some-pop.ensures.items c.run_workers-below.ensures.ended

pub returns-clause-lanes : goal.returns-clause-lanes
returns-clause-lanes g t c =
    lanes_left c.args.inboxes.now.items c.open_lane.new.inboxes.items c.run_workers-below.new.inboxes.items c.pop-2.new.self.items c.in-Some-pop.inbox c.in-Some.sender.lane c.in-Some.ensures.some.1 c.run_workers-below.ensures.lanes c.in-Some-pop.ensures.items

pub returns-clause-ended : goal.returns-clause-ended
returns-clause-ended g t c = others_ended c.run_workers-below.new.inboxes.items c.pop-2.new.self.items c.in-Some-pop.inbox c.in-Some-pop.ensures.items c.run_workers-below.ensures.ended

pub returns-clause-whole : goal.returns-clause-whole
returns-clause-whole g t c =
    settles (g.P.Playable.sessions c.args.shared.now.played.now) c.args.maker c.split-maker.result.0 c.args.left c.run_workers-below.new.inboxes.items c.pop-2.new.self.items c.in-Some-pop.inbox c.run_workers-below.result c.settle.result c.split-maker.ensures.maker (some_left c.args.left c.if-left-eq0.false) c.in-Some-pop.ensures.items
    c.run_workers-below.ensures.whole c.settle.ensures.settled c.settle.ensures.below

pub returns-clause-workers : goal.returns-clause-workers
returns-clause-workers g t c = λ is. c.run_workers-below.ensures.workers (c.settle.ensures.workers is)

pub returns-clause-lost : goal.returns-clause-lost
returns-clause-lost g t c = λ is. c.run_workers-below.ensures.lost (c.settle.ensures.lost is)

pub returns-clause-passed : goal.returns-clause-passed
returns-clause-passed g t c =
    settled_passed (g.G.Gate.may_pass c.args.shared.now.gate.now) (g.P.Playable.sessions c.args.shared.now.played.now) c.split-maker.result.0 c.args.maker (handed_back c.join-done.result) c.run_workers-below.result c.settle.result
    (ap (λ made. made.numbers) c.split-maker.ensures.maker) c.run_workers-below.ensures.passed c.settle.ensures.joined c.settle.ensures.below c.join-done.ensures.1

pub returns-clause-closed : goal.returns-clause-closed
returns-clause-closed g t c =
    settled_stop (g.G.Gate.may_stop c.args.shared.now.gate.now) (g.P.Playable.sessions c.args.shared.now.played.now) (handed_back c.join-done.result) c.run_workers-below.result c.settle.result c.join-done.ensures.2 c.run_workers-below.ensures.closed c.settle.ensures.closed
