use Rattle.pz_crew.proofs.Visiting.{goes_further, stays_so}
use Rattle.pz_crew.proofs.recorder.record.Goals as goal

pub loop-init : goal.loop-init
loop-init g c = record { recorded = c.requires; goes = stays_so c.args.inboxes.now c.args.sessions.now }

pub round-requires : goal.round-requires
round-requires g c = c.loop.invariant.recorded

pub returns-then-round-clause-recorded : goal.returns-then-round-clause-recorded
returns-then-round-clause-recorded g c = c.round.ensures.recorded

pub returns-then-round-clause-goes : goal.returns-then-round-clause-goes
returns-then-round-clause-goes g c = goes_further c.args.inboxes.now c.loop.inboxes c.round.new.inboxes c.args.sessions.now c.loop.sessions c.round.new.sessions c.loop.invariant.goes c.round.ensures.goes

pub returns-then-round-clause-ended : goal.returns-then-round-clause-ended
returns-then-round-clause-ended g c = c.round.ensures.ended c.if-round.true

pub loop-preserved-then-are_quiet : goal.loop-preserved-then-are_quiet
loop-preserved-then-are_quiet g c =
    record { recorded = c.round.ensures.recorded; goes = goes_further c.args.inboxes.now c.loop.inboxes c.round.new.inboxes c.args.sessions.now c.loop.sessions c.round.new.sessions c.loop.invariant.goes c.round.ensures.goes }

pub loop-preserved : goal.loop-preserved
loop-preserved g c =
    record { recorded = c.round.ensures.recorded; goes = goes_further c.args.inboxes.now c.loop.inboxes c.round.new.inboxes c.args.sessions.now c.loop.sessions c.round.new.sessions c.loop.invariant.goes c.round.ensures.goes }
