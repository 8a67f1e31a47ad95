use Rattle.std.proofs.Common.{rules, Some, None}
use Rattle.pz_case.specs.declared.item.Stop.TheVariants.{AgainLimit}
use Rattle.pz_session.specs.Chain.{shown_frames}
unfoldable use Rattle.pz_session.specs.Board.{tick_link}
use Rattle.pz_open.proofs.Chains.{gives_stop, told_further, told_limit, told_over, told_stops}
use Rattle.pz_open.proofs.telling.finish.Goals as goal

pub returns-then-left-eq0 : goal.returns-then-left-eq0
returns-then-left-eq0 c = c.ticks.invariant c.ticks.told (Some AgainLimit) c.ticks.board (told_limit c.ticks.told c.ticks.more c.ticks.left c.ticks.board (search rules) (search rules))

pub ticks-preserved : goal.ticks-preserved
ticks-preserved c = λ after stop end told. c.ticks.invariant after stop end (told_further c.ticks.told c.add_shown.new.self after c.ticks.more c.ticks.left c.ticks.board c.tick.new.self (shown_frames c.in-Ok.shown) c.in_ok-more-in-Ok.more c.in-Ok.shown.goes_on stop end
    (search rules) (search rules) c.in-Ok.ensures c.in_ok-more-in-Ok.ensures.goes_on c.in_ok-more-in-Ok.ensures.items c.in_ok-more-in-Ok.ensures.frames c.add_shown.ensures.taken told)

pub returns-in-Err-Stopped : goal.returns-in-Err-Stopped
returns-in-Err-Stopped c = c.ticks.invariant c.ticks.told (Some c.in-Err-Stopped.stop) c.tick.new.self (told_stops c.ticks.told c.ticks.more c.ticks.left c.ticks.board c.tick.new.self c.in-Err-Stopped.stop (search rules) (search rules) (gives_stop (tick_link c.ticks.board) c.tick.new.self c.tick.result c.in-Err-Stopped.stop (search rules) c.tick.ensures))

pub returns : goal.returns
returns c = c.ticks.invariant c.ticks.told None c.ticks.board (told_over c.ticks.told c.ticks.more c.ticks.left c.ticks.board (search rules))
