use Rattle.pz_session.proofs.Common.{arith, ◌≡◌, ◌<◌, length, ap, refl, ◌∙◌, get_or, get_or_default, Input, Press, Up, on_ok_weaker}
use Rattle.std.proofs.lemmas.Bool.Decides.{nat_tests}
use Rattle.pz_session.proofs.Leaving.{waiting-parts, left-no_tick, left-tick, left-begin}
use Rattle.pz_session.proofs.player.Player.advance.Goals as goal

pub returns-then-allowed-eq0-clause-left : goal.returns-then-allowed-eq0-clause-left
returns-then-allowed-eq0-clause-left c =
    let w = waiting-parts c.args.self.now c.requires in
    left-no_tick c.args.self.now _ c.in-Ticking.allowed w c.in-Ticking.is c.if-allowed-eq0.true refl w.first w.second

pub returns-in-Between-clause-left : goal.returns-in-Between-clause-left
returns-in-Between-clause-left c =
    let p = c.args.self.now in
    let w = waiting-parts p c.requires in
    let input : Input = get_or c.items.result.now p.taken (Press Up) in
    let in_range : p.taken < length p.inputs = grind (arith, nat_tests, w.here, c.in-Between.is) in
    let is : input ≡ get_or p.inputs p.taken input = ap (λ l. get_or l p.taken (Press Up)) c.items.ensures ∙ get_or_default p.inputs p.taken (Press Up) input in_range in
    on_ok_weaker c.take_link.result (λ then. then _ c.begin-outcome.ensures ∙ left-begin p input c.ticks_after.result w c.in-Between.is in_range is c.ticks_after.ensures) c.take_link.ensures.left

pub returns-else-allowed-eq0-clause-left : goal.returns-else-allowed-eq0-clause-left
returns-else-allowed-eq0-clause-left c =
    let p = c.args.self.now in
    let w = waiting-parts p c.requires in
    on_ok_weaker c.take_link-in-Ticking.result (λ then. then _ c.tick-outcome.ensures ∙ left-tick p c.in-Ticking.allowed w c.in-Ticking.is c.if-allowed-eq0.false) c.take_link-in-Ticking.ensures.left
