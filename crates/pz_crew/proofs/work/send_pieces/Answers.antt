use Rattle.std.proofs.Common.{refl, ◌+◌, ◌++◌, ◌∷◌, [], length, ap, ◌∙◌, sym, append_assoc}
use Rattle.std.proofs.lemmas.List.{length-append}
use Rattle.pz_crew.proofs.Gating.{all_shown, memory_has_no_stop, none_passed, one_passed, one_there, passed_as}
use Rattle.pz_crew.proofs.Sending.{all_sent, closed_is_not_finished, first_messages, memory_is_not_finished, nothing_sent, sends_more}
use Rattle.pz_crew.proofs.work.send_pieces.Goals as goal

pub returns-then-not-pass-clause-part : goal.returns-then-not-pass-clause-part
returns-then-not-pass-clause-part g c =
    let i = c.loop-number.invariant in
    let first = first_messages c.args.session i.0 (g.U.Playing.left c.loop-number.run) (g.U.Playing.left c.args.run.now) i.1 in
    (length i.0, rw (← first) i.2, passed_as (g.G.Gate.may_pass c.args.gate.now) c.args.session c.loop-number.number (length i.0) (sym i.3) i.4)

pub returns-then-not-pass-clause-closed : goal.returns-then-not-pass-clause-closed
returns-then-not-pass-clause-closed g c =
    let i = c.loop-number.invariant in
    let yields = rw c.in-Ok-Some.field-0-is at c.in-Ok-Some.ensures in
    λ _. (
      c.loop-number.number,
      one_there i.0 (g.U.Playing.left c.loop-number.run) (g.U.Playing.left c.next.new.self) (g.U.Playing.left c.args.run.now) c.in-Ok-Some.piece c.loop-number.number yields i.1 i.3,
      c.pass.ensures.stops c.if-not-pass.true,
    )

pub returns-in-Err-clause-part : goal.returns-in-Err-clause-part
returns-in-Err-clause-part g c =
    let i = c.loop-number.invariant in
    let first = first_messages c.args.session i.0 (g.U.Playing.left c.loop-number.run) (g.U.Playing.left c.args.run.now) i.1 in
    (length i.0, rw (← first) i.2, passed_as (g.G.Gate.may_pass c.args.gate.now) c.args.session c.loop-number.number (length i.0) (sym i.3) i.4)

pub loop-number-preserved : goal.loop-number-preserved
loop-number-preserved g c =
    let i = c.loop-number.invariant in
    let item = c.in-Ok-Some.piece in
    let yields = rw c.in-Ok-Some.field-0-is at c.in-Ok-Some.ensures in (
      i.0 ++ item ∷ [],
      append_assoc i.0 (item ∷ []) (g.U.Playing.left c.next.new.self) ∙ (ap (λ xs. i.0 ++ xs) (sym yields) ∙ i.1),
      sends_more c.args.session c.args.sender.now c.loop-number.sender c.send.new.sender i.0 item i.2 c.send.ensures,
      length-append i.0 (item ∷ []) ∙ ap (λ n. n + 1) i.3,
      one_passed (g.G.Gate.may_pass c.args.gate.now) c.args.session c.loop-number.number i.4 (c.pass.ensures.passes c.if-not-pass.false),
    )

pub loop-number-init : goal.loop-number-init
loop-number-init g c = ([], refl, nothing_sent c.args.session c.args.sender.now, refl, none_passed (g.G.Gate.may_pass c.args.gate.now) c.args.session)

pub returns-then-not-pass-clause-broken : goal.returns-then-not-pass-clause-broken
returns-then-not-pass-clause-broken g c = closed_is_not_finished

pub returns-in-Ok-None-clause-whole : goal.returns-in-Ok-None-clause-whole
returns-in-Ok-None-clause-whole g c =
    let i = c.loop-number.invariant in
    let none = rw c.in-Ok-None.field-0-is at c.in-Ok-None.ensures in
    all_sent c.args.session c.args.sender.now c.loop-number.sender i.0 (g.U.Playing.left c.loop-number.run) (g.U.Playing.left c.args.run.now) none.0 i.1 i.2

pub returns-in-Ok-None-clause-passed : goal.returns-in-Ok-None-clause-passed
returns-in-Ok-None-clause-passed g c =
    let i = c.loop-number.invariant in
    let none = rw c.in-Ok-None.field-0-is at c.in-Ok-None.ensures in
    passed_as (g.G.Gate.may_pass c.args.gate.now) c.args.session c.loop-number.number (length (g.U.Playing.left c.args.run.now))
    (all_shown i.0 (g.U.Playing.left c.loop-number.run) (g.U.Playing.left c.args.run.now) c.loop-number.number none.0 i.1 i.3) i.4

pub returns-in-Err-clause-broken : goal.returns-in-Err-clause-broken
returns-in-Err-clause-broken g c = memory_is_not_finished

pub returns-in-Err-clause-closed : goal.returns-in-Err-clause-closed
returns-in-Err-clause-closed g c = memory_has_no_stop

pub returns-clause-part : goal.returns-clause-part
returns-clause-part g c =
    let i = c.loop-number.invariant in
    let first = first_messages c.args.session i.0 (g.U.Playing.left c.loop-number.run) (g.U.Playing.left c.args.run.now) i.1 in
    (length i.0, rw (← first) i.2, passed_as (g.G.Gate.may_pass c.args.gate.now) c.args.session c.loop-number.number (length i.0) (sym i.3) i.4)

pub returns-clause-broken : goal.returns-clause-broken
returns-clause-broken g c = memory_is_not_finished

pub returns-clause-closed : goal.returns-clause-closed
returns-clause-closed g c = memory_has_no_stop
