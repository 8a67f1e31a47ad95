use Rattle.std.proofs.Common.{◌+◌, ◌||◌, false, drop, refl, ap, ◌∙◌, arith, rules}
use Rattle.std.proofs.lemmas.List.{length-take}
use Rattle.pz_console.proofs.Ended.{ended, more_than, read_on}
use Rattle.pz_console.proofs.input.read_input.Goals as goal

pub returns-then-count-eq0-clause-whole : goal.returns-then-count-eq0-clause-whole
returns-then-count-eq0-clause-whole g c =
    ended _ _ _ _ _ c.loop-turn.invariant.taken c.in-Ok.ensures.bytes.0 (rw c.if-count-eq0.true refl) (c.in-Ok.ensures.bytes.1 c.if-count-eq0.true (search rules))

pub loop-turn-preserved : goal.loop-turn-preserved
loop-turn-preserved g c =
    let before = c.loop-turn in
    let more = read_on c.args.input.now.remaining before.input.remaining c.read.new.self.remaining before.bytes.items c.extend_from_slice.new.self.items c.read.new.buffer (drop c.min-room.result before.buffer) c.in-Ok.count _ before.invariant.taken c.in-Ok.ensures.bytes.0 c.in-Ok.ensures.bound c.if-is_err.ensures.negation c.extend_from_slice.ensures.items in
    record {
      turns = omega (arith, more.1, before.invariant.turns, c.if-count-eq0.false);
      size = omega (arith, more.1, c.in-Ok.ensures.bound.0, c.read.auto.buffer, length-take c.min-room.result before.buffer, c.if-len-eq-MOST.false);
      taken = more.0;
      called = c.in-Ok.ensures.counted ∙ ap (λ n. n + 1) before.invariant.called;
      sound = c.in-Ok.ensures.failed ∙ ap (λ b. b || false) before.invariant.sound;
    }

pub returns-then-len-eq-MOST-clause-long : goal.returns-then-len-eq-MOST-clause-long
returns-then-len-eq-MOST-clause-long g c = λ _.
    let before = c.loop-turn in
    let more = read_on c.args.input.now.remaining before.input.remaining c.read.new.self.remaining before.bytes.items c.extend_from_slice.new.self.items c.read.new.buffer (drop c.min-room.result before.buffer) c.in-Ok.count _ before.invariant.taken c.in-Ok.ensures.bytes.0 c.in-Ok.ensures.bound c.if-is_err.ensures.negation c.extend_from_slice.ensures.items in
    more_than c.args.input.now.remaining c.read.new.self.remaining c.extend_from_slice.new.self.items 16777216 more.0 (omega (arith, c.if-len-eq-MOST.true, c.len-in-loop-turn.ensures))
