use Rattle.std.proofs.Common.{◌≡◌, inl, inr, refl, subst, arith}
use Rattle.pz_engine.proofs.Told.{AreHeld, none_more, one_held, told_next}
use Rattle.pz_engine.proofs.engine.play_on.Goals as goal

pub returns-in_default-clause-piece : goal.returns-in_default-clause-piece
returns-in_default-clause-piece c =
    let none_left = none_more c.loop-taken.run.items c.next.new.self.items c.in_ok-item.field-0 c.in_ok-item.ensures.item.2 c.in_default.is in
    let told = told_next c.args.session c.args.name.now c.args.frames.now c.args.most c.loop-taken.taken c.args.run.now.items c.loop-taken.run.items c.loop-taken.written c.piece.new.frames c.piece.result c.requires c.loop-taken.invariant.0
    (inr (none_left.0, omega (arith, c.loop-taken-test.true))) c.piece.ensures.frames c.piece.ensures.none c.piece.ensures.some in
    told.piece

pub loop-taken-preserved : goal.loop-taken-preserved
loop-taken-preserved c = (
  one_held c.args.session c.args.name.now c.args.frames.now c.loop-taken.taken c.args.run.now.items c.loop-taken.run.items c.next.new.self.items c.in_ok-item.field-0 c.in-Some.item c.loop-taken.written c.add_item.new.written
      c.loop-taken.invariant.0 c.in_ok-item.ensures.item.2 c.in-Some.is c.in_ok-add_item.ensures.lines c.in_ok-add_item.ensures.frames c.in_ok-add_item.ensures.passed,
  c.loop-taken.invariant.1,
)

pub returns-clause-piece : goal.returns-clause-piece
returns-clause-piece c =
    let all : c.loop-taken.taken ≡ c.args.most = omega (arith, c.loop-taken-test.false, c.loop-taken.auto.taken-end) in
    let told = told_next c.args.session c.args.name.now c.args.frames.now c.args.most c.args.most c.args.run.now.items c.loop-taken.run.items c.loop-taken.written c.piece-2.new.frames c.piece-2.result c.requires
    (subst (λ n. AreHeld c.args.session c.args.name.now c.args.frames.now n c.args.run.now.items c.loop-taken.run.items c.loop-taken.written) all c.loop-taken.invariant.0) (inl refl) c.piece-2.ensures.frames c.piece-2.ensures.none c.piece-2.ensures.some in
    told.piece
