use Rattle.std.proofs.Common.{◌≡◌, ℕ, subst, arith}
use Rattle.pz_game.specs.declared.direction.Dir.{Dir}
use Rattle.pz_solve.specs.declared.solving.Tried.{Tried}
use Rattle.pz_solve.specs.Moves.{move_of}
use Rattle.pz_solve.specs.Trying.{HasTried, input_of}
use Rattle.pz_solve.proofs.Expanding.{AreTriedBelow, all_tried, last_tried, one_more_tried}
use Rattle.pz_solve.proofs.solving.expand.Goals as goal

pub returns-in_default : goal.returns-in_default
returns-in_default c =
    let moves = move_of c.args.game.now c.args.program.now in
    let old = c.args.search.now in
    let middle = c.loop-number.search in
    let new = c.try_press.new.search in
    record {
      level_of = c.in_ok-tried.ensures.level_of;
      longer = omega (arith, c.in_ok-tried.ensures.longer, c.loop-number.invariant.longer);
      room = omega (arith, c.in_ok-tried.ensures.room, c.loop-number.invariant.room);
      tried = λ start here search is_here.
          let before = c.loop-number.invariant.tried start here search is_here in
          last_tried moves start old middle new c.args.index here c.loop-number.number c.args.most before c.in_ok-tried.tried (subst (λ (input : Dir). HasTried moves start middle new c.args.index here c.args.most input c.in_ok-tried.tried) c.input_of.ensures
          (c.in_ok-tried.ensures.tried start here before.search (before.grows c.args.index here is_here))) c.in_default.not-Nothing;
    }

pub loop-number-preserved : goal.loop-number-preserved
loop-number-preserved c =
    let moves = move_of c.args.game.now c.args.program.now in
    let old = c.args.search.now in
    let middle = c.loop-number.search in
    let new = c.try_press.new.search in
    record {
      longer = omega (arith, c.in_ok-tried.ensures.longer, c.loop-number.invariant.longer);
      level_of = c.in_ok-tried.ensures.level_of;
      room = omega (arith, c.in_ok-tried.ensures.room, c.loop-number.invariant.room);
      tried = λ start here search is_here.
          let before = c.loop-number.invariant.tried start here search is_here in
          one_more_tried moves start old middle new c.args.index here c.loop-number.number c.args.most before
          (subst (λ (outcome : Tried). HasTried moves start middle new c.args.index here c.args.most (input_of c.loop-number.number) outcome) c.in-Nothing.is
          (subst (λ (input : Dir). HasTried moves start middle new c.args.index here c.args.most input c.in_ok-tried.tried) c.input_of.ensures
          (c.in_ok-tried.ensures.tried start here before.search (before.grows c.args.index here is_here))));
    }

pub returns-clause-tried : goal.returns-clause-tried
returns-clause-tried c = λ start here search is_here.
    let moves = move_of c.args.game.now c.args.program.now in
    let number : c.loop-number.number ≡ 5 = omega (arith, c.loop-number-test.false, c.loop-number.auto.number-end) in
    let all = subst (λ (n : ℕ). AreTriedBelow moves start c.args.search.now c.loop-number.search c.args.index here n) number (c.loop-number.invariant.tried start here search is_here) in
    all_tried moves start c.args.search.now c.loop-number.search c.args.index here c.args.most all
