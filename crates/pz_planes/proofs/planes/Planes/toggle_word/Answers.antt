use Rattle.std.proofs.Common.{arith}
use Rattle.pz_planes.proofs.ToggleLemmas.{done_all, done_more}
use Rattle.pz_planes.proofs.PlaneLemmas.{changed_on, changed_as}
use Rattle.pz_planes.proofs.planes.Planes.toggle_word.Goals as goal

pub objects-preserved : goal.objects-preserved
objects-preserved c =
    let there = c.first-bit.ensures.there in
    let low = c.first-bit.ensures.low in
    record {
      changed = changed_on c.objects.invariant.changed c.toggle.ensures (done_more c.args.index c.args.word c.objects.rest c.without-rest.result c.first-bit.result low (c.objects.invariant.left _ low there) there c.without-rest.ensures.others);
      left = λ other within is. grind (arith, c.objects.invariant.left other within, c.without-rest.ensures.others other within, is);
    }

pub returns : goal.returns
returns c = changed_as c.objects.invariant.changed (λ object was. done_all c.args.index c.args.word c.objects.rest object was (omega (arith, c.objects-test.false)))
