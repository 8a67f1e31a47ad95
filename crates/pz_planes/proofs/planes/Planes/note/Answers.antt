use Rattle.std.proofs.Common.{◌+◌, ◌*◌, arith, sym, ◌∙◌}
use Rattle.pz_sets.specs.Sets.{member}
use Rattle.pz_planes.proofs.ToggleLemmas.{below_more, differ, differ_all, differ_at, known_still}
use Rattle.pz_planes.proofs.PlaneLemmas.{changed_on, changed_from}
use Rattle.pz_planes.proofs.planes.Planes.note.Goals as goal

pub toggle_word-requires-clause-known : goal.toggle_word-requires-clause-known
toggle_word-requires-clause-known c bit low there =
    let object = c.loop-index.index * 128 + bit in
    known_still object (member c.args.before.now object) (member c.args.after.now object) c.loop-index.invariant
    (sym (differ_at c.args.before.now c.args.after.now c.loop-index.index c.differing.result c.requires.long c.loop-index-test.true c.differing.ensures bit low) ∙ there) (c.requires.known_before object) (c.requires.known object)

pub loop-index-preserved : goal.loop-index-preserved
loop-index-preserved c =
    let before = c.args.before.now in
    let after = c.args.after.now in
    changed_on c.loop-index.invariant c.toggle_word.ensures
    (below_more c.loop-index.index c.differing.result (differ before after) (differ_at before after c.loop-index.index c.differing.result c.requires.long c.loop-index-test.true c.differing.ensures))

pub returns : goal.returns
returns c = changed_from c.requires.there c.loop-index.invariant (λ object. differ_all c.args.before.now c.args.after.now c.loop-index.index object c.requires.long (omega (arith, c.loop-index-test.false)))
