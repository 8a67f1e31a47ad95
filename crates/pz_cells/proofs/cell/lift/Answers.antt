use Rattle.pz_cells.proofs.PlaceLemmas.{changes_lifted, changes_nothing, found_on, found_none}
use Rattle.pz_cells.proofs.cell.lift.Goals as goal

pub returns-in-Some-clause-cleared : goal.returns-in-Some-clause-cleared
returns-in-Some-clause-cleared g c =
    let there = found_on c.args.layers.now.layers c.args.objects.now c.args.movement.now _ c.args.layer c.in-Some.object c.requires.lawful c.objects_of.ensures.set c.in-Some.ensures.1 in
    changes_lifted c.args.layers.now.layers c.args.objects.now c.args.movement.now c.remove.new.words c.clear.new.set c.args.layer c.in-Some.object c.requires.lawful there.0 there.1 c.remove.ensures c.clear.ensures.heads (c.clear.ensures.proper c.requires.lawful.proper)

pub returns-in_default-clause-cleared : goal.returns-in_default-clause-cleared
returns-in_default-clause-cleared g c = changes_nothing c.args.layers.now.layers c.args.objects.now c.args.movement.now c.args.layer c.requires.lawful
    (found_none c.args.layers.now.layers c.args.objects.now c.args.movement.now _ c.args.layer c.requires.lawful c.objects_of.ensures.set c.in_default.ensures)
