use Rattle.pz_cells.proofs.Common.{Option, Some, ap, sym, ◌∙◌, Dir}
use Rattle.pz_cells.proofs.HoldLemmas.{place_seen}
use Rattle.pz_cells.proofs.PlaceLemmas.{place_some, found_on, found_none}
use Rattle.pz_cells.proofs.cell.Cell.place.Goals as goal

pub returns-in-None : goal.returns-in-None
returns-in-None g c =
    sym (place_seen c.args.layers.now.depth c.args.layers.now.layers c.args.self.now.objects c.args.self.now.movement c.args.layer c.requires.low ∙ found_none c.args.layers.now.layers c.args.self.now.objects c.args.self.now.movement _ c.args.layer c.requires.sound c.objects_of.ensures.set c.in-None.ensures)

pub returns-in-Some : goal.returns-in-Some
returns-in-Some g c =
    let there = found_on c.args.layers.now.layers c.args.self.now.objects c.args.self.now.movement _ c.args.layer c.in-Some.object c.requires.sound c.objects_of.ensures.set c.in-Some.ensures.1 in
    ap (λ (heading : Option Dir). Some (record { object = c.in-Some.object; heading = heading })) c.heading-heading.ensures
    ∙ place_some c.args.layers.now.layers c.args.self.now.objects c.args.self.now.movement c.args.layer c.in-Some.object c.requires.sound there.0 there.1
    ∙ sym (place_seen c.args.layers.now.depth c.args.layers.now.layers c.args.self.now.objects c.args.self.now.movement c.args.layer c.requires.low)
