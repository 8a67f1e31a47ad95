use Rattle.pz_sheet.proofs.Common.{Some, arith, small_cell}
use Rattle.pz_sheet.proofs.ToggleLemmas.{IsToggled, come, is_there, place_shown, level_toggled, place_toggled, sheet_toggled}
use Rattle.pz_cells.specs.Cell.{still_piece}
use Rattle.pz_sheet.proofs.Sheet.land.Goals as goal

pub land-requires : goal.land-requires
land-requires g c =
    let here = is_there c.self.invariant c.self.view_is c.requires.on_map c.index-number.ensures.index c.index-number.ensures.within c.index_mut.ensures.value in
    let on = rw (← here.level) at c.requires.on_layer in
    (small_cell _ c.self.invariant.stored.law.short, (omega arith, (here.sound, (place_shown here _ _ c.requires.free, on))))

pub returns : goal.returns
returns g c =
    let here = is_there c.self.invariant c.self.view_is c.requires.on_map c.index-number.ensures.index c.index-number.ensures.within c.index_mut.ensures.value in
    let t : IsToggled g.row.N c.self.inside.layers c.index_mut.result.now c.land.new.self c.args.layer c.args.object (Some (still_piece c.args.object)) =
    record { sound = c.land.ensures.sound; shown = c.land.ensures.cell; movement = λ number e. rw (← c.land.ensures.movement) e; objects = come _ _ _ c.land.ensures.objects c.land.ensures.lacked; known = rw (← here.level) at c.requires.on_layer } in
    record { landed = level_toggled here t; there = place_toggled here t }

pub invariant_of-self : goal.invariant_of-self
invariant_of-self g c =
    let here = is_there c.self.invariant c.self.view_is c.requires.on_map c.index-number.ensures.index c.index-number.ensures.within c.index_mut.ensures.value in
    let t : IsToggled g.row.N c.self.inside.layers c.index_mut.result.now c.land.new.self c.args.layer c.args.object (Some (still_piece c.args.object)) =
    record { sound = c.land.ensures.sound; shown = c.land.ensures.cell; movement = λ number e. rw (← c.land.ensures.movement) e; objects = come _ _ _ c.land.ensures.objects c.land.ensures.lacked; known = rw (← here.level) at c.requires.on_layer } in
    sheet_toggled here t c.toggle.new.self c.toggle.ensures
