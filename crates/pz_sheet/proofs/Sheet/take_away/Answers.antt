use Rattle.pz_sheet.proofs.Common.{None, arith, small_cell}
use Rattle.pz_sheet.proofs.ToggleLemmas.{IsToggled, gone, is_there, place_shown, on_its_layer, level_toggled, sheet_toggled}
use Rattle.pz_sheet.proofs.Sheet.take_away.Goals as goal

pub take_away-requires : goal.take_away-requires
take_away-requires g c =
    let here = is_there c.self.invariant c.self.view_is c.requires.on_map c.index-number.ensures.index c.index-number.ensures.within c.index_mut.ensures.value in
    (small_cell _ c.self.invariant.stored.law.short, (omega arith, (here.sound, place_shown here _ _ c.requires.there)))

pub toggle-requires-clause-known : goal.toggle-requires-clause-known
toggle-requires-clause-known g c =
    let here = is_there c.self.invariant c.self.view_is c.requires.on_map c.index-number.ensures.index c.index-number.ensures.within c.index_mut.ensures.value in
    let on = on_its_layer here _ _ c.requires.there in
    let fits = c.self.invariant.placed.fits in
    record { in_rows = omega (arith, on.0, fits.row_objects); in_columns = omega (arith, on.0, fits.column_objects) }

pub returns : goal.returns
returns g c =
    let here = is_there c.self.invariant c.self.view_is c.requires.on_map c.index-number.ensures.index c.index-number.ensures.within c.index_mut.ensures.value in
    let t : IsToggled g.row.N c.self.inside.layers c.index_mut.result.now c.take_away.new.self c.args.mover.layer c.args.mover.object None =
    record { sound = c.take_away.ensures.sound; shown = c.take_away.ensures.cell; movement = c.take_away.ensures.movement; objects = gone _ _ _ c.take_away.ensures.objects c.take_away.ensures.stood; known = on_its_layer here _ _ c.requires.there } in
    record {
      taken = level_toggled here t;
      on_layer = rw (← c.self.view_is) t.known;
    }

pub invariant_of-self : goal.invariant_of-self
invariant_of-self g c =
    let here = is_there c.self.invariant c.self.view_is c.requires.on_map c.index-number.ensures.index c.index-number.ensures.within c.index_mut.ensures.value in
    let t : IsToggled g.row.N c.self.inside.layers c.index_mut.result.now c.take_away.new.self c.args.mover.layer c.args.mover.object None =
    record { sound = c.take_away.ensures.sound; shown = c.take_away.ensures.cell; movement = c.take_away.ensures.movement; objects = gone _ _ _ c.take_away.ensures.objects c.take_away.ensures.stood; known = on_its_layer here _ _ c.requires.there } in
    sheet_toggled here t c.toggle.new.self c.toggle.ensures
