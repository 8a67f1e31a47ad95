use Rattle.pz_cells.proofs.Common.{◌≡◌, ◌<◌, ◌||◌, inl, inr, cases_Bool, false, member, subst, Shows, nat_eq, arith, ap, sym, ◌∙◌, refl, heads, None, Some, still_piece}
use Rattle.std.proofs.Math.Bool.{and-false}
use Rattle.pz_cells.proofs.HoldLemmas.{place_seen}
use Rattle.pz_cells.proofs.PlaceLemmas.{changes_nothing, piece_put}
use Rattle.pz_cells.proofs.cell.Cell.land.Goals as goal

pub returns : goal.returns
returns g c =
    let layering = c.args.layers.now in
    let old = c.args.self.now in
    let layer = c.args.layer in
    let low : layer < layering.depth = omega (arith, c.depth.ensures.law.layered c.args.object 0 c.requires.on_layer.0, c.requires.on_layer.1) in
    let free = sym (place_seen layering.depth layering.layers old.objects old.movement layer low) ∙ c.requires.free in
    let put = piece_put layering.depth layering.layers old.objects old.movement old.objects old.movement c.insert.new.words old.movement layer (Some (still_piece c.args.object)) (still_piece c.args.object) None c.requires.sound
    (changes_nothing layering.layers old.objects old.movement layer c.requires.sound free) c.requires.on_layer refl refl c.insert.ensures (λ other dir. ap (λ b. b || heads old.movement other dir) (sym (and-false (nat_eq other layer)))) c.requires.sound.proper in
    let shown = subst (Shows layering.layers (member old.objects) (heads old.movement layer) layer) free (c.requires.sound.shows layer) in
    let lacked : member old.objects c.args.object ≡ false = elim (cases_Bool (member old.objects c.args.object)) [
      | inl there ↦ absurd (shown.0 c.args.object there c.requires.on_layer.1)
      | inr none ↦ none
    ] in
    record { sound = put.0; cell = put.1; movement = refl; objects = c.insert.ensures; lacked = lacked }
