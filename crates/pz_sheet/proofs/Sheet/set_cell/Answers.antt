use Rattle.pz_sheet.proofs.Common.{arith, small_cell, List, length, Option, ap, map-set, Piece, pieces_of_cell, BareState, grid_of, known_of, sound_at}
use Rattle.pz_sheet.proofs.PlacedLemmas.{there_at, placed_at}
use Rattle.pz_sheet.proofs.SheetLemmas.{seen_within, within_lines, stored_set}
use Rattle.pz_sheet.proofs.Sheet.set_cell.Goals as goal

pub index-requires : goal.index-requires
index-requires g c = omega (arith, c.self.inside.cells.ok.0, seen_within _ _ _ c.self.inside.layers c.self.inside.cells.items _ c.args.index (ap (λ (s : BareState). s.grid) c.self.view_is) c.requires.within)

pub index_mut-requires : goal.index_mut-requires
index_mut-requires g c = omega (arith, c.self.inside.cells.ok.0, seen_within _ _ _ c.self.inside.layers c.self.inside.cells.items _ c.args.index (ap (λ (s : BareState). s.grid) c.self.view_is) c.requires.within)

pub note_heading-requires : goal.note_heading-requires
note_heading-requires g c = (let s = c.self.invariant.stored in (omega arith, (small_cell _ s.law.short, within_lines _ _ c.self.inside.width c.self.inside.height _ _ s.noted.column_count s.noted.row_count s.covers (seen_within _ _ _ c.self.inside.layers c.self.inside.cells.items _ c.args.index (ap (λ (s : BareState). s.grid) c.self.view_is) c.requires.within))))

pub note_objects-requires : goal.note_objects-requires
note_objects-requires g c =
    let a = c.self.inside in
    let s = c.self.invariant.stored in
    let fits = c.self.invariant.placed.fits in
    let within = seen_within _ _ _ a.layers a.cells.items _ c.args.index (ap (λ (s : BareState). s.grid) c.self.view_is) c.requires.within in
    let before = sound_at a.layers a.cells.items c.args.index c.index.result.now s.sound within c.index.ensures in
    let new = rw (← c.self.view_is) at c.requires.sound in (
      small_cell _ s.law.short,
      (
        s.law.short,
        (
          within_lines _ _ a.width a.height _ _ fits.column_count fits.row_count s.covers within,
          (
            known_of a.layers.layers a.width a.height a.planes c.index.result.now.objects fits before.of_game,
            (known_of a.layers.layers a.width a.height a.planes c.args.cell.objects fits new.of_game, there_at _ _ a.width a.height c.args.index a.planes a.cells.items c.index.result.now c.self.invariant.placed within s.covers c.index.ensures),
          ),
        ),
      ),
    )

pub invariant_of-self : goal.invariant_of-self
invariant_of-self g c =
    let a = c.self.inside in
    let within = seen_within _ _ _ a.layers a.cells.items _ c.args.index (ap (λ (s : BareState). s.grid) c.self.view_is) c.requires.within in
    record {
      stored = stored_set _ a.width a.height a.layers a.cells.items c.args.index c.args.cell a.notes c.note_heading.new.notes c.self.invariant.stored (rw (← c.self.view_is) at c.requires.sound) c.note_heading.ensures.noted c.note_heading.ensures.wider;
      placed = placed_at _ (length a.layers.layers) a.width a.height a.planes c.note_objects.new.planes a.cells.items c.args.index c.args.cell c.self.invariant.placed within c.self.invariant.stored.covers c.note_objects.ensures;
    }

pub returns : goal.returns
returns g c = rw (← c.self.view_is) (ap (λ (cells : List (List (Option Piece))). record (grid_of c.self.inside.width c.self.inside.height c.self.inside.layers c.self.inside.cells.items) { cells = cells }) (map-set (pieces_of_cell c.self.inside.layers) c.self.inside.cells.items c.args.index c.args.cell))
