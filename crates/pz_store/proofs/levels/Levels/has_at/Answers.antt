use Rattle.std.proofs.Common.{◌≡◌, ◌<◌, Some, length, ap, subst, arith}
use Rattle.std.specs.Prelude.{slice_get, IsTrue, ◌↔◌}
use Rattle.std.proofs.lemmas.List.{length-map}
use Rattle.pz_sheet.specs.Grid.{Grid, SameSize}
use Rattle.pz_store.specs.Book.{AreNumbers}
use Rattle.pz_store.specs.Levels.{LevelsState, level_of}
use Rattle.pz_store.proofs.Rowing.{row_or_level}
use Rattle.pz_store.proofs.levels.Levels.has_at.Goals as goal

pub returns : goal.returns
returns c =
    let book = c.self.inside.book in
    let rows = c.self.inside.rows.rows in
    let within : c.args.place < length rows = omega (arith, c.requires.within, length-map rows (level_of book.frame book.cells), ap (λ (l : LevelsState). length l.grids) c.self.view_is) in
    subst (λ (l : LevelsState). (grid : Grid) → SameSize l.frame grid → AreNumbers l.cells c.args.numbers.now grid → IsTrue c.has_at.result ↔ (slice_get l.grids c.args.place ≡ Some grid)) c.self.view_is
    (λ grid size are. row_or_level book.frame book.cells rows c.args.place c.args.numbers.now grid c.has_at.result within c.self.invariant.rows.each c.frame.ensures.distinct size are c.has_at.ensures)
