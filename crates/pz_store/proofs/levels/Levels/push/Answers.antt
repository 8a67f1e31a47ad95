use Rattle.std.proofs.Common.{◌≡◌, ◌++◌, [], ◌∷◌, map, subst}
use Rattle.pz_sheet.specs.Grid.{Grid, SameSize}
use Rattle.pz_store.specs.Book.{AreNumbers}
use Rattle.pz_store.specs.Levels.{LevelsState, level_of}
use Rattle.pz_store.proofs.Rowing.{level_more}
use Rattle.pz_store.proofs.levels.Levels.push.Goals as goal

pub returns-clause-pushed : goal.returns-clause-pushed
returns-clause-pushed c =
    let book = c.self.inside.book in
    let rows = c.self.inside.rows.rows in
    subst (λ (l : LevelsState). (grid : Grid) → SameSize l.frame grid → AreNumbers l.cells c.args.numbers.now grid → map (level_of book.frame book.cells) c.push.new.self.rows ≡ l.grids ++ grid ∷ []) c.self.view_is
    (λ grid size are. level_more book.frame book.cells rows c.push.new.self.rows c.args.numbers.now grid c.in_ok-push.ensures.pushed size are)
