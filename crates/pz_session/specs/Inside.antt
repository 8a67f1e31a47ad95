-- What contracts see of a board.
use Rattle.std.specs.Prelude.{◌≡◌, Bool, not, Option, option_map, IfSome}
use Rattle.pz_sheet.specs.Grid.{Grid}
use Rattle.pz_sheet.specs.Sameness.{same_grid}
use Rattle.pz_level_text.specs.Labels.{WriterView, texts_in}
use Rattle.pz_session.specs.declared.board.Board.TheInside.{Inside}
use Rattle.pz_session.specs.Board.{State, IsOneGame}
use Rattle.pz_session.specs.Labelled.{labelled_of}

-- a board as a session, whose levels are grids
abbrev pub state_in : Inside → State
state_in b = record {
  game = b.game.now;
  program = b.program.now;
  order = b.order;
  recorded = b.recorded.now;
  entry = b.entry;
  level = b.level.grid;
  target = b.target.grid;
  past = b.past;
  before = option_map (λ level. level.grid) b.before;
  is_over = b.is_over;
}

-- whether the level differs from the one before its input is as it is noted, where it is noted
abbrev pub KnowsChange : Grid → Option Grid → Option Bool → Type 0
KnowsChange level before differs = IfSome differs (λ differs. IfSome before (λ before. same_grid before level ≡ not differs))

-- the writer of texts keeps the labels of a level, if it is of one
abbrev pub HasLabels : WriterView → Option Grid → Type 0
HasLabels texts labelled = IfSome labelled (λ grid. texts.cells ≡ texts_in texts.table.game texts.order grid)

-- a board belongs to one game, and the writer of its texts has the same game and order; what is noted of its levels is so
abbrev pub IsKept : Inside → Type 0
IsKept b = IsOneGame (state_in b) × ((b.texts.table.game ≡ b.game.now) × (b.texts.order ≡ b.order)) × KnowsChange b.level.grid (state_in b).before b.differs × HasLabels b.texts (labelled_of b.labelled b.level.grid (state_in b).before (option_map (λ level. level.grid) b.spare))
