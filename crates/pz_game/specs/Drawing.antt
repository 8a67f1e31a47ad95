-- A level as its rows draw it.
use Rattle.std.specs.Prelude.{◌≡◌, ℕ, ◌*◌, List, length}
use Rattle.pz_game.specs.Size.{IsSize}

-- its size, and for each cell, row by row, the number of its glyph's name
pub record Drawing : Type 0 where
  pub width : ℕ
  pub height : ℕ
  pub cells : List ℕ

-- a level has a cell for each position, and is within the limits of its sides
pub record IsDrawing (drawing : Drawing) : Type 0 where
  pub covers : length drawing.cells ≡ drawing.width * drawing.height
  pub size : IsSize drawing.width drawing.height
