-- A book of cells: distinct ones, each by its number, and levels as the numbers of their cells.
use Rattle.std.specs.Prelude.{◌≡◌, ◌⊎◌, ℕ, ◌-◌, ◌<◌, List, [], ◌∷◌, ◌++◌, Option, Some, None, length, map, slice_get, All}
use Rattle.pz_cells.specs.declared.piece.Piece.{Piece}
use Rattle.pz_sheet.specs.Grid.{Grid, BareState, SameSize}
use Rattle.pz_sheet.specs.Presence.{cell_of}
use Rattle.pz_store.specs.declared.book.Place.{Place}
use Rattle.pz_store.specs.Digest.{cell_word}

-- a cell, by layers
abbrev pub CellSeen : Type 0
CellSeen = List (Option Piece)

-- what a book is to its callers: a level of the size that all levels have, how many objects count for the words of cells, and the
-- distinct cells, each by its number
pub record BookState : Type 0 where
  pub frame : Grid
  pub objects : ℕ
  pub cells : List CellSeen

-- no cell has two numbers
abbrev pub AreDistinctCells : List CellSeen → Type 0
AreDistinctCells cells = (number other : ℕ) (cell : CellSeen) → slice_get cells number ≡ Some cell → slice_get cells other ≡ Some cell → number ≡ other

-- a cell has no number
abbrev pub IsUnknown : List CellSeen → CellSeen → Type 0
IsUnknown cells cell = (number : ℕ) → slice_get cells number ≡ Some cell → ⊥

-- each cell keeps its number; more may have come
abbrev pub Extends : List CellSeen → List CellSeen → Type 0
Extends old new = (number : ℕ) (cell : CellSeen) → slice_get old number ≡ Some cell → slice_get new number ≡ Some cell

-- the numbers of the cells of a level
pub record AreNumbers (cells : List CellSeen) (numbers : List ℕ) (grid : Grid) : Type 0 where
  pub long : length numbers ≡ length grid.cells
  pub each : (index number : ℕ) → slice_get numbers index ≡ Some number → slice_get cells number ≡ Some (cell_of grid index)

-- a cell, as it stands in one of the levels that are kept
abbrev pub cell_from : Option BareState → ℕ → CellSeen
cell_from None index = []
cell_from (Some level) index = cell_of level.grid index

abbrev pub cell_in : List BareState → Place → CellSeen
cell_in levels place = cell_from (slice_get levels place.level) place.index

-- a level has the size of the frame, and as many cells
pub record IsFramed (frame : Grid) (level : BareState) : Type 0 where
  pub size : SameSize frame level.grid
  pub long : length level.grid.cells ≡ length frame.cells

-- nothing changed, or there is one level more
abbrev pub HasMore : List BareState → List BareState → Grid → Type 0
HasMore old new grid = (new ≡ old) ⊎ ((more : BareState) × (more.grid ≡ grid) × (new ≡ old ++ more ∷ []))

-- the last level has this cell
abbrev pub IsInLast : List BareState → ℕ → CellSeen → Type 0
IsInLast levels index cell = (0 < length levels) × (cell_from (slice_get levels (length levels - 1)) index ≡ cell)

-- a place is in one of the levels, and has the word of its cell
pub record IsPlaceIn (frame : Grid) (levels : List BareState) (objects : ℕ) (place : Place) : Type 0 where
  pub level : place.level < length levels
  pub index : place.index < length frame.cells
  pub word : place.word ≡ cell_word objects (cell_in levels place)

-- what holds of a book: its levels have the size of the frame, each cell is in one of them, and no two are the same
pub record IsBook (frame : Grid) (levels : List BareState) (places : List Place) (objects : ℕ) : Type 0 where
  pub framed : All (IsFramed frame) levels
  pub placed : All (IsPlaceIn frame levels objects) places
  pub distinct : AreDistinctCells (map (cell_in levels) places)
