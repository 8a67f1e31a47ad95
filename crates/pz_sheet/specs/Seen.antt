-- A level in words, seen by layers.
use Rattle.std.specs.Prelude.{◌≡◌, ℕ, ◌*◌, ◌/◌, ◌%◌, ◌<◌, List, [], map, length, slice_index_or, All}
use Rattle.pz_sets.specs.Sets.{IsWithin}
use Rattle.pz_game.specs.Size.{IsSize}
use Rattle.pz_planes.specs.Notes.{HeadingSets}
use Rattle.pz_planes.specs.Planes.{PlaneSets}
use Rattle.pz_cells.specs.Lists.{pieces_of_cell, IsSound}
use Rattle.pz_cells.specs.declared.cell.Cell.{Cell}
use Rattle.pz_cells.specs.Layering.{Layering, IsLayering}
use Rattle.pz_sheet.specs.Grid.{Grid}
use Rattle.pz_sheet.specs.Noting.{ArePlaced}

abbrev pub grid_of : {N : ℕ} → ℕ → ℕ → Layering → List (Cell N) → Grid
grid_of width height layering cells = record { width = width; height = height; depth = layering.depth; layers = layering.layers; cells = map (pieces_of_cell layering) cells }

-- a cell has only headings of this set
abbrev pub HeadsWithin : (N : ℕ) → List ℕ → Cell N → Type 0
HeadsWithin N headings cell = IsWithin cell.movement headings

-- the cell of this number, counted row by row, has only headings noted for the whole level, for its row and for its column
pub record IsNoted (N width : ℕ) (notes : HeadingSets) (index : ℕ) (cell : Cell N) : Type 0 where
  pub whole : HeadsWithin N notes.whole cell
  pub row : HeadsWithin N (slice_index_or notes.rows (index / width) []) cell
  pub column : HeadsWithin N (slice_index_or notes.columns (index % width) []) cell

-- there is a set for each line, and no cell has a heading that isn't noted
pub record AreNoted (N width height : ℕ) (notes : HeadingSets) (cells : List (Cell N)) : Type 0 where
  pub row_count : length notes.rows ≡ height
  pub column_count : length notes.columns ≡ width
  pub each : (index : ℕ) (cell : Cell N) → index < length cells → IsNoted N width notes index (slice_index_or cells index cell)

-- what holds of the words of a level: there is room for its game, each cell is of the game, and none has a heading that isn't
-- noted
pub record IsStored (N width height : ℕ) (layering : Layering) (cells : List (Cell N)) (notes : HeadingSets) : Type 0 where
  pub size : IsSize width height
  pub law : IsLayering N layering
  pub covers : length cells ≡ width * height
  pub sound : All (IsSound layering) cells
  pub noted : AreNoted N width height notes cells

-- what holds of a level in words: all this, and each object is noted where it stands and nowhere else
pub record IsSheet (N width height : ℕ) (layering : Layering) (cells : List (Cell N)) (notes : HeadingSets) (planes : PlaneSets) : Type 0 where
  pub stored : IsStored N width height layering cells notes
  pub placed : ArePlaced N (length layering.layers) width height planes cells
