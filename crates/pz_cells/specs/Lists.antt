-- Lists of cells in words, seen by layers.
use Rattle.std.specs.Prelude.{◌≡◌, ℕ, ◌<◌, List, map, Option, false, length, slice_index_or, All}
use Rattle.pz_sets.specs.Sets.{member, AreSame}
use Rattle.pz_cells.specs.declared.cell.Cell.{Cell}
use Rattle.pz_cells.specs.declared.piece.Piece.{Piece}
use Rattle.pz_cells.specs.Shown.{place_of, cell_of, AreLawful, Changes}
use Rattle.pz_cells.specs.Cell.{still_place}
use Rattle.pz_cells.specs.Layering.{Layering}

-- a cell, seen by layers
abbrev pub pieces_of_cell : {N : ℕ} → Layering → Cell N → List (Option Piece)
pieces_of_cell layering cell = cell_of layering.depth layering.layers cell.objects cell.movement

-- the words of a cell are of these layers
abbrev pub IsSound : {N : ℕ} → Layering → Cell N → Type 0
IsSound layering cell = AreLawful layering.layers cell.objects cell.movement

-- no cell heads anywhere
abbrev pub HeadNowhere : {N : ℕ} → List (Cell N) → Type 0
HeadNowhere {N} cells = (index : ℕ) (cell : Cell N) (number : ℕ) → index < length cells → member (slice_index_or cells index cell).movement number ≡ false

-- a cell of these layers, in which the same stands as in another, and nothing heads anywhere
pub record IsStilled {N : ℕ} (layering : Layering) (cell new : Cell N) : Type 0 where
  pub sound : IsSound layering new
  pub seen_still : pieces_of_cell layering new ≡ map still_place (pieces_of_cell layering cell)
  pub nowhere : (number : ℕ) → member new.movement number ≡ false
  pub objects : new.objects ≡ cell.objects

-- cells with the same objects, one by one
abbrev pub HaveSameObjects : {N : ℕ} → List (Cell N) → List (Cell N) → Type 0
HaveSameObjects {N} old new = (index : ℕ) (cell : Cell N) → (slice_index_or new index cell).objects ≡ (slice_index_or old index cell).objects

-- cells that, seen by layers, are made from old ones by a function, one by one
pub record AreMapped {N : ℕ} (layering : Layering) (f : List (Option Piece) → List (Option Piece)) (old new : List (Cell N)) : Type 0 where
  pub sound : All (IsSound layering) new
  pub cells : map (pieces_of_cell layering) new ≡ map f (map (pieces_of_cell layering) old)

-- the words of two cells have the same numbers
abbrev pub AreAlike : {N : ℕ} → Cell N → Cell N → Type 0
AreAlike cell other = AreSame cell.objects other.objects × AreSame cell.movement other.movement

-- what stands on a layer, by the words of a cell
abbrev pub place_in : {N : ℕ} → Layering → Cell N → ℕ → Option Piece
place_in layering cell layer = place_of layering.layers cell.objects cell.movement layer

-- a cell becomes one that differs only on this layer, where this stands
abbrev pub Becomes : {N : ℕ} → Layering → Cell N → Cell N → ℕ → Option Piece → Type 0
Becomes layering cell new layer place = Changes layering.layers cell.objects cell.movement new.objects new.movement layer place
