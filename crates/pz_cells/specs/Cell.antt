-- A cell, seen by layers: for each layer nothing, or the piece that stands there.
use Rattle.std.specs.Prelude.{◌≡◌, ℕ, ◌<◌, ◌≤◌, List, Option, Some, None, length, slice_index, slice_index_or, IfSome, replicate}
use Rattle.pz_cells.specs.declared.piece.Piece.{Piece}
use Rattle.pz_cells.specs.declared.piece.Mover.{Mover}

-- an object that heads nowhere
abbrev pub still_piece : ℕ → Piece
still_piece object = record { object = object; heading = None }

-- what stands on a layer, stilled
abbrev pub still_place : Option Piece → Option Piece
still_place None = None
still_place (Some piece) = Some (still_piece piece.object)

-- what stands on a layer of a cell heads nowhere
abbrev pub IsStillOn : List (Option Piece) → ℕ → Type 0
IsStillOn cell layer = slice_index_or cell layer None ≡ still_place (slice_index_or cell layer None)

-- a mover, as the piece that stands on its layer
abbrev pub moving_piece : Mover → Piece
moving_piece mover = record { object = mover.object; heading = Some mover.dir }

-- the first piece that heads somewhere, on a layer from one on, if there is one
abbrev pub IsNextMover : List (Option Piece) → ℕ → Option Mover → Type 0
IsNextMover cell from None = (layer : ℕ) → from ≤ layer → IsStillOn cell layer
IsNextMover cell from (Some mover) =
    (from ≤ mover.layer) × (slice_index_or cell mover.layer None ≡ Some (moving_piece mover)) × ((layer : ℕ) → from ≤ layer → layer < mover.layer → IsStillOn cell layer)

-- a cell where nothing stands
abbrev pub empty_cell : ℕ → List (Option Piece)
empty_cell depth = replicate depth None

-- what stands on a layer is an object of that layer
abbrev pub IsOnLayer : List ℕ → ℕ → Option Piece → Type 0
IsOnLayer layers layer place = IfSome place (λ piece. (piece.object < length layers) × (slice_index layers piece.object ≡ layer))

-- a cell has a place for each layer, and each object stands on its own layer, so no two objects of a layer share a cell
pub record IsCell (depth : ℕ) (layers : List ℕ) (cell : List (Option Piece)) : Type 0 where
  pub deep : length cell ≡ depth
  pub on_layers : (layer : ℕ) → IsOnLayer layers layer (slice_index_or cell layer None)
