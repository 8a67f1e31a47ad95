-- The rewriting of a cell by a left and a right cell of a rule, layer by layer. If the right places an object on the layer,
-- that object stands there. It heads where its word says. Without a word it is still if the left has a movement word on an
-- object of that layer; else it heads where what stood there did, and is still if nothing did. On other layers an object is
-- removed if the left names it as present or the right has it under `no`. What stays heads where it did.
use Rattle.std.specs.Prelude.{ℕ, List, map, Bool, ◌||◌, Option, Some, None, if◌then◌else◌, length, slice_index_or}
use Rattle.std.specs.List.{range_with_len}
use Rattle.pz_game.specs.declared.direction.Dir.{Dir}
use Rattle.pz_game.specs.declared.pattern.Item.{Item}
use Rattle.pz_game.specs.declared.pattern.Word.{Word}
use Rattle.pz_game.specs.declared.pattern.Word.TheVariants.{Still, Toward}
use Rattle.pz_game.specs.Items.{placed_on, tells_of, names_object, forbids_object}
use Rattle.pz_cells.specs.declared.piece.Piece.{Piece}

abbrev pub heading_of : Option Piece → Option Dir
heading_of None = None
heading_of (Some piece) = piece.heading

-- where a placed object heads: where its word says; without a word it is still if the left has a movement word on its layer
-- (`told`), else it heads where what stood there did
abbrev pub new_heading : Word → Bool → Option Piece → Option Dir
new_heading Still told here = None
new_heading (Toward dir) told here = Some dir
new_heading _ told here = if told then None else heading_of here

-- match.removed: what stays on a layer where nothing is placed
abbrev pub kept : List Item → List Item → Option Piece → Option Piece
kept left right None = None
kept left right (Some piece) = if names_object piece.object left || forbids_object piece.object right then None else Some piece

abbrev pub piece_after : Option Item → Bool → List Item → List Item → Option Piece → Option Piece
piece_after None told left right here = kept left right here
piece_after (Some item) told left right here = Some (record { object = item.object; heading = new_heading item.word told here })

-- match.placed: what stands on a layer after the rewriting
abbrev pub rewritten_place : List Item → List Item → ℕ → Option Piece → Option Piece
rewritten_place left right layer here = piece_after (placed_on layer right) (tells_of layer left) left right here

-- a cell, rewritten from a left cell of a rule to its right cell
abbrev pub rewritten_cell : List Item → List Item → List (Option Piece) → List (Option Piece)
rewritten_cell left right cell =
    map (λ layer. rewritten_place left right layer (slice_index_or cell layer None)) (range_with_len 0 (length cell))
