-- A press gives its direction to the player.
use Rattle.std.specs.Prelude.{ℕ, Bool, List, [], map, Option, Some, None, nat_eq, slice_set, slice_index_or, if◌then◌else◌}
use Rattle.std.specs.List.{list_any}
use Rattle.pz_game.specs.declared.direction.Dir.{Dir}
use Rattle.pz_cells.specs.declared.piece.Piece.{Piece}
use Rattle.pz_sheet.specs.Grid.{Grid}

abbrev pub is_one_of : List ℕ → ℕ → Bool
is_one_of objects object = list_any (λ other. nat_eq other object) objects

-- an object that is a player gets the direction; every other stays as it is
abbrev pub pushed_place : List ℕ → Dir → Option Piece → Option Piece
pushed_place players dir None = None
pushed_place players dir (Some piece) =
    if is_one_of players piece.object then Some (record { object = piece.object; heading = Some dir }) else Some piece

-- step.press
abbrev pub pushed_level : List ℕ → Dir → Grid → Grid
pushed_level players dir grid = record grid { cells = map (map (pushed_place players dir)) grid.cells }

-- the level with the player pushed only in the cell of this number
abbrev pub pushed_at : List ℕ → Dir → ℕ → Grid → Grid
pushed_at players dir index grid =
    record grid { cells = slice_set grid.cells index (map (pushed_place players dir) (slice_index_or grid.cells index [])) }
