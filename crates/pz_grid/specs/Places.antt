-- The places of a row of a rule: each start cell with each gap for which all cells of the row are on the map and hold. A cell
-- of a rule *holds* where it fits. Left and right scan row by row from the top, each from the left. Up and down scan column by
-- column from the left, each from the top. At a start cell gaps ascend. A row without `...` has only the gap 0.
use Rattle.std.specs.Prelude.{◌≡◌, ⊤, ℕ, ◌+◌, ◌<◌, List, [], ◌∷◌, ◌++◌, take, map, filter, length, Bool, Option, Some, None, Result, Ok, Err, nat_lt, nat_le, nat_eq, ◌&&◌, ◌||◌, if◌then◌else◌, is_some}
use Rattle.std.specs.List.{list_all, enumerate_from, flat_map, range_with_len, zip}
use Rattle.pz_game.specs.declared.direction.Dir.{Dir}
use Rattle.pz_program.specs.declared.instance.Instance.{Instance}
use Rattle.pz_game.specs.declared.pattern.Item.{Item}
use Rattle.pz_game.specs.Pattern.{RuleRow}
use Rattle.pz_grid.specs.declared.placing.GridFault.{GridFault}
use Rattle.pz_grid.specs.declared.placing.GridFault.TheVariants.{MatchLimit}
use Rattle.pz_grid.specs.declared.placing.Place.{Place}
use Rattle.pz_grid.specs.declared.placing.TooManyPlaces.{TooManyPlaces}
use Rattle.pz_grid.specs.declared.placing.TheConstants.{MATCH_LIMIT}
use Rattle.pz_sheet.specs.Grid.{Grid}
use Rattle.pz_sheet.specs.Line as lines
use Rattle.pz_sheet.specs.Line.{axis_of, x_at, y_at}
use Rattle.pz_sheet.specs.Runs.{run_holds}
pub use Rattle.pz_sheet.specs.Runs.{on_map, along, holds_at}

-- how far the row's cell of this number is from its start: a cell behind the gap is farther by the gap
abbrev pub distance : Option ℕ → ℕ → ℕ → ℕ
distance None gap index = index
distance (Some at) gap index = if nat_le at index then index + gap else index

-- the position of the row's cell of this number, if it is on the map
abbrev pub position_of : Grid → Dir → Option ℕ → Place → ℕ → Option (ℕ × ℕ)
position_of grid dir gap_at place index = along grid dir place.x place.y (distance gap_at place.gap index)

-- a cell of a row is on the map and holds
abbrev pub cell_holds : Grid → RuleRow → Dir → Place → ℕ × List Item → Bool
cell_holds grid row dir place (index, pattern) = holds_at grid pattern (position_of grid dir row.gap_at place index)

-- match.gaps: all cells of a row are on the map and hold
abbrev pub row_holds : Grid → RuleRow → Dir → Place → Bool
row_holds grid row dir place = list_all (cell_holds grid row dir place) (enumerate_from 0 row.cells)

-- the row of this one cell
abbrev pub row_of_one : List Item → RuleRow
row_of_one cell = record { cells = cell ∷ []; gap_at = None }

-- how many lines are scanned: columns for up and down, else rows
abbrev pub line_count : Grid → Dir → ℕ
line_count grid dir = lines.line_count grid (axis_of dir)

abbrev pub line_length : Grid → Dir → ℕ
line_length grid dir = lines.line_length grid (axis_of dir)

abbrev pub place_in : Dir → ℕ → ℕ → ℕ → Place
place_in dir line start gap = record { x = x_at (axis_of dir) line start; y = y_at (axis_of dir) line start; gap = gap }

-- the cells of a row before its gap, or all
abbrev pub cells_before : Option ℕ → List (List Item) → List (List Item)
cells_before None cells = cells
cells_before (Some at) cells = take at cells

abbrev pub head_of : RuleRow → List (List Item)
head_of row = cells_before row.gap_at row.cells

-- these cells of a row hold one after another, from a start in a line on
abbrev pub starts_with : Grid → Dir → ℕ → List (List Item) → ℕ → Bool
starts_with grid dir line head start = run_holds grid dir (x_at (axis_of dir) line start) (y_at (axis_of dir) line start) head

-- the row's first cell behind its gap, the one of the number `at`, holds
abbrev pub holds_behind : Grid → Dir → List Item → ℕ → Place → Bool
holds_behind grid dir behind at place = holds_at grid behind (along grid dir place.x place.y (at + place.gap))

-- how many gaps are tried: a greater one leads off the map
abbrev pub gap_count : Grid → RuleRow → Dir → ℕ
gap_count grid row dir = if is_some row.gap_at then line_length grid dir else 1

-- match.gaps: all pairs of a start cell and a gap, in the order of the scan: of one start cell, of one line, of the level
abbrev pub pairs_at : Grid → RuleRow → Dir → ℕ → ℕ → List Place
pairs_at grid row dir line start = map (place_in dir line start) (range_with_len 0 (gap_count grid row dir))

abbrev pub pairs_in : Grid → RuleRow → Dir → ℕ → List Place
pairs_in grid row dir line = flat_map (pairs_at grid row dir line) (range_with_len 0 (line_length grid dir))

abbrev pub pairs : Grid → RuleRow → Dir → List Place
pairs grid row dir = flat_map (pairs_in grid row dir) (range_with_len 0 (line_count grid dir))

-- match.places: the places of a row
abbrev pub places : Grid → RuleRow → Dir → List Place
places grid row dir = filter (row_holds grid row dir) (pairs grid row dir)

-- match.limit: the places of a row, unless there are more than the limit
unfoldable pub places_or_limit : Grid → RuleRow → Dir → Result (List Place) GridFault
places_or_limit grid row dir = if nat_lt MATCH_LIMIT (length (places grid row dir)) then Err MatchLimit else Ok (places grid row dir)

-- a search adds these places to those found before, unless there are too many together
abbrev pub Adds : List Place → List Place → List Place → Result ⊤ TooManyPlaces → Type 0
Adds before more after (Ok added) = after ≡ before ++ more
Adds before more after (Err too_many) = MATCH_LIMIT < length (before ++ more)

-- a row holds at a place; the place has the gap 0 if the row has no gap
abbrev pub still_holds : Grid → Dir → RuleRow × Place → Bool
still_holds grid dir (row, place) = (is_some row.gap_at || nat_eq place.gap 0) && row_holds grid row dir place

-- match.tested-again: there is a place for each row of an instance, and each row holds at its place
abbrev pub still_matches : Grid → Instance → List Place → Bool
still_matches grid instance places =
    nat_eq (length places) (length instance.left) && list_all (still_holds grid instance.scan) (zip instance.left places)
