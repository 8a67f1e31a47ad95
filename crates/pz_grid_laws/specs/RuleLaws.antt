-- Laws of places, of the lines in which they start, and of rewriting.
use Rattle.std.specs.Prelude.{ℕ, ◌≡◌, ◌≤◌, ◌*◌, false, List, IsTrue, Contains, ◌↔◌, Option, None, Ok}
use Rattle.pz_game.specs.declared.direction.Dir.{Dir}
use Rattle.pz_game.specs.declared.pattern.Item.{Item}
use Rattle.pz_game.specs.Pattern.{RuleRow, IsRow, AreOf}
use Rattle.pz_cells.specs.declared.piece.Piece.{Piece}
use Rattle.pz_grid.specs.declared.placing.Place.{Place}
use Rattle.pz_cells.specs.Cell.{IsCell}
use Rattle.pz_sheet.specs.Grid.{Grid, LevelState, IsLawful}
use Rattle.pz_grid.specs.Places.{places, places_or_limit, still_holds, row_holds, line_length}
use Rattle.pz_grid.specs.Marks.{IsMarked}
use Rattle.pz_grid.specs.Admitted.{admits_line, admitted_count, line_of, start_count}
use Rattle.pz_cells.specs.Rewriting.{rewritten_cell}

-- a pair of a start and a gap is a place of a row exactly if the row holds there; the gap is 0 if the row has none
abbrev pub ArePlaces : Type 0
ArePlaces = (grid : Grid) (row : RuleRow) (dir : Dir) (place : Place) → IsRow row → Contains (places grid row dir) place ↔ IsTrue (still_holds grid dir (row, place))

-- a rewritten cell of a game is a cell of the game again: each object stands on its own layer
abbrev pub RewritesLawfully : Type 0
RewritesLawfully = (depth : ℕ) (layers : List ℕ) (left right : List Item) (cell : List (Option Piece)) → AreOf layers right → IsCell depth layers cell → IsCell depth layers (rewritten_cell left right cell)

-- a row holds at no place that starts in a line that isn't admitted
abbrev pub HoldsInAdmitted : Type 0
HoldsInAdmitted = (state : LevelState) (row : RuleRow) (dir : Dir) (place : Place) → IsMarked state → admits_line state row dir (line_of dir place) ≡ false → row_holds state.grid row dir place ≡ false

-- the places of a row have no more different start cells than the admitted lines have cells
abbrev pub StartsAreBounded : Type 0
StartsAreBounded = (state : LevelState) (row : RuleRow) (dir : Dir) → IsMarked state → start_count state.grid dir (places state.grid row dir) ≤ admitted_count state row dir * line_length state.grid dir

-- a row without a gap never has more places than the limit
abbrev pub GaplessIsWithin : Type 0
GaplessIsWithin = (grid : Grid) (row : RuleRow) (dir : Dir) → IsLawful grid → row.gap_at ≡ None → places_or_limit grid row dir ≡ Ok (places grid row dir)
