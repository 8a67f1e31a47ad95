-- When a level is won: there are win lines, and all of them hold. `All X on Y` holds if each cell that fits X fits Y, `Some X
-- on Y` if some cell fits both, `No X on Y` if none does. Without `on` each cell counts as fitting Y, so `All X` always holds.
use Rattle.std.specs.Prelude.{◌≡◌, ℕ, Bool, true, false, not, ◌&&◌, ◌||◌, List, Option, Some, None, length, nat_lt, slice_get}
use Rattle.std.specs.List.{list_any, list_all}
use Rattle.std.specs.Option.{option_map_or}
use Rattle.pz_game.specs.declared.denotation.Kind.{Kind}
use Rattle.pz_game.specs.declared.denotation.Kind.TheVariants.{Aggregate}
use Rattle.pz_game.specs.declared.win_line.Quantifier.{Quantifier}
use Rattle.pz_game.specs.declared.win_line.Quantifier.TheVariants as quantifier
use Rattle.pz_game.specs.declared.win_line.WinLine.{WinLine}
use Rattle.pz_game.specs.declared.game.GameParts.{GameParts}
use Rattle.pz_cells.specs.declared.piece.Piece.{Piece}
use Rattle.pz_sheet.specs.Grid.{Grid}
use Rattle.pz_sheet.specs.Presence.{holds_one, holds_each, holds_both, holds_if}

-- wins.fit: a cell fits an aggregate if it holds all members, and an object or a property if it holds a member
abbrev pub fits_kind : Kind → List ℕ → List (Option Piece) → Bool
fits_kind Aggregate members cell = holds_each members cell
fits_kind _ members cell = holds_one members cell

-- a cell fits the name of this number
abbrev pub fits : GameParts → ℕ → List (Option Piece) → Bool
fits game number cell = option_map_or (λ d. fits_kind d.kind d.members cell) (slice_get game.values number) false

-- a cell fits what stands after `on`; without it each cell does
abbrev pub fits_on : GameParts → Option ℕ → List (Option Piece) → Bool
fits_on game None cell = true
fits_on game (Some number) cell = fits game number cell

-- a cell fits both names of a line
abbrev pub fits_both : GameParts → WinLine → List (Option Piece) → Bool
fits_both game line cell = fits game line.subject cell && fits_on game line.on cell

-- if a cell fits the first name of a line, it fits the second
abbrev pub fits_if : GameParts → WinLine → List (Option Piece) → Bool
fits_if game line cell = not (fits game line.subject cell) || fits_on game line.on cell

-- a cell fits the first name of a line by holding one of `objects`, and the second by holding one of `others`
pub record AreAsked (game : GameParts) (line : WinLine) (objects others : List ℕ) : Type 0 where
  pub both : (cell : List (Option Piece)) → fits_both game line cell ≡ holds_both objects others cell
  pub if_first : (cell : List (Option Piece)) → fits_if game line cell ≡ holds_if objects others cell

-- wins.hold: a line holds of these cells
abbrev pub holds_of : Quantifier → GameParts → WinLine → List (List (Option Piece)) → Bool
holds_of quantifier.All game line cells = list_all (fits_if game line) cells
holds_of quantifier.Some game line cells = list_any (fits_both game line) cells
holds_of quantifier.No game line cells = not (list_any (fits_both game line) cells)

-- wins.hold
abbrev pub line_holds : GameParts → Grid → WinLine → Bool
line_holds game grid line = holds_of line.quantifier game line grid.cells

-- wins.step: there are win lines, and all hold
unfoldable pub has_won : GameParts → Grid → Bool
has_won game grid = nat_lt 0 (length game.wins) && list_all (line_holds game grid) game.wins
