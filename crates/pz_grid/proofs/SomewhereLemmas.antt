-- The cells of a row that has a place hold in the line where it starts, and so somewhere on the map.
use Rattle.pz_grid.proofs.Common.{Action, All, Bool, Dir, Down, Grid, HoldsInLine, HoldsSomewhere, IsRow, Item, Left, List, Place, Right, RuleRow, StartsNowhere, Up, [], along, arith, cell_holds, distance, enumerate_fails, false, gather_none, get_or, get_or_default, holds_at, line_at, line_count, line_of, places, refl, row_holds, sym, true, x_at, y_at, ℕ, ◌+◌, ◌-◌, ◌<◌, ◌∙◌, ◌≡◌}
use Rattle.pz_sheet.specs.declared.line.Walk.{Walk}
use Rattle.pz_sheet.specs.Line.{IsWalk}
use Rattle.pz_grid.proofs.FoundLemmas.{found_in, found_nowhere, places_all}
use Rattle.pz_grid.proofs.PlaceLemmas.{holds_each_cell}

-- a rule's cell holds somewhere in a line of the map
abbrev pub HoldsThere : Grid → Dir → ℕ → List Item → Type 0
HoldsThere grid dir line pattern = (line < line_count grid dir) × HoldsInLine grid (line_at dir line) pattern

along_line : (grid : Grid) (pattern : List Item) (dir : Dir) (place : Place) (steps : ℕ) → holds_at grid pattern (along grid dir place.x place.y steps) ≡ true → HoldsThere grid dir (line_of dir place) pattern
along_line grid pattern Right place steps h = (grind (arith, h), record { at = place.x + steps; at_in = grind (arith, h); holds = grind (arith, h) })
along_line grid pattern Left place steps h = (grind (arith, h), record { at = place.x - steps; at_in = grind (arith, h); holds = grind (arith, h) })
along_line grid pattern Down place steps h = (grind (arith, h), record { at = place.y + steps; at_in = grind (arith, h); holds = grind (arith, h) })
along_line grid pattern Up place steps h = (grind (arith, h), record { at = place.y - steps; at_in = grind (arith, h); holds = grind (arith, h) })
along_line grid pattern Action place steps h = grind (arith, h)

each_there : (grid : Grid) (row : RuleRow) (dir : Dir) (place : Place) → row_holds grid row dir place ≡ true → All (HoldsThere grid dir (line_of dir place)) row.cells
each_there grid row dir place h k d within =
    rw (get_or_default row.cells k [] d within) at (along_line grid (get_or row.cells k []) dir place (distance row.gap_at place.gap k) (holds_each_cell grid row dir place k within h))

-- the action leads nowhere, so no place starts
pub action_nowhere : (grid : Grid) (row : RuleRow) (line : ℕ) → IsRow row → StartsNowhere grid row Action line
action_nowhere grid row line is place at = enumerate_fails (cell_holds grid row Action place) row.cells 0 (get_or row.cells 0 []) is.some (get_or_default row.cells 0 [] (get_or row.cells 0 []) is.some) refl

-- where some cell of a row holds nowhere in a line, no place starts there
pub line_nowhere : (grid : Grid) (row : RuleRow) (dir : Dir) (line : ℕ) (may : Bool) → (All (HoldsThere grid dir line) row.cells → may ≡ true) → may ≡ false → StartsNowhere grid row dir line
line_nowhere grid row dir line may h e place at = grind (arith, e, λ (f : row_holds grid row dir place ≡ true). h (rw at at (each_there grid row dir place f)))

pub nowhere_along : (grid : Grid) (row : RuleRow) (dir : Dir) (line : ℕ) (walk : Walk) (may : Bool) → IsWalk dir line walk → (All (HoldsInLine grid walk.line) row.cells → may ≡ true) → may ≡ false → StartsNowhere grid row dir line
nowhere_along grid row dir line walk may is h e = line_nowhere grid row dir line may (λ all. h (rw is.1 (λ k d within. (all k d within).1))) e

somewhere : (grid : Grid) (dir : Dir) (line : ℕ) (pattern : List Item) → HoldsThere grid dir line pattern → HoldsSomewhere grid pattern
somewhere grid dir line pattern h =
    let lies = line_at dir line in
    record { x = x_at lies.axis lies.number h.1.at; y = y_at lies.axis lies.number h.1.at; x_in = grind (arith, h.0, h.1.at_in); y_in = grind (arith, h.0, h.1.at_in); holds = h.1.holds }

-- where some cell of a row holds nowhere, the row has no place
pub nowhere_none : (grid : Grid) (row : RuleRow) (dir : Dir) (may : Bool) → (All (HoldsSomewhere grid) row.cells → may ≡ true) → may ≡ false → places grid row dir ≡ []
nowhere_none grid row dir may h e =
    sym (places_all grid row dir) ∙ gather_none (found_in grid row dir) (λ line. found_nowhere grid row dir line
    (line_nowhere grid row dir line may (λ all. h (λ k d within. somewhere grid dir line (get_or row.cells k d) (all k d within))) e)) (line_count grid dir)
