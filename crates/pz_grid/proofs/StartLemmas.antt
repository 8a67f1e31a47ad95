-- Starts and gaps that are left out since the row's cells before its gap, or its first cell behind it, don't hold there.
use Rattle.pz_grid.proofs.Common.{Dir, Grid, IsRow, Item, List, Option, Place, RuleRow, Some, [], ap, arith, cell_holds, count_by, enumerate_fails, false, gather, gather_skip, get_or, head_of, holds_behind, le-leb, line_length, place_in, range_with_len, row_holds, run_holds, starts_with, subst, sym, x_at, y_at, ℕ, ◌++◌, ◌<◌, ◌≡◌, ◌≤◌}
use Rattle.pz_sheet.specs.declared.line.Walk.{Walk}
use Rattle.pz_sheet.specs.Line as lines
use Rattle.pz_sheet.specs.Line.{axis_of, dir_of, runs_in}
use Rattle.pz_sets.specs.Next.{IsNext}
use Rattle.pz_grid.proofs.FoundLemmas.{found_at, found_at_all, found_at_none, found_with}
use Rattle.pz_grid.proofs.HeadLemmas.{head_from_row}

-- the lines of a walk's direction lie as its own line does
pub axis_back : (walk : Walk) → axis_of (dir_of walk) ≡ walk.line.axis
axis_back walk = grind arith

-- a run of a row's first cells along the walk is a start of the row
pub starts_alike : (grid : Grid) (head : List (List Item)) (walk : Walk) (start : ℕ) → starts_with grid (dir_of walk) walk.line.number head start ≡ runs_in grid walk head start
starts_alike grid head walk start = ap (λ axis. run_holds grid (dir_of walk) (x_at axis walk.line.number start) (y_at axis walk.line.number start) head) (axis_back walk)

-- what a search finds next in a line is the next start of the row
pub next_in : (grid : Grid) (row : RuleRow) (walk : Walk) (from : ℕ) (found : Option ℕ) → IsNext (runs_in grid walk (head_of row)) from (lines.line_length grid walk.line.axis) found → IsNext (starts_with grid (dir_of walk) walk.line.number (head_of row)) from (line_length grid (dir_of walk)) found
next_in grid row walk from found next =
    let line = walk.line.number in
    subst (λ axis. IsNext (λ start. run_holds grid (dir_of walk) (x_at axis line start) (y_at axis line start) (head_of row)) from (lines.line_length grid axis) found) (sym (axis_back walk)) next

-- and what it counts are the starts of the row
pub counted_in : (grid : Grid) (row : RuleRow) (walk : Walk) (tested : ℕ) → count_by (runs_in grid walk (head_of row)) (range_with_len 0 (lines.line_length grid walk.line.axis)) ≤ tested → count_by (starts_with grid (dir_of walk) walk.line.number (head_of row)) (range_with_len 0 (line_length grid (dir_of walk))) ≤ tested
counted_in grid row walk tested low =
    let line = walk.line.number in
    subst (λ axis. count_by (λ start. run_holds grid (dir_of walk) (x_at axis line start) (y_at axis line start) (head_of row)) (range_with_len 0 (lines.line_length grid axis)) ≤ tested) (sym (axis_back walk)) low

-- no place starts where the cells before the gap don't hold
pub none_at : (grid : Grid) (row : RuleRow) (dir : Dir) (line start : ℕ) → starts_with grid dir line (head_of row) start ≡ false → found_at grid row dir line start ≡ []
none_at grid row dir line start e =
    found_at_none grid row dir line start (λ gap. grind (arith, e, head_from_row grid row dir (place_in dir line start gap)))

-- a place with a gap behind which the cell doesn't hold
gap_fails : (grid : Grid) (row : RuleRow) (dir : Dir) (at : ℕ) (behind : List Item) (place : Place) → IsRow row → row.gap_at ≡ Some at → behind ≡ get_or row.cells at behind → holds_behind grid dir behind at place ≡ false → row_holds grid row dir place ≡ false
gap_fails grid row dir at behind place law has is fails = enumerate_fails (cell_holds grid row dir place) row.cells at behind (rw has at law.between).1 is (grind (arith, has, le-leb at at, fails))

-- the gaps that are passed over, behind which the cell doesn't hold, add nothing
pub gaps_passed : (grid : Grid) (row : RuleRow) (dir : Dir) (line start at from to : ℕ) (before items : List Place) (behind : List Item) → IsRow row → row.gap_at ≡ Some at → behind ≡ get_or row.cells at behind → from ≤ to
    → ((gap : ℕ) → from ≤ gap → gap < to → holds_behind grid dir behind at (place_in dir line start gap) ≡ false) → items ≡ before ++ gather (found_with grid row dir line start) from → items ≡ before ++ gather (found_with grid row dir line start) to
gaps_passed grid row dir line start at from to before items behind law has is low none added =
    rw (gather_skip (found_with grid row dir line start) from to low (λ gap least below. grind (arith, gap_fails grid row dir at behind (place_in dir line start gap) law has is (none gap least below)))) added

-- a row with a gap spans as many gaps as its line is long
pub found_with_gaps : (grid : Grid) (row : RuleRow) (dir : Dir) (line start at : ℕ) → row.gap_at ≡ Some at → gather (found_with grid row dir line start) (line_length grid dir) ≡ found_at grid row dir line start
found_with_gaps grid row dir line start at has = grind (arith, has, found_at_all grid row dir line start)
