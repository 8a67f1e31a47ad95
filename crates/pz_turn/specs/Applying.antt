-- An instance, applied to a level. The combinations are those of the places that its rows have before it, and the first row
-- varies fastest. Each is tested again in the level so far, just before it is rewritten. The commands are given if there is a
-- combination, even if nothing changes. Two things stop it: too many places of a row before the first one without a place, or
-- too many combinations.
use Rattle.std.specs.Prelude.{◌≡◌, ◌⊎◌, ◌*◌, ◌≤◌, List, [], ◌∷◌, fold, length, false, None, Result, Ok, Err, nat_lt, if◌then◌else◌}
use Rattle.pz_game.specs.declared.direction.Dir.{Dir}
use Rattle.pz_program.specs.declared.commands.Commands.{Commands}
use Rattle.pz_program.specs.declared.instance.Instance.{Instance}
use Rattle.pz_game.specs.declared.pattern.Item.{Item}
use Rattle.pz_game.specs.Pattern.{RuleRow}
use Rattle.pz_grid.specs.declared.placing.GridFault.{GridFault}
use Rattle.pz_grid.specs.declared.placing.GridFault.TheVariants as grid
use Rattle.pz_grid.specs.declared.placing.Place.{Place}
use Rattle.pz_sheet.specs.Grid.{Grid}
use Rattle.pz_grid.specs.Places.{row_of_one, places_or_limit, still_matches}
use Rattle.pz_grid.specs.Rewriting.{Rewriting, in_rewrite, after_rewriting, rewritten_row}
use Rattle.pz_turn.specs.declared.outcome.StepFault.{StepFault}
use Rattle.pz_turn.specs.declared.outcome.StepFault.TheVariants.{MatchLimit, Memory}
use Rattle.pz_turn.specs.declared.applying.TheConstants.{COMBINATION_LIMIT, FEW_CELLS}
use Rattle.pz_turn.specs.Combinations.{combinations}
use Rattle.pz_program.specs.Commands.{no_commands}
use Rattle.pz_turn.specs.Outcome.{Outcome}

-- the fault of a search is the fault of the step
abbrev pub stop_of : GridFault → StepFault
stop_of grid.Memory = Memory
stop_of grid.MatchLimit = MatchLimit

-- match.limit
abbrev pub found_or_stop : Result (List Place) GridFault → Result (List Place) StepFault
found_or_stop (Err fault) = Err (stop_of fault)
found_or_stop (Ok found) = Ok found

abbrev pub preceded_by : List Place → Result (List (List Place)) StepFault → Result (List (List Place)) StepFault
preceded_by found (Err fault) = Err fault
preceded_by found (Ok lists) = Ok (found ∷ lists)

-- after a row without a place no other row is searched
abbrev pub after_row : Result (List Place) StepFault → Result (List (List Place)) StepFault → Result (List (List Place)) StepFault
after_row (Err fault) rest = Err fault
after_row (Ok []) rest = Ok ([] ∷ [])
after_row (Ok (place ∷ found)) rest = preceded_by (place ∷ found) rest

-- the places of each row, up to the first row without one
abbrev pub places_of_rows : Grid → Dir → List RuleRow → Result (List (List Place)) StepFault
places_of_rows grid dir [] = Ok []
places_of_rows grid dir (row ∷ rows) = after_row (found_or_stop (places_or_limit grid row dir)) (places_of_rows grid dir rows)

-- match.tested-again: an instance rewrites at a combination of places, if all its rows hold there in the level so far
abbrev pub applied_at : Instance → Rewriting → List Place → Rewriting
applied_at instance so_far places =
    if still_matches so_far.grid instance places then after_rewriting instance places so_far else so_far

-- match.commands: the commands are given if there is a combination
abbrev pub given_commands : List (List Place) → Commands → Commands
given_commands [] commands = no_commands
given_commands (places ∷ more) commands = commands

abbrev pub outcome_of : Rewriting → Commands → Outcome Grid
outcome_of end commands = record { level = end.grid; commands = commands; changed = end.changed }

abbrev pub applied_to : Instance → Grid → List (List Place) → Result (Outcome Grid) StepFault
applied_to instance grid all =
    if nat_lt COMBINATION_LIMIT (length all)
    then Err MatchLimit
    else Ok (outcome_of (fold (applied_at instance) (in_rewrite grid false) all) (given_commands all instance.commands))

abbrev pub applied_with : Instance → Grid → Result (List (List Place)) StepFault → Result (Outcome Grid) StepFault
applied_with instance grid (Err fault) = Err fault
applied_with instance grid (Ok lists) = applied_to instance grid (combinations lists)

-- an instance, applied to a level
unfoldable pub application_of : Instance → Grid → Result (Outcome Grid) StepFault
application_of instance grid = applied_with instance grid (places_of_rows grid instance.scan instance.left)

-- rules.no-right: an instance without effect on a level: it has no right and no commands, and its one row can't have too many
-- places, because it has no gap or the level has few cells
pub record HasNoEffect (grid : Grid) (instance : Instance) : Type 0 where
  pub right : instance.right ≡ []
  pub commands : instance.commands ≡ no_commands
  pub row : RuleRow
  pub left : instance.left ≡ row ∷ []
  pub few : (row.gap_at ≡ None) ⊎ (grid.width * grid.height ≤ FEW_CELLS)

-- an instance of one cell: on the left and on the right it has one row of one cell, without a gap
pub record IsOfOneCell (instance : Instance) (left_cell right_cell : List Item) : Type 0 where
  pub left : instance.left ≡ row_of_one left_cell ∷ []
  pub right : instance.right ≡ row_of_one right_cell ∷ []

-- a row of this left and this right cell is rewritten at a place
abbrev pub one_rewritten : Dir → List Item → List Item → Rewriting → Place → Rewriting
one_rewritten dir left right so_far place = rewritten_row dir so_far (place, (row_of_one left, row_of_one right))
