-- What lists of presses do to a level. `undo` and `restart` are no part of them: each leads to a level where play was before, so from a
-- level's own beginning a list with one is no shorter than one without.
use Rattle.std.specs.Prelude.{◌≡◌, ℕ, ◌≤◌, Bool, true, false, List, [], ◌∷◌, length, Option, Some, None}
use Rattle.pz_game.specs.declared.direction.Dir.{Dir}
use Rattle.pz_sheet.specs.Grid.{Grid}
use Rattle.pz_solve.specs.Moves.{Reached, Stands, Wins, DeadEnd}

-- where the move of each press leads from each level
abbrev pub Moves : Type 0
Moves = Grid → Dir → Reached

abbrev pub is_end : List Dir → Bool
is_end [] = true
is_end _ = false

-- whether what is left wins, behind the move of a press: a win before the last press counts for nothing
abbrev pub wins_behind : (Grid → Bool) → List Dir → Reached → Bool
wins_behind later inputs (Stands level) = later level
wins_behind later inputs Wins = is_end inputs
wins_behind later inputs DeadEnd = false

-- whether playing these presses wins the level: the last one does, and none before it
unfoldable pub wins : Moves → List Dir → Grid → Bool
wins moves [] level = false
wins moves (input ∷ inputs) level = wins_behind (wins moves inputs) inputs (moves level input)

abbrev pub stands_behind : (Grid → Option Grid) → Reached → Option Grid
stands_behind later (Stands level) = later level
stands_behind later _ = None

-- the level in which play stands after these presses, if none of them won or was a dead end
unfoldable pub stands_after : Moves → List Dir → Grid → Option Grid
stands_after moves [] level = Some level
stands_after moves (input ∷ inputs) level = stands_behind (stands_after moves inputs) (moves level input)

-- a level is reached from another by at most so many presses
abbrev pub IsReached : Moves → Grid → ℕ → Grid → Type 0
IsReached moves start most level = (inputs : List Dir) × (length inputs ≤ most) × (stands_after moves inputs start ≡ Some level)

-- these presses win, and no shorter list does
pub record IsShortest (moves : Moves) (start : Grid) (inputs : List Dir) : Type 0 where
  pub win : wins moves inputs start ≡ true
  pub least : (others : List Dir) → wins moves others start ≡ true → length inputs ≤ length others

-- no list of presses wins
abbrev pub NoneWins : Moves → Grid → Type 0
NoneWins moves start = (inputs : List Dir) → wins moves inputs start ≡ false

-- no list of at most so many presses wins
abbrev pub NoneWinsWithin : Moves → Grid → ℕ → Type 0
NoneWinsWithin moves start most = (inputs : List Dir) → length inputs ≤ most → wins moves inputs start ≡ false
