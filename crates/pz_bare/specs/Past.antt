-- The past: the way back from each level to the one before it, and what a past is to its callers.
use Rattle.std.specs.Prelude.{◌≡◌, ℕ, ◌≤◌, List, [], ◌∷◌, Option, Some, None, All, ⊤, length}
use Rattle.pz_sheet.specs.declared.changes.Change.{Change}
use Rattle.pz_sheet.specs.Changes.{changed_cells, changes_seen, IsChangeOf, with_cells_back}
use Rattle.pz_sheet.specs.Grid.{Grid, BareState, SameSize}
use Rattle.pz_bare.specs.declared.older.Older.{Older}
use Rattle.pz_bare.specs.declared.older.Older.TheVariants.{Small, Middle, Large, Whole}

-- the level to which a way leads back from this one
abbrev pub given_back : Older → Grid → Grid
given_back (Small changes) grid = with_cells_back (changes_seen grid changes.items) grid
given_back (Middle changes) grid = with_cells_back (changes_seen grid changes.items) grid
given_back (Large changes) grid = with_cells_back (changes_seen grid changes.items) grid
given_back (Whole level) grid = level.value.grid

-- what a way keeps, wherever its memory lies: changes of one, two or four words a cell, or the whole older level
abbrev pub Kept : Type 0
Kept = Option (List (Change 1)) × (Option (List (Change 2)) × (Option (List (Change 4)) × Option Grid))

abbrev pub kept_in : Older → Kept
kept_in (Small changes) = (Some changes.items, (None, (None, None)))
kept_in (Middle changes) = (None, (Some changes.items, (None, None)))
kept_in (Large changes) = (None, (None, (Some changes.items, None)))
kept_in (Whole level) = (None, (None, (None, Some level.value.grid)))

-- the changes are exactly the cells in which an older level of the same size differs
pub record AreChangesTo (N : ℕ) (grid older : Grid) (changes : List (Change N)) : Type 0 where
  pub size : SameSize grid older
  pub all : changes_seen grid changes ≡ changed_cells grid older
  pub of_level : All (IsChangeOf grid) changes

-- a level has at most this many objects and layers
abbrev pub IsFor : ℕ → ℕ → Grid → Type 0
IsFor objects layers grid = (length grid.layers ≤ objects) × (grid.depth ≤ layers)

-- a way keeps no more than the difference of two levels: it keeps the whole older one only if their sizes differ
abbrev pub Leads : Older → Grid → Grid → Type 0
Leads (Small changes) grid older = IsFor 128 25 grid × AreChangesTo 1 grid older changes.items
Leads (Middle changes) grid older = (IsFor 128 25 grid → ⊥) × IsFor 256 50 grid × AreChangesTo 2 grid older changes.items
Leads (Large changes) grid older = (IsFor 256 50 grid → ⊥) × AreChangesTo 4 grid older changes.items
Leads (Whole level) grid older = (level.value.grid ≡ older) × (SameSize grid older → ⊥)

-- the levels before one, the newest first
abbrev pub grids_before : List Older → Grid → List Grid
grids_before [] grid = []
grids_before (way ∷ ways) grid = given_back way grid ∷ grids_before ways (given_back way grid)

-- each way leads to the level that it gives back
abbrev pub AreWays : List Older → Grid → Type 0
AreWays [] grid = ⊤
AreWays (way ∷ ways) grid = Leads way grid (given_back way grid) × AreWays ways (given_back way grid)

-- a past: its newest level, and the levels before that
abbrev pub grids_of : Option BareState → List Older → List Grid
grids_of None ways = []
grids_of (Some newest) ways = newest.grid ∷ grids_before ways newest.grid

-- what holds of every past
abbrev pub IsPast : Option BareState → List Older → Type 0
IsPast None ways = ways ≡ []
IsPast (Some newest) ways = AreWays ways newest.grid
