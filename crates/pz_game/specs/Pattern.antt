-- The rows of rules.
use Rattle.std.specs.Prelude.{ℕ, true, ◌<◌, ◌≤◌, List, Option, length, All, IfSome, slice_index, ◌≡◌}
use Rattle.std.specs.List.{list_any}
use Rattle.pz_sets.specs.Sets.{member}
use Rattle.pz_game.specs.declared.direction.Dir.{Dir}
use Rattle.pz_game.specs.Headings.{heads, IsProper}
use Rattle.pz_game.specs.Items.{names_object}
use Rattle.pz_game.specs.Masks.{asks_toward}
use Rattle.pz_game.specs.declared.pattern.Item.{Item}
use Rattle.pz_game.specs.declared.limits.TheConstants.{MOST_ROW_CELLS}

-- a row of a rule: its cells as items, and the number of the cell before which a gap stands
pub record RuleRow : Type 0 where
  pub cells : List (List Item)
  pub gap_at : Option ℕ

-- the law of a row: it has at least one cell and no more than a row may have, and its gap stands between two cells
pub record HasShape (count : ℕ) (gap_at : Option ℕ) : Type 0 where
  pub some : 0 < count
  pub short : count ≤ MOST_ROW_CELLS
  pub between : IfSome gap_at (λ at. (0 < at) × (at < count))

abbrev pub IsRow : RuleRow → Type 0
IsRow row = HasShape (length row.cells) row.gap_at

-- an item of an object of the game, whose objects have these layers
pub record IsOf (layers : List ℕ) (item : Item) : Type 0 where
  pub object : item.object < length layers
  pub layer : slice_index layers item.object ≡ item.layer

-- each item of each cell of each row is of an object of the game
abbrev pub AreOf : List ℕ → List Item → Type 0
AreOf layers items = All (IsOf layers) items

abbrev pub IsRowOf : List ℕ → RuleRow → Type 0
IsRowOf layers row = All (AreOf layers) row.cells

abbrev pub AreRowsOf : List ℕ → List RuleRow → Type 0
AreRowsOf layers rows = All (IsRowOf layers) rows

-- a set has the objects that cells name as present, and no other
abbrev pub AreNamed : List (List Item) → List ℕ → Type 0
AreNamed cells set = (object : ℕ) → member set object ≡ list_any (names_object object) cells

-- a set has the directions in which cells ask layers to head, and no other
pub record AreRequired (cells : List (List Item)) (set : List ℕ) : Type 0 where
  pub asked : (layer : ℕ) (dir : Dir) → heads set layer dir ≡ list_any (asks_toward layer dir) cells
  pub proper : IsProper set

-- one of a row's cells asks a layer to head in a direction of a set
pub record AsksAmong (set : List ℕ) (cells : List (List Item)) : Type 0 where
  pub layer : ℕ
  pub dir : Dir
  pub among : heads set layer dir ≡ true
  pub asks : list_any (asks_toward layer dir) cells ≡ true
