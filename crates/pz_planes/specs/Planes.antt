-- At which positions of each row and each column the objects of a level stand. The planes have exactly the positions below 128,
-- and no others.
use Rattle.std.specs.Prelude.{◌≡◌, ◌≢◌, ◌↔◌, ℕ, ◌+◌, ◌*◌, ◌/◌, ◌%◌, ◌<◌, ◌≤◌, List, Bool, true, false, not, Option, Some, None, length, slice_index_or, All}
use Rattle.pz_sets.specs.Sets.{in_word, member}
use Rattle.pz_game.specs.declared.limits.TheConstants.{MOST_OBJECTS, MOST_SIDE}
use Rattle.pz_game.specs.declared.pattern.Item.{Item}
use Rattle.pz_game.specs.Items.{names}
use Rattle.pz_planes.specs.declared.line.Axis.{Axis}
use Rattle.pz_planes.specs.declared.line.Axis.TheVariants.{Horizontal, Vertical}
use Rattle.pz_planes.specs.declared.line.Way.{Way}
use Rattle.pz_planes.specs.declared.planes.Differing.{Differing}
use Rattle.pz_planes.specs.Line.{step_to, room_from}

-- for each object and each line the positions at which the object stands, all as one set of numbers: 128 numbers for each pair
pub record LineSets : Type 0 where
  pub objects : ℕ
  pub count : ℕ
  pub words : List ℕ

-- the columns of each row, and the rows of each column
pub record PlaneSets : Type 0 where
  pub rows : LineSets
  pub columns : LineSets

-- the sets of the rows, or those of the columns
abbrev pub lines_of : PlaneSets → Axis → LineSets
lines_of planes Horizontal = planes.rows
lines_of planes Vertical = planes.columns

-- there is a word for each object and each line
pub record HasLines (objects count : ℕ) (words : List ℕ) : Type 0 where
  pub few : objects ≤ MOST_OBJECTS
  pub short : count ≤ MOST_SIDE
  pub covers : length words ≡ objects * count

-- an object is noted at a position of a line
abbrev pub stands_in : LineSets → ℕ → ℕ → ℕ → Bool
stands_in sets object line at = member sets.words ((object * sets.count + line) * 128 + at)

-- an object is noted at no position of a line
abbrev pub IsMissingIn : LineSets → ℕ → ℕ → Type 0
IsMissingIn sets line object = (at : ℕ) → object < sets.objects → at < 128 → stands_in sets object line at ≡ false

-- at this position of a line both have the same objects noted, of those that the first is for
abbrev pub AreSameAt : LineSets → LineSets → ℕ → ℕ → Type 0
AreSameAt sets other line at = (object : ℕ) → object < sets.objects → stands_in sets object line at ≡ stands_in other object line at

-- the same objects are noted at the positions from one number on and before another; positions are numbered line by line, and
-- each line has `long` of them
abbrev pub AreSameBetween : LineSets → LineSets → ℕ → ℕ → ℕ → Type 0
AreSameBetween sets other long from end = (number : ℕ) → from ≤ number → number < end → AreSameAt sets other (number / long) (number % long)

-- the first position, from a number on, at which other objects are noted in one than in the other, if there is one
abbrev pub IsNextDifferingPosition : LineSets → LineSets → ℕ → ℕ → Option ℕ → Type 0
IsNextDifferingPosition sets other long from None = AreSameBetween sets other long from (sets.count * long)
IsNextDifferingPosition sets other long from (Some found) =
    (from ≤ found) × (found < sets.count * long) × (AreSameAt sets other (found / long) (found % long) → ⊥) × AreSameBetween sets other long from found

-- a word has exactly the positions of a line at which other objects are noted
abbrev pub AreDiffering : LineSets → LineSets → ℕ → ℕ → Type 0
AreDiffering sets other line places = (at : ℕ) → at < 128 → (in_word places at ≡ false) ↔ AreSameAt sets other line at

-- the same, with all such positions of its line
abbrev pub IsNextDifferingLine : LineSets → LineSets → ℕ → ℕ → Option Differing → Type 0
IsNextDifferingLine sets other long from None = IsNextDifferingPosition sets other long from None
IsNextDifferingLine sets other long from (Some row) =
    IsNextDifferingPosition sets other long from (Some row.found) × (row.line ≡ row.found / long) × AreDiffering sets other row.line row.places

-- a note after a toggle: if it is toggled, it comes if it wasn't there and goes if it was; else it stays
abbrev pub toggled_note : Bool → Bool → Bool
toggled_note true was = not was
toggled_note false was = was

-- nothing is noted at all
abbrev pub IsEmpty : LineSets → Type 0
IsEmpty sets = (object line at : ℕ) → stands_in sets object line at ≡ false

-- sets of as many objects and lines, unchanged except at one position of one line: there `noted` gives for each object whether
-- it is noted, from whether it was
pub record IsChanged (old new : LineSets) (line at : ℕ) (noted : ℕ → Bool → Bool) : Type 0 where
  pub objects : new.objects ≡ old.objects
  pub count : new.count ≡ old.count
  pub here : (object : ℕ) → at < 128 → stands_in new object line at ≡ noted object (stands_in old object line at)
  pub others : (object other place : ℕ) → other < old.count → place < 128 → (other ≡ line → place ≢ at) → stands_in new object other place ≡ stands_in old object other place

-- the same by rows and by columns, at a position of the map
pub record AreChanged (old new : PlaneSets) (x y : ℕ) (noted : ℕ → Bool → Bool) : Type 0 where
  pub rows : IsChanged old.rows new.rows y x noted
  pub columns : IsChanged old.columns new.columns x y noted

-- a position of the map
pub record IsInside (planes : PlaneSets) (x y : ℕ) : Type 0 where
  pub x_in : x < planes.columns.count
  pub y_in : y < planes.rows.count

-- an object that the planes have, by rows and by columns
pub record IsKnown (planes : PlaneSets) (object : ℕ) : Type 0 where
  pub in_rows : object < planes.rows.objects
  pub in_columns : object < planes.columns.objects

-- the planes have all objects of a set
abbrev pub AreKnown : PlaneSets → List ℕ → Type 0
AreKnown planes objects = (object : ℕ) → member objects object ≡ true → IsKnown planes object

-- the objects that pass a test are noted at a position of the map, and no others
pub record AreThere (planes : PlaneSets) (x y : ℕ) (test : ℕ → Bool) : Type 0 where
  pub row : (object : ℕ) → x < 128 → stands_in planes.rows object y x ≡ test object
  pub column : (object : ℕ) → y < 128 → stands_in planes.columns object x y ≡ test object

-- sets of as many objects and lines
pub record HaveSameLines (old new : PlaneSets) : Type 0 where
  pub row_objects : new.rows.objects ≡ old.rows.objects
  pub row_count : new.rows.count ≡ old.rows.count
  pub column_objects : new.columns.objects ≡ old.columns.objects
  pub column_count : new.columns.count ≡ old.columns.count

-- one has as many objects and lines as another
pub record HasRoomOf (sets other : LineSets) : Type 0 where
  pub objects : sets.objects ≡ other.objects
  pub count : sets.count ≡ other.count

-- planes of this many objects, for each row and each column of a map of this size
pub record IsFor (objects width height : ℕ) (planes : PlaneSets) : Type 0 where
  pub row_objects : planes.rows.objects ≡ objects
  pub row_count : planes.rows.count ≡ height
  pub column_objects : planes.columns.objects ≡ objects
  pub column_count : planes.columns.count ≡ width

-- the items of a rule's cell are of objects that the sets have
abbrev pub AreItemsOf : LineSets → List Item → Type 0
AreItemsOf sets pattern = All (λ item. item.object < sets.objects) pattern

-- each object that a rule's cell names as present is noted at a position of a line, and none that it has under `no`
abbrev pub MayHold : LineSets → ℕ → ℕ → List Item → Type 0
MayHold sets line at pattern = All (λ item. stands_in sets item.object line at ≡ names item.word) pattern

-- the same of rules' cells one after another, from a position of a line on
pub record MayRun (sets : LineSets) (line : ℕ) (way : Way) (patterns : List (List Item)) (at : ℕ) : Type 0 where
  pub within : length patterns ≤ room_from 128 way at
  pub each : (index : ℕ) (pattern : List Item) → index < length patterns → MayHold sets line (step_to way at index) (slice_index_or patterns index pattern)
