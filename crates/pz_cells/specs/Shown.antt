-- The cell that words show: an object stands there if it is in the set of objects, on its own layer, and heads where the layer
-- does.
use Rattle.std.specs.Prelude.{◌≡◌, ◌≢◌, ℕ, ◌<◌, List, map, find, Bool, true, false, ◌&&◌, Option, Some, None, nat_eq, length, slice_index}
use Rattle.std.specs.Option.{option_map}
use Rattle.std.specs.List.{range_with_len}
use Rattle.pz_sets.specs.Sets.{member}
use Rattle.pz_game.specs.declared.direction.Dir.{Dir}
use Rattle.pz_game.specs.Headings.{is_toward, heads, heading_in, IsProper}
use Rattle.pz_cells.specs.declared.piece.Piece.{Piece}

-- an object of the set stands on a layer
abbrev pub stands_on : List ℕ → List ℕ → ℕ → ℕ → Bool
stands_on layers objects layer object = member objects object && nat_eq (slice_index layers object) layer

abbrev pub piece_with : Option Dir → ℕ → Piece
piece_with heading object = record { object = object; heading = heading }

-- what stands on a layer, by the masks
abbrev pub place_of : List ℕ → List ℕ → List ℕ → ℕ → Option Piece
place_of layers objects movement layer =
    option_map (piece_with (heading_in movement layer)) (find (stands_on layers objects layer) (range_with_len 0 (length layers)))

-- the cell that two masks stand for, with `depth` layers
abbrev pub cell_of : ℕ → List ℕ → List ℕ → List ℕ → List (Option Piece)
cell_of depth layers objects movement = map (place_of layers objects movement) (range_with_len 0 depth)

-- a layer of the masks has exactly this object with this heading, or neither an object nor a heading
abbrev pub Shows : List ℕ → (ℕ → Bool) → (Dir → Bool) → ℕ → Option Piece → Type 0
Shows layers has toward layer None = ((object : ℕ) → has object ≡ true → slice_index layers object ≡ layer → ⊥) × ((dir : Dir) → toward dir ≡ false)
Shows layers has toward layer (Some piece) =
    (has piece.object ≡ true) × (slice_index layers piece.object ≡ layer) × ((object : ℕ) → has object ≡ true → slice_index layers object ≡ layer → object ≡ piece.object) × ((dir : Dir) → toward dir ≡ is_toward piece.heading dir)

-- masks of a cell: they have only objects of the game, at most one object and one direction on a layer, no direction where
-- nothing stands, and no bits between the fields
pub record AreLawful (layers objects movement : List ℕ) : Type 0 where
  pub of_game : (object : ℕ) → member objects object ≡ true → object < length layers
  pub shows : (layer : ℕ) → Shows layers (member objects) (heads movement layer) layer (place_of layers objects movement layer)
  pub proper : IsProper movement

-- of the game's objects, a set has exactly those of a layer
abbrev pub IsSetOf : List ℕ → List ℕ → ℕ → Type 0
IsSetOf layers set layer = (object : ℕ) → object < length layers → member set object ≡ nat_eq (slice_index layers object) layer

-- masks that change only one layer, on which this stands then
pub record Changes (layers objects movement objects_new movement_new : List ℕ) (layer : ℕ) (place : Option Piece) : Type 0 where
  pub of_game : (object : ℕ) → member objects_new object ≡ true → object < length layers
  pub here : Shows layers (member objects_new) (heads movement_new layer) layer place
  pub same_objects : (object : ℕ) → slice_index layers object ≢ layer → member objects_new object ≡ member objects object
  pub proper : IsProper movement_new
  pub same_movement : (other : ℕ) (dir : Dir) → other ≢ layer → heads movement_new other dir ≡ heads movement other dir
