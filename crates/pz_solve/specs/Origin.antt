-- The level from which presses are tried.
use Rattle.std.specs.Prelude.{◌≡◌, ℕ, ◌<◌, List, Option, Some, All, false, length, nat_eq, slice_get}
use Rattle.std.specs.List.{list_any}
use Rattle.std.specs.Option.{ForSome}
use Rattle.pz_bare.specs.Differing.{DifferWithin}
use Rattle.pz_sheet.specs.Grid.{BareState, Grid, LevelState, SameSize}
use Rattle.pz_store.specs.Book.{AreNumbers}
use Rattle.pz_store.specs.Digest.{digest_of}
use Rattle.pz_store.specs.Levels.{IsRow, LevelsState}

-- what an origin is to its callers: its number among those found, the level, the numbers of its cells, its digest, and the cells in which
-- a level to play in may differ from it
pub record OriginState : Type 0 where
  pub place : ℕ
  pub grid : Grid
  pub numbers : List ℕ
  pub digest : ℕ
  pub changed : List ℕ

-- a level to play in has the size of the other, and differs from it in these cells at most
pub record IsPlayedFrom (grid : Grid) (changed : List ℕ) (work : LevelState) : Type 0 where
  pub size : SameSize work.grid grid
  pub long : length work.grid.cells ≡ length grid.cells
  pub rest : DifferWithin changed work.grid grid

-- what holds of an origin: the level stands there twice, with marks and without them
pub record IsOrigin (bare : BareState) (level : LevelState) (work : Option LevelState) (changed : List ℕ) : Type 0 where
  pub same : bare.grid ≡ level.grid
  pub within : All (λ index. index < length level.grid.cells) changed
  pub played : ForSome work (IsPlayedFrom level.grid changed)

-- the level is the one of its number, with its numbers and its digest
pub record IsAt (levels : LevelsState) (origin : OriginState) : Type 0 where
  pub there : slice_get levels.grids origin.place ≡ Some origin.grid
  pub size : SameSize levels.frame origin.grid
  pub numbers : AreNumbers levels.cells origin.numbers origin.grid
  pub row : IsRow levels.frame levels.cells origin.numbers
  pub digest : origin.digest ≡ digest_of levels.objects origin.grid

-- the numbers of two rows are the same but in these cells
abbrev pub AreSameBut : List ℕ → List ℕ → List ℕ → Type 0
AreSameBut cells numbers others = (index : ℕ) → list_any (nat_eq index) cells ≡ false → slice_get numbers index ≡ slice_get others index
