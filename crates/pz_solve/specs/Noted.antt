-- What a search keeps.
use Rattle.std.specs.Prelude.{◌≡◌, ℕ, ◌≤◌, ◌<◌, Bool, true, false, List, [], ◌∷◌, ◌++◌, length, map, Some, slice_get}
use Rattle.std.specs.List.{IsDistinct, list_any, zip}
use Rattle.pz_sheet.specs.Grid.{Grid}
use Rattle.pz_sheet.specs.Sameness.{same_grid}
use Rattle.pz_store.specs.Digest.{digest_of}
use Rattle.pz_store.specs.Levels.{LevelsState}
use Rattle.pz_solve.specs.declared.search.Link.{Link}
use Rattle.pz_solve.specs.declared.search.Noted.{Noted}
use Rattle.pz_solve.specs.declared.search.Noted.TheVariants.{Known, Added, NoRoom}
use Rattle.pz_solve.specs.Found.{Found}
use Rattle.pz_solve.specs.Origin.{OriginState, IsAt}

abbrev pub entry_of : Grid → Link → Found
entry_of grid link = record { grid = grid; depth = link.depth; parent = link.parent; input = link.input }

abbrev pub link_of : Found → Link
link_of found = record { depth = found.depth; parent = found.parent; input = found.input }

-- levels, and how each of them was found, side by side
abbrev pub found_in : List Grid → List Link → List Found
found_in grids links = map (λ pair. entry_of pair.0 pair.1) (zip grids links)

abbrev pub grids_of : List Found → List Grid
grids_of found = map (λ here. here.grid) found

-- no level is found twice
abbrev pub AreDistinct : List Found → Type 0
AreDistinct found = IsDistinct same_grid (grids_of found)

-- a level has its number after the one that it was found from, and a depth of at most its number
pub record IsPlaced (index : ℕ) (here : Found) : Type 0 where
  pub low : here.depth ≤ index
  pub behind : 0 < index → here.parent < index

-- what holds of the levels that are kept: each once, and each in its place
pub record IsKept (found : List Found) : Type 0 where
  pub distinct : AreDistinct found
  pub placed : (index : ℕ) (here : Found) → slice_get found index ≡ Some here → IsPlaced index here

-- the digests of levels, by so many objects
abbrev pub digests_of : ℕ → List Grid → List ℕ
digests_of objects grids = map (digest_of objects) grids

-- what holds of a search: each level has its link, the levels are kept, their digests are indexed, there is room for the numbers of one
-- level more; and `origin` is one of the levels
pub record IsStored (levels : LevelsState) (links : List Link) (digests numbers : List ℕ) (origin : OriginState) : Type 0 where
  pub linked : length links ≡ length levels.grids
  pub kept : IsKept (found_in levels.grids links)
  pub indexed : digests ≡ digests_of levels.objects levels.grids
  pub long : length numbers ≡ length levels.frame.cells
  pub at : IsAt levels origin

-- a level is among others
abbrev pub is_among : List Grid → Grid → Bool
is_among grids grid = list_any (same_grid grid) grids

abbrev pub is_found : List Found → Grid → Bool
is_found found grid = is_among (grids_of found) grid

-- a level was known, and nothing changed; or it wasn't, and was added, or there was no room for it
abbrev pub IsNotedAs : List Found → List Found → ℕ → Found → Noted → Type 0
IsNotedAs old new most entry Known = (is_found old entry.grid ≡ true) × (new ≡ old)
IsNotedAs old new most entry Added = (is_found old entry.grid ≡ false) × (new ≡ old ++ entry ∷ []) × (length old < most)
IsNotedAs old new most entry NoRoom = (is_found old entry.grid ≡ false) × (new ≡ old) × (most ≤ length old)
