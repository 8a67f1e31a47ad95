-- Two levels that differ at most in some cells.
use Rattle.std.specs.Prelude.{◌≡◌, ℕ, List, false, nat_eq}
use Rattle.std.specs.List.{list_any}
use Rattle.pz_sheet.specs.Grid.{Grid}
use Rattle.pz_sheet.specs.Presence.{cell_of}

-- each cell whose number is none of these is the same in both
abbrev pub DifferWithin : List ℕ → Grid → Grid → Type 0
DifferWithin cells grid other = (index : ℕ) → list_any (nat_eq index) cells ≡ false → cell_of grid index ≡ cell_of other index
