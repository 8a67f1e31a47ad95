-- A level without its marks, with as many words a cell as its game needs.
use Rattle.std.specs.Prelude.{◌≤◌, ◌<◌, ◌⊎◌, length}
use Rattle.pz_sheet.specs.Grid.{BareState}
use Rattle.pz_bare.specs.declared.AnySheet.{AnySheet}
use Rattle.pz_bare.specs.declared.AnySheet.TheVariants.{Small, Middle, Large}

-- what stands in its cells
abbrev pub state_in : AnySheet → BareState
state_in (Small sheet) = sheet
state_in (Middle sheet) = sheet
state_in (Large sheet) = sheet

-- it has as many words a cell as its game needs, and no more
abbrev pub IsFitting : AnySheet → Type 0
IsFitting (Small sheet) = (length sheet.grid.layers ≤ 128) × (sheet.grid.depth ≤ 25)
IsFitting (Middle sheet) = ((128 < length sheet.grid.layers) ⊎ (25 < sheet.grid.depth)) × (length sheet.grid.layers ≤ 256) × (sheet.grid.depth ≤ 50)
IsFitting (Large sheet) = (256 < length sheet.grid.layers) ⊎ (50 < sheet.grid.depth)
