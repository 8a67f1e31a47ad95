-- Levels of one size.
use Rattle.std.proofs.Common.{refl}
use Rattle.pz_sheet.specs.Grid.{Grid, SameSize}

pub same_size : (grid : Grid) → SameSize grid grid
same_size grid = record { width = refl; height = refl; depth = refl; layers = refl }
