-- Two levels are the same if they agree in their size, their layers, and what stands and heads on each layer of each cell.
use Rattle.std.specs.Prelude.{ℕ, List, [], ◌∷◌, Option, Bool, true, false, nat_eq, ◌&&◌}
use Rattle.pz_cells.specs.declared.piece.Piece.{Piece}
use Rattle.pz_cells.specs.Sameness.{same_cell}
use Rattle.pz_sheet.specs.Grid.{Grid}

abbrev pub same_cells : List (List (Option Piece)) → List (List (Option Piece)) → Bool
same_cells [] [] = true
same_cells (a ∷ more) (b ∷ others) = same_cell a b && same_cells more others
same_cells _ _ = false

abbrev pub same_layers : List ℕ → List ℕ → Bool
same_layers [] [] = true
same_layers (a ∷ more) (b ∷ others) = nat_eq a b && same_layers more others
same_layers _ _ = false

abbrev pub same_size : Grid → Grid → Bool
same_size a b = nat_eq a.width b.width && (nat_eq a.height b.height && (nat_eq a.depth b.depth && same_layers a.layers b.layers))

abbrev pub same_grid : Grid → Grid → Bool
same_grid a b = same_size a b && same_cells a.cells b.cells
