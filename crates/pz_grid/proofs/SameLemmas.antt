-- The test of two levels decides whether they are the same.
use Rattle.pz_grid.proofs.Common.{Grid, IsTrue, List, Option, Piece, [], arith, eq-eqb, eqb-true, refl, true, ℕ, ◌↔◌, ◌∷◌, ◌≡◌}
use Rattle.pz_cells.proofs.SameLemmas.{same_cell_is, same_cell_self}
use Rattle.pz_sheet.specs.Sameness.{same_cells, same_layers, same_grid}

pub same_cells_is : (a b : List (List (Option Piece))) → same_cells a b ≡ true → a ≡ b
same_cells_is [] b h = grind arith
same_cells_is (a ∷ more) b h = grind (arith, same_cell_is a, same_cells_is more)

pub same_cells_self : (a : List (List (Option Piece))) → same_cells a a ≡ true
same_cells_self [] = refl
same_cells_self (a ∷ more) = grind (arith, same_cell_self a, same_cells_self more)

same_layers_is : (a b : List ℕ) → same_layers a b ≡ true → a ≡ b
same_layers_is [] b h = grind arith
same_layers_is (a ∷ more) b h = grind (arith, eqb-true, same_layers_is more)

same_layers_self : (a : List ℕ) → same_layers a a ≡ true
same_layers_self [] = refl
same_layers_self (a ∷ more) = grind (arith, eq-eqb a a, same_layers_self more)

-- the test of two levels finds equal ones alone
pub same_grid_is : (a b : Grid) → same_grid a b ≡ true → a ≡ b
same_grid_is a b h = grind (arith, h, eqb-true, same_layers_is a.layers b.layers, same_cells_is a.cells b.cells)

pub same_grid_self : (a : Grid) → same_grid a a ≡ true
same_grid_self a = grind (arith, eq-eqb, same_layers_self a.layers, same_cells_self a.cells)

pub same_grid_decides : (a b : Grid) → IsTrue (same_grid a b) ↔ (a ≡ b)
same_grid_decides a b = (same_grid_is a b, λ e. rw e (same_grid_self b))
