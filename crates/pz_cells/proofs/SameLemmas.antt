-- The test of two cells decides whether they are the same.
use Rattle.pz_cells.proofs.Common.{◌≡◌, List, [], ◌∷◌, Option, true, refl, arith, eqb-true, Dir, Piece, same_dir, same_place, same_cell}

pub same_dir_is : (a b : Dir) → same_dir a b ≡ true → a ≡ b
same_dir_is a b h = grind arith

pub same_dir_self : (a : Dir) → same_dir a a ≡ true
same_dir_self a = grind arith

same_place_self : (a : Option Piece) → same_place a a ≡ true
same_place_self a = grind (arith, same_dir_self)

pub same_cell_is : (a b : List (Option Piece)) → same_cell a b ≡ true → a ≡ b
same_cell_is [] b h = grind arith
same_cell_is (a ∷ more) b h = grind (arith, eqb-true, same_cell_is more)

pub same_cell_self : (a : List (Option Piece)) → same_cell a a ≡ true
same_cell_self [] = refl
same_cell_self (a ∷ more) = grind (arith, same_place_self a, same_cell_self more)
