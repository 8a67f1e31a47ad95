-- Two cells are the same if they agree on each layer, in what stands there and where it heads.
use Rattle.std.specs.Prelude.{List, [], ◌∷◌, Option, Some, None, Bool, true, false, nat_eq, ◌&&◌}
use Rattle.pz_game.specs.declared.direction.Dir.{Dir}
use Rattle.pz_game.specs.Direction.{same_dir}
use Rattle.pz_cells.specs.declared.piece.Piece.{Piece}

abbrev pub same_heading : Option Dir → Option Dir → Bool
same_heading None None = true
same_heading (Some a) (Some b) = same_dir a b
same_heading _ _ = false

abbrev pub same_place : Option Piece → Option Piece → Bool
same_place None None = true
same_place (Some a) (Some b) = nat_eq a.object b.object && same_heading a.heading b.heading
same_place _ _ = false

abbrev pub same_cell : List (Option Piece) → List (Option Piece) → Bool
same_cell [] [] = true
same_cell (a ∷ more) (b ∷ others) = same_place a b && same_cell more others
same_cell _ _ = false
