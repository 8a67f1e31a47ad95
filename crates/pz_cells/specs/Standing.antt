-- Which objects stand in a cell, and where they head.
use Rattle.std.specs.Prelude.{ℕ, List, [], ◌∷◌, Option, Some, None, nat_eq, if◌then◌else◌}
use Rattle.pz_game.specs.declared.direction.Dir.{Dir}
use Rattle.pz_cells.specs.declared.piece.Piece.{Piece}

-- where an object in a cell heads, if it stands there
abbrev pub standing : List (Option Piece) → ℕ → Option (Option Dir)
standing [] object = None
standing (None ∷ places) object = standing places object
standing (Some piece ∷ places) object = if nat_eq piece.object object then Some piece.heading else standing places object
