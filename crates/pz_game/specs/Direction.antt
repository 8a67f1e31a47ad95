-- Directions.
use Rattle.std.specs.Prelude.{Bool, true, false}
use Rattle.pz_game.specs.declared.direction.Dir.{Dir}
use Rattle.pz_game.specs.declared.direction.Dir.TheVariants.{Up, Down, Left, Right, Action}

-- whether two directions are the same
abbrev pub same_dir : Dir → Dir → Bool
same_dir Up Up = true
same_dir Down Down = true
same_dir Left Left = true
same_dir Right Right = true
same_dir Action Action = true
same_dir _ _ = false
