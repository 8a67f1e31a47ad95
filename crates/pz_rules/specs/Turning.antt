-- The directions that the words of a rule mean in one of its directions.
use Rattle.std.specs.Prelude.{List, [], ◌∷◌}
use Rattle.pz_game.specs.declared.direction.Dir.{Dir}
use Rattle.pz_game.specs.declared.direction.Dir.TheVariants.{Up, Down, Left, Right, Action}
use Rattle.pz_grammar.specs.declared.token.Turn.{Turn}
use Rattle.pz_grammar.specs.declared.token.Turn.TheVariants as turn
use Rattle.pz_grammar.specs.declared.token.Class.{Class}
use Rattle.pz_grammar.specs.declared.token.Class.TheVariants as class

-- rules.turning: the direction that `^`, `v`, `<` or `>` means in a rule of this direction
abbrev pub turned_direction : Dir → Turn → Dir
turned_direction Right turn.Up = Up
turned_direction Right turn.Down = Down
turned_direction Right turn.Back = Left
turned_direction Right turn.Ahead = Right
turned_direction Up turn.Up = Left
turned_direction Up turn.Down = Right
turned_direction Up turn.Back = Down
turned_direction Up turn.Ahead = Up
turned_direction Down turn.Up = Right
turned_direction Down turn.Down = Left
turned_direction Down turn.Back = Up
turned_direction Down turn.Ahead = Down
turned_direction Left turn.Up = Down
turned_direction Left turn.Down = Up
turned_direction Left turn.Back = Right
turned_direction Left turn.Ahead = Left
turned_direction Action t = Action

abbrev pub sideways : List Dir
sideways = Left ∷ Right ∷ []

abbrev pub upright : List Dir
upright = Up ∷ Down ∷ []

-- the axis of a rule of this direction
abbrev pub along : Dir → List Dir
along Up = upright
along Down = upright
along _ = sideways

-- the other axis
abbrev pub across : Dir → List Dir
across Up = sideways
across Down = sideways
across _ = upright

-- rules.class-words: the directions of a word for several, in order
abbrev pub class_directions : Dir → Class → List Dir
class_directions direction class.Moving = Up ∷ Down ∷ Left ∷ Right ∷ Action ∷ []
class_directions direction class.Orthogonal = Up ∷ Down ∷ Left ∷ Right ∷ []
class_directions direction class.Horizontal = sideways
class_directions direction class.Vertical = upright
class_directions direction class.Parallel = along direction
class_directions direction class.Perpendicular = across direction
