-- The inputs that a host gives.
use Rattle.std.specs.Prelude.{ℕ}
use Rattle.pz_game.specs.declared.direction.Dir.{Dir}
use Rattle.pz_game.specs.declared.direction.Dir.TheVariants.{Up, Left, Down, Right, Action}
use Rattle.pz_record.specs.declared.input.Input.{Input}
use Rattle.pz_record.specs.declared.input.Input.TheVariants.{Press, Undo, Restart, Tick}

-- the number of a press, as a file of sessions has it
abbrev pub press_number : Dir → ℕ
press_number Up = 0
press_number Left = 1
press_number Down = 2
press_number Right = 3
press_number Action = 4

-- the byte of an input
abbrev pub number_of : Input → ℕ
number_of (Press dir) = press_number dir
number_of Undo = 5
number_of Restart = 6
number_of Tick = 7
