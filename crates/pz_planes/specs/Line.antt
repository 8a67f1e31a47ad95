-- Positions of a line of a map, as the line is walked.
use Rattle.std.specs.Prelude.{ℕ, ◌+◌, ◌-◌}
use Rattle.pz_planes.specs.declared.line.Way.{Way}
use Rattle.pz_planes.specs.declared.line.Way.TheVariants.{Ahead, Back}

-- the position this many steps on
abbrev pub step_to : Way → ℕ → ℕ → ℕ
step_to Ahead at steps = at + steps
step_to Back at steps = at - steps

-- how many positions there are from `at` on, in a line of this length
abbrev pub room_from : ℕ → Way → ℕ → ℕ
room_from length Ahead at = length - at
room_from length Back at = at + 1
