-- The line of what a search tells of a session: compact JSON, its keys in the order of their bytes. Presses are numbered as in a file of
-- sessions, so they can be given to a session, or stand in a recording, as they are.
use Rattle.std.specs.Prelude.{ℕ, List, ◌++◌, drop, flat_map, codes, decimal}
use Rattle.pz_game.specs.declared.direction.Dir.{Dir}
use Rattle.pz_game.specs.declared.direction.Dir.TheVariants.{Up, Left, Down, Right, Action}
use Rattle.pz_solve.specs.declared.answer.Answer.{Answer}
use Rattle.pz_solve.specs.declared.answer.Answer.TheVariants.{Solved, Unsolvable, OutOfBounds}
use Rattle.pz_solutions.specs.declared.solution.Solution.{Solution}
use Rattle.pz_solutions.specs.declared.solution.Solution.TheVariants.{Of, Over, Stopped, Refused}

abbrev pub press_number : Dir → ℕ
press_number Up = 0
press_number Left = 1
press_number Down = 2
press_number Right = 3
press_number Action = 4

-- a list of presses: each has a comma before it, but the first
abbrev pub presses_text : List Dir → List ℕ
presses_text inputs = codes "[" ++ (drop 1 (flat_map (λ input. codes "," ++ decimal (press_number input)) inputs) ++ codes "]")

abbrev pub bounds_text : ℕ → ℕ → List ℕ
bounds_text levels inputs = codes "{\"outOfBounds\":{\"inputs\":" ++ (decimal inputs ++ (codes ",\"levels\":" ++ (decimal levels ++ codes "}}")))

abbrev pub answer_text : Answer → List ℕ
answer_text (Solved inputs) = codes "{\"solved\":" ++ (presses_text inputs.items ++ codes "}")
answer_text Unsolvable = codes "{\"unsolvable\":true}"
answer_text (OutOfBounds levels inputs) = bounds_text levels inputs

abbrev pub solution_text : Solution → List ℕ
solution_text (Of answer) = answer_text answer
solution_text Over = codes "{\"over\":true}"
solution_text Stopped = codes "{\"stopped\":true}"
solution_text Refused = codes "{\"refused\":true}"

abbrev pub solution_line : Solution → List ℕ
solution_line solution = solution_text solution ++ codes "\n"

-- of the session of a number
abbrev pub session_line : ℕ → Solution → List ℕ
session_line number solution = codes "{\"session\":" ++ (decimal number ++ (codes ",\"solution\":" ++ (solution_text solution ++ codes "}\n")))
