-- What a host is told of solutions.
use Rattle.std.specs.Prelude.{◌≡◌, ℕ, List, true}
use Rattle.pz_engine.specs.declared.engine.Played.{Played}
use Rattle.pz_solve.specs.declared.answer.Bounds.{Bounds}
use Rattle.pz_solutions.specs.File.{AreSolutionsOf}
use Rattle.pz_export.specs.Lines.{IsTold}
use Rattle.pz_export.specs.declared.outcome.Outcome.{Outcome}

-- a search may keep so many levels, in so many bytes
abbrev pub bounded_by : ℕ → ℕ → Bounds
bounded_by levels bytes = record { levels = levels; bytes = bytes }

-- lines tell what a search tells of the sessions of a file; no session of them has to pass
pub record AreSolved (bounds : Bounds) (file : List ℕ) (answer : Played) : Type 0 where
  pub are_solutions : AreSolutionsOf bounds file answer.lines.items
  pub passed : answer.passed ≡ true

-- these, as a host is told them
pub record IsSolvedFile (bounds : Bounds) (file room_before room : List ℕ) (outcome : Outcome) (count : ℕ) : Type 0 where
  pub answer : Played
  pub are_solved : AreSolved bounds file answer
  pub told : IsTold answer room_before room outcome count
