-- Laws of instances, groups and steps.
use Rattle.std.specs.Prelude.{◌≡◌, ◌≢◌, List, length, map, true, false, Option, Ok, Err}
use Rattle.pz_game.specs.declared.direction.Dir.{Dir}
use Rattle.pz_game.specs.declared.game.GameParts.{GameParts}
use Rattle.pz_base.specs.Lists.{product_of}
use Rattle.pz_program.specs.declared.instance.Instance.{Instance}
use Rattle.pz_program.specs.declared.instance.Program.{Program}
use Rattle.pz_grid.specs.declared.placing.Place.{Place}
use Rattle.pz_sheet.specs.Grid.{Grid}
use Rattle.pz_turn.specs.declared.outcome.StepFault.TheVariants.{Memory}
use Rattle.pz_turn.specs.declared.resting.TheConstants.{PASSES}
use Rattle.pz_turn.specs.Combinations.{combinations}
use Rattle.pz_turn.specs.Applying.{application_of}
use Rattle.pz_turn.specs.Outcome.{Outcome}
use Rattle.pz_turn.specs.Rest.{pass_of, rest_of, rests}
use Rattle.pz_turn.specs.Step.{step_of}

-- the number of combinations is the product of the numbers of places
abbrev pub IsCounted : Type 0
IsCounted = (lists : List (List Place)) → length (combinations lists) ≡ product_of (map length lists)

-- a pass that changes nothing leaves the level as it was
abbrev pub QuietPassLeaves : Type 0
QuietPassLeaves = (group : List Instance) (grid : Grid) (end : Outcome Grid) → pass_of application_of group grid ≡ Ok end → end.changed ≡ false → end.level ≡ grid

-- one more pass over a group that has come to rest changes nothing and doesn't stop
abbrev pub RestLasts : Type 0
RestLasts = (group : List Instance) (grid : Grid) (end : Outcome Grid) → rest_of PASSES (pass_of application_of group) grid ≡ Ok end → rests (pass_of application_of group end.level) ≡ true

-- want of memory is never the stop of a step: it can end a call, but no rule of the language ends a step with it
abbrev pub NeverEndsForMemory : Type 0
NeverEndsForMemory = (game : GameParts) (program : Program) (grid : Grid) (input : Option Dir) → step_of game program grid input ≢ Err Memory
