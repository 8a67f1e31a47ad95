-- The steps of an input that are still to come.
use Rattle.std.specs.Prelude.{ℕ, Bool, true, List, [], ◌∷◌, Option, Some}
use Rattle.pz_record.specs.declared.input.Input.TheVariants as input
use Rattle.pz_session.specs.Board.{State}
use Rattle.pz_steps.specs.declared.steps.Next.{Next}
use Rattle.pz_steps.specs.declared.steps.Next.TheVariants.{Press, Tick, Nothing}
use Rattle.pz_steps.specs.Steps.{Taken, later_steps, taken_step, tick_steps}

abbrev pub steps_left : Next → State → List Taken
steps_left (Press dir) state = taken_step state (Some dir) ∷ later_steps (input.Press dir) state
steps_left (Tick n) state = tick_steps n state
steps_left Nothing state = []

-- the steps behind a link that was played, of whose ticks at most n may run; `more` says whether one follows, unless the session stopped
abbrev pub after_link : Option Bool → ℕ → State → List Taken
after_link (Some true) n state = tick_steps n state
after_link _ n state = []
