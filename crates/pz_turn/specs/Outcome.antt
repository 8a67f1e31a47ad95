-- What a run on a level gives: the level afterwards, the commands given, and whether some rewriting changed a cell; or a stop.
use Rattle.std.specs.Prelude.{◌≡◌, ◌≢◌, Bool, false, ◌||◌, Result, Ok, Err}
use Rattle.pz_program.specs.declared.commands.Commands.{Commands}
use Rattle.pz_program.specs.Commands.{no_commands, either}
use Rattle.pz_turn.specs.declared.outcome.StepFault.{StepFault}
use Rattle.pz_turn.specs.declared.outcome.StepFault.TheVariants.{Memory}
use Rattle.pz_turn.specs.declared.outcome.Given.{Given}

-- the level afterwards, the commands given, and whether something changed
pub record Outcome (L : Type 0) : Type 0 where
  pub level : L
  pub commands : Commands
  pub changed : Bool

-- the outcome of running nothing
abbrev pub nothing_run : {L : Type 0} → L → Outcome L
nothing_run level = record { level = level; commands = no_commands; changed = false }

-- two outcomes, one after the other: the commands of both, and a change if there was one in either
abbrev pub outcome_behind : {L : Type 0} → Outcome L → Result (Outcome L) StepFault → Result (Outcome L) StepFault
outcome_behind first (Err fault) = Err fault
outcome_behind first (Ok second) = Ok (record {
  level = second.level;
  commands = either first.commands second.commands;
  changed = first.changed || second.changed;
})

-- step.commands: a run, and then another on the level that it left, unless the first stopped
abbrev pub followed_by : {L : Type 0} → Result (Outcome L) StepFault → (L → Result (Outcome L) StepFault) → Result (Outcome L) StepFault
followed_by (Err fault) run = Err fault
followed_by (Ok first) run = outcome_behind first (run first.level)

-- P of what a call answers, or Q of its stop: want of memory, which is no stop of the language, says nothing
abbrev pub UnlessMemory : {X : Type 0} → Result X StepFault → (X → Type 0) → (StepFault → Type 0) → Type 0
UnlessMemory (Ok answer) P Q = P answer
UnlessMemory (Err fault) P Q = fault ≢ Memory → Q fault

-- a call answers what a definition gives, seen so, or the definition's stop
abbrev pub Gives : {A X : Type 0} → Result A StepFault → (X → A) → Result X StepFault → Type 0
Gives given view result = UnlessMemory result (λ answer. given ≡ Ok (view answer)) (λ fault. given ≡ Err fault)

-- a call that leaves `level` answers this outcome
abbrev pub GivesOutcome : {L : Type 0} → Result (Outcome L) StepFault → L → Result Given StepFault → Type 0
GivesOutcome outcome level = Gives outcome (λ given. record { level = level; commands = given.commands; changed = given.changed })

-- the same of a call that answers the commands and whether something changed as a pair
abbrev pub GivesBoth : {L : Type 0} → Result (Outcome L) StepFault → L → Result (Commands × Bool) StepFault → Type 0
GivesBoth outcome level = Gives outcome (λ both. record { level = level; commands = both.0; changed = both.1 })
