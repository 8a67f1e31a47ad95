-- A law of sets of commands.
use Rattle.std.specs.Prelude.{◌≡◌, ◌||◌}
use Rattle.pz_program.specs.declared.commands.Commands.{Commands}
use Rattle.pz_grammar.specs.declared.token.Command.{Command}
use Rattle.pz_program.specs.Commands.{has, either}
use Rattle.pz_plan.specs.Commands.{flag_of}

-- a union holds the flag of a command exactly if one of the two holds it
abbrev pub UnionsHoldEither : Type 0
UnionsHoldEither = (command : Command) (a b : Commands) → has (either a b) (flag_of command) ≡ (has a (flag_of command) || has b (flag_of command))
