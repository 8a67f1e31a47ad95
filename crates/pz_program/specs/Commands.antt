-- Sets of commands.
use Rattle.std.specs.Prelude.{Bool, ◌==◌}
use Rattle.std.specs.Int.RustNames.{bit_and, bit_or}
use Rattle.pz_program.specs.declared.commands.Commands.{Commands}

-- whether a set of commands has all of another
abbrev pub has : Commands → Commands → Bool
has commands command = bit_and commands.0 command.0 == command.0

-- no command
abbrev pub no_commands : Commands
no_commands = record { 0 = 0 }

-- the sets of one command
abbrev pub again : Commands
again = record { 0 = 1 }

abbrev pub cancel : Commands
cancel = record { 0 = 2 }

abbrev pub checkpoint : Commands
checkpoint = record { 0 = 4 }

abbrev pub restart : Commands
restart = record { 0 = 8 }

abbrev pub win : Commands
win = record { 0 = 16 }

-- the commands of either
abbrev pub either : Commands → Commands → Commands
either a b = record { 0 = bit_or a.0 b.0 }
