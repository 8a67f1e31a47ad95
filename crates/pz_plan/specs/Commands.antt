-- The commands of a rule, as a set.
use Rattle.std.specs.Prelude.{List, fold}
use Rattle.pz_program.specs.Commands.{no_commands, again, cancel, checkpoint, restart, win, either}
use Rattle.pz_program.specs.declared.commands.Commands.{Commands}
use Rattle.pz_grammar.specs.declared.token.Command.{Command}
use Rattle.pz_grammar.specs.declared.token.Command.TheVariants as command

-- the set of one command; sounds and messages have no effect
abbrev pub flag_of : Command → Commands
flag_of command.Again = again
flag_of command.Cancel = cancel
flag_of command.Checkpoint = checkpoint
flag_of command.Restart = restart
flag_of command.Win = win
flag_of _ = no_commands

-- the commands of a list
unfoldable pub commands_given : List Command → Commands
commands_given commands = fold (λ given command. either given (flag_of command)) no_commands commands
