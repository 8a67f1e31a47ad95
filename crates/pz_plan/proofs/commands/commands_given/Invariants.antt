use Rattle.std.proofs.Common.{◌≡◌, drop, fold}
use Rattle.pz_program.specs.Commands.{either, no_commands}
use Rattle.pz_plan.specs.Commands.{flag_of}
use Rattle.pz_plan.proofs.commands.commands_given.Given as goal

abbrev pub invariant-loop-command : goal.invariant-loop-command
invariant-loop-command l =
    fold (λ given command. either given (flag_of command)) l.given (drop l.command-index l.commands) ≡ fold (λ given command. either given (flag_of command)) no_commands l.commands
