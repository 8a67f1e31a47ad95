use Rattle.std.proofs.Common.{◌≡◌, ◌++◌, drop, option_map}
use Rattle.pz_grammar.specs.Parsed.{commands_of}
use Rattle.pz_grammar.proofs.grammar.commands_of.Given as goal

abbrev pub invariant-loop-token : goal.invariant-loop-token
invariant-loop-token l = option_map (λ more. l.commands.items ++ more) (commands_of (drop l.token-index l.tokens)) ≡ commands_of l.tokens
