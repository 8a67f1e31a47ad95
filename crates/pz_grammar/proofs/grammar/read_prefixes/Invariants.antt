use Rattle.std.proofs.Common.{◌≡◌, ◌++◌, length}
use Rattle.pz_grammar.specs.Parsed.{prefixes_of, after_prefixes}
use Rattle.pz_grammar.proofs.grammar.read_prefixes.Given as goal

abbrev pub invariant-loop-token : goal.invariant-loop-token
invariant-loop-token l = record {
  prefixes : l.prefixes.items ++ prefixes_of l.rest ≡ prefixes_of l.tokens;
  rest : after_prefixes l.rest ≡ after_prefixes l.tokens;
}

abbrev pub decreases-loop-token : goal.decreases-loop-token
decreases-loop-token l = length l.rest
