use Rattle.std.proofs.Common.{◌≡◌, ◌++◌, drop}
use Rattle.pz_grammar.specs.Words.{tokens_from}
use Rattle.pz_grammar.proofs.words.add_tokens.Given as goal

abbrev pub invariant-loop-word : goal.invariant-loop-word
invariant-loop-word l =
    l.tokens.items ++ tokens_from l.game.names (drop l.word-index l.words) ≡ l.fn.tokens.items ++ tokens_from l.game.names l.words
