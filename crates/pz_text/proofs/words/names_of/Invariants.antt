use Rattle.std.proofs.Common.{◌≡◌, ◌++◌, map, drop}
use Rattle.pz_base.specs.Name.{name_of}
use Rattle.pz_text.specs.Words.{names_of}
use Rattle.pz_text.proofs.words.names_of.Given as goal

abbrev pub invariant-loop-word : goal.invariant-loop-word
invariant-loop-word l =
    l.names.items ++ map name_of (map (λ word. word.now) (drop l.word-index l.word-items)) ≡ names_of l.line
