use Rattle.std.proofs.Common.{◌≡◌, ◌++◌, length, map}
use Rattle.pz_base.specs.Name.{name_of}
use Rattle.pz_source.specs.Rules.{words_from}
use Rattle.pz_source.proofs.rules.push_words.Given as goal

abbrev pub invariant-loop-c : goal.invariant-loop-c
invariant-loop-c l =
    l.words.items ++ map name_of (words_from l.cursor.is_first l.cursor.word.items l.rest)
    ≡ l.initial.words.items ++ map name_of (words_from l.initial.cursor.is_first l.initial.cursor.word.items l.text)

abbrev pub decreases-loop-c : goal.decreases-loop-c
decreases-loop-c l = length l.rest
