use Rattle.std.proofs.Common.{◌≡◌, drop}
use Rattle.pz_text.specs.Heading.{begins_with_word}
use Rattle.pz_text.proofs.heading.begins_with_word.Given as goal

abbrev pub invariant-loop-b : goal.invariant-loop-b
invariant-loop-b l = begins_with_word l.rest (drop l.b-index l.word) ≡ begins_with_word l.line l.word
