use Rattle.std.proofs.Common.{◌≡◌, drop}
use Rattle.pz_text.specs.Characters.{is_word}
use Rattle.pz_text.proofs.characters.is_word.Given as goal

abbrev pub invariant-loop-b : goal.invariant-loop-b
invariant-loop-b l = is_word l.rest (drop l.b-index l.word) ≡ is_word l.cs l.word
