use Rattle.std.proofs.Common.{◌≡◌, drop}
use Rattle.pz_source.specs.Profile.{has_outside_word}
use Rattle.pz_source.proofs.profile.has_outside_word.Given as goal

abbrev pub invariant-loop-word : goal.invariant-loop-word
invariant-loop-word l = has_outside_word (drop l.word-index l.words) ≡ has_outside_word l.words
