use Rattle.pz_sets.proofs.WordLemmas.{in_word-xor}
use Rattle.pz_planes.proofs.DifferingLemmas.{xor_no}
use Rattle.pz_planes.proofs.bits.differing.Goals as goal

pub returns : goal.returns
returns c at = xor_no _ _ _ (in_word-xor c.args.set c.args.other at)
