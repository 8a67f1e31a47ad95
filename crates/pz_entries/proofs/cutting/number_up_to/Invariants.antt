use Rattle.std.proofs.Common.{◌≡◌, drop}
use Rattle.pz_entries.specs.Reading.{up_to, number_of}
use Rattle.pz_entries.proofs.Numbers.{reading_on}
use Rattle.pz_entries.proofs.cutting.number_up_to.Given as goal

abbrev pub invariant-loop-digit : goal.invariant-loop-digit
invariant-loop-digit l = reading_on l.most l.number (drop l.digit-index l.digits) ≡ up_to l.most (number_of l.digits)
