use Rattle.std.proofs.Common.{◌≡◌, ◌++◌, drop}
use Rattle.pz_source.specs.Reading.{first_names}
use Rattle.pz_source.proofs.reading.first_names.Given as goal

abbrev pub invariant-loop-line : goal.invariant-loop-line
invariant-loop-line l = l.firsts.items ++ first_names (drop l.line-index l.objects) ≡ first_names l.objects
