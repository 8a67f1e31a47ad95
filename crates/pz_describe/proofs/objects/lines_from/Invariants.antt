use Rattle.std.proofs.Common.{◌≡◌, length}
use Rattle.pz_describe.specs.Sections.{lines_from}
use Rattle.pz_describe.proofs.objects.lines_from.Given as goal

abbrev pub invariant-loop-line : goal.invariant-loop-line
invariant-loop-line l = lines_from l.number l.rest ≡ lines_from l.number l.lines

abbrev pub decreases-loop-line : goal.decreases-loop-line
decreases-loop-line l = length l.rest
