use Rattle.std.proofs.Common.{◌≡◌, length}
use Rattle.pz_text.specs.Section.{behind_heading}
use Rattle.pz_text.proofs.section.behind_heading.Given as goal

abbrev pub invariant-loop-line : goal.invariant-loop-line
invariant-loop-line l = behind_heading l.section l.rest ≡ behind_heading l.section l.lines

abbrev pub decreases-loop-line : goal.decreases-loop-line
decreases-loop-line l = length l.rest
