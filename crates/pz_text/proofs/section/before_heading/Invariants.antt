use Rattle.std.proofs.Common.{◌≡◌, ◌++◌, take, drop}
use Rattle.pz_text.specs.Section.{before_heading}
use Rattle.pz_text.proofs.section.before_heading.Given as goal

abbrev pub invariant-loop-count : goal.invariant-loop-count
invariant-loop-count l = take l.count l.lines ++ before_heading (drop l.count l.lines) ≡ before_heading l.lines
