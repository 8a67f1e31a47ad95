use Rattle.std.proofs.Common.{◌≡◌, ◌+◌, drop}
use Rattle.pz_describe.specs.Sections.{keyword_end}
use Rattle.pz_describe.proofs.prelude.keyword_end.Given as goal

abbrev pub invariant-loop-count : goal.invariant-loop-count
invariant-loop-count l = l.count + keyword_end (drop l.count l.line) ≡ keyword_end l.line
