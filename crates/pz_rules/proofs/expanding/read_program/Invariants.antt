use Rattle.std.proofs.Common.{◌≡◌, length}
use Rattle.pz_rules.specs.Drafts.{program_from, nothing}
use Rattle.pz_rules.proofs.expanding.read_program.Given as goal

-- what is left, from here, gives the whole
abbrev pub invariant-loop-line : goal.invariant-loop-line
invariant-loop-line l = program_from l.game l.draft l.rest ≡ program_from l.game nothing l.game.rules

abbrev pub decreases-loop-line : goal.decreases-loop-line
decreases-loop-line l = length l.rest
