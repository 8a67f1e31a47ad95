use Rattle.std.proofs.Common.{◌≡◌}
use Rattle.std.specs.List.{AllWithin}
use Rattle.pz_base.specs.NameSet.{number_in}
use Rattle.pz_job.proofs.same.same_numbers.Given as goal

abbrev pub invariant-loop-number : goal.invariant-loop-number
invariant-loop-number l = AllWithin (λ word. number_in l.game.names word ≡ number_in l.other.names word) l.words 0 l.number
