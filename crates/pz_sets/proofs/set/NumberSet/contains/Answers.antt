use Rattle.std.proofs.Common.{arith}
use Rattle.pz_sets.proofs.SetLemmas.{member_past}
use Rattle.pz_sets.proofs.set.NumberSet.contains.Goals as goal

pub returns-else-number-lt-CAPACITY : goal.returns-else-number-lt-CAPACITY
returns-else-number-lt-CAPACITY c = grind (arith, member_past c.self.inside.words c.args.number)
