use Rattle.std.proofs.Common.{arith}
use Rattle.std.specs.Option.{option_to_list}
use Rattle.pz_packed.proofs.PairedLemmas.{length-paired}
use Rattle.pz_packed.proofs.pairs.Pairs.len.Goals as goal

pub returns-then-is_some : goal.returns-then-is_some
returns-then-is_some c = rw (← c.self.view_is) (grind (arith, length-paired c.self.inside.bytes.items (option_to_list c.self.inside.odd)))

pub returns-else-is_some : goal.returns-else-is_some
returns-else-is_some c = rw (← c.self.view_is) (grind (arith, length-paired c.self.inside.bytes.items (option_to_list c.self.inside.odd)))
