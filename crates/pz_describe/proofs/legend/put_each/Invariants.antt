use Rattle.std.proofs.Common.{◌≡◌, ◌++◌, drop, flat_map}
use Rattle.pz_describe.specs.Values.{numeral}
use Rattle.pz_describe.proofs.legend.put_each.Given as goal

abbrev pub invariant-loop-number : goal.invariant-loop-number
invariant-loop-number l = l.page ++ flat_map numeral (drop l.number-index l.numbers) ≡ l.fn.page ++ flat_map numeral l.numbers
