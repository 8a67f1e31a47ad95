use Rattle.std.proofs.Common.{◌≡◌, ◌*◌, map, drop}
use Rattle.pz_base.specs.Lists.{product_of}
use Rattle.pz_rules.specs.Counting.{size_of}
use Rattle.pz_rules.proofs.counting.product_within.Given as goal

abbrev pub invariant-choices : goal.invariant-choices
invariant-choices l = l.count * product_of (map (size_of l.table) (drop l.choice-index l.choices)) ≡ l.start * product_of (map (size_of l.table) l.choices)
