use Rattle.std.proofs.Common.{◌≡◌, ◌++◌, drop, flat_map}
use Rattle.pz_describe.specs.Program.{group_array}
use Rattle.pz_describe.proofs.program.put_groups.Given as goal

abbrev pub invariant-loop-group : goal.invariant-loop-group
invariant-loop-group l = l.page ++ flat_map (group_array l.rules) (drop l.group-index l.groups) ≡ l.fn.page ++ flat_map (group_array l.rules) l.groups
