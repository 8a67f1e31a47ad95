use Rattle.std.proofs.Common.{◌≡◌, length, map, take, string_bytes}
use Rattle.pz_base.proofs.name_set.NameSet.same.Given as goal

abbrev pub invariant-loop-number : goal.invariant-loop-number
invariant-loop-number l = (length l.texts ≡ length l.others) × (map string_bytes (take l.number l.texts) ≡ map string_bytes (take l.number l.others))
