use Rattle.std.proofs.Common.{◌≡◌, drop, take}
use Rattle.pz_packed.proofs.Packed.has_at.Given as goal

abbrev pub invariant-loop-index : goal.invariant-loop-index
invariant-loop-index l = take l.index (drop l.from l.self) ≡ take l.index l.numbers
