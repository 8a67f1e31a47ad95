use Rattle.std.proofs.Common.{◌≡◌, take}
use Rattle.pz_packed.proofs.pairs.Pairs.to_bytes.Given as goal

abbrev pub invariant-loop-index : goal.invariant-loop-index
invariant-loop-index l = l.bytes.items ≡ take l.index l.self
