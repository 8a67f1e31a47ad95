use Rattle.std.proofs.Common.{◌≡◌, ◌++◌, take}
use Rattle.pz_packed.proofs.Packed.extend.Given as goal

abbrev pub invariant-loop-number : goal.invariant-loop-number
invariant-loop-number l = l.self ≡ l.initial.self ++ take l.number-index l.numbers
