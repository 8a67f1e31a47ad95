use Rattle.std.proofs.Common.{◌≡◌, map, take}
use Rattle.pz_export.specs.Inputs.{number_of}
use Rattle.pz_export.proofs.inputs.inputs_of.Given as goal

-- the inputs are those of the bytes that were read
abbrev pub invariant-loop-byte : goal.invariant-loop-byte
invariant-loop-byte l = map number_of l.inputs.items ≡ take l.byte-index l.bytes
