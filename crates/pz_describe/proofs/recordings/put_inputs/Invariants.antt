use Rattle.std.proofs.Common.{◌≡◌, ◌++◌, drop, flat_map}
use Rattle.pz_describe.specs.Recordings.{input_tokens}
use Rattle.pz_describe.proofs.recordings.put_inputs.Given as goal

abbrev pub invariant-loop-input : goal.invariant-loop-input
invariant-loop-input l = l.page ++ flat_map input_tokens (drop l.input-index l.inputs) ≡ l.fn.page ++ flat_map input_tokens l.inputs
