use Rattle.std.proofs.Common.{◌≡◌, drop}
use Rattle.pz_steps.specs.Steps.{after_inputs}
use Rattle.pz_steps.proofs.chains.play_all.Given as goal

abbrev pub invariant-loop-input : goal.invariant-loop-input
invariant-loop-input l = after_inputs (drop l.input-index l.inputs) l.board ≡ after_inputs l.inputs l.fn.board
