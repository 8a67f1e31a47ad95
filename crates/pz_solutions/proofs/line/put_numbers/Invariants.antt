use Rattle.std.proofs.Common.{◌≡◌, ◌++◌, codes, decimal, drop, flat_map}
use Rattle.pz_game.specs.declared.direction.Dir.{Dir}
use Rattle.pz_solutions.specs.Line.{press_number}
use Rattle.pz_solutions.proofs.line.put_numbers.Given as goal

abbrev pub invariant-loop-input : goal.invariant-loop-input
invariant-loop-input l =
    l.texts.items ++ flat_map (λ (input : Dir). codes "," ++ decimal (press_number input)) (drop l.input-index l.inputs) ≡ l.fn.texts.items ++ flat_map (λ (input : Dir). codes "," ++ decimal (press_number input)) l.inputs
