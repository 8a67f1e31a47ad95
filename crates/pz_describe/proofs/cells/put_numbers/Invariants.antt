use Rattle.std.proofs.Common.{◌≡◌, ◌++◌, drop, flat_map, get_or}
use Rattle.pz_describe.specs.Values.{numeral}
use Rattle.pz_describe.proofs.cells.put_numbers.Given as goal

abbrev pub invariant-loop-place : goal.invariant-loop-place
invariant-loop-place l = l.page ++ flat_map (λ place. numeral (get_or l.numbers place 0)) (drop l.place-index l.places) ≡ l.fn.page ++ flat_map (λ place. numeral (get_or l.numbers place 0)) l.places
