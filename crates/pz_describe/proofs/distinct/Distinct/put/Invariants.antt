use Rattle.std.proofs.Common.{◌≡◌, ◌++◌, ◌∷◌, drop, flat_map}
use Rattle.json.specs.Token.{begin_array}
use Rattle.pz_describe.specs.Values.{name_value}
use Rattle.pz_describe.proofs.distinct.Distinct.put.Given as goal

abbrev pub invariant-loop-place : goal.invariant-loop-place
invariant-loop-place l = l.page ++ flat_map name_value (drop l.place l.self) ≡ l.fn.page ++ (begin_array ∷ flat_map name_value l.self)
