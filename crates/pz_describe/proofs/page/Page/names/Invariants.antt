use Rattle.std.proofs.Common.{◌≡◌, ◌++◌, ◌∷◌, drop, flat_map}
use Rattle.json.specs.Token.{begin_array}
use Rattle.pz_describe.specs.Values.{name_value}
use Rattle.pz_describe.proofs.page.Page.names.Given as goal

abbrev pub invariant-loop-name : goal.invariant-loop-name
invariant-loop-name l = l.self ++ flat_map name_value (drop l.name-index l.names) ≡ l.fn.self ++ (begin_array ∷ flat_map name_value l.names)
