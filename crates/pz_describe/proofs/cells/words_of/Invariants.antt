use Rattle.std.proofs.Common.{◌≡◌, ◌++◌, drop, map}
use Rattle.pz_describe.proofs.cells.words_of.Given as goal

abbrev pub invariant-loop-name : goal.invariant-loop-name
invariant-loop-name l = map (λ word. word.now) l.words.items ++ map (λ name. name.items) (drop l.name-index l.names) ≡ map (λ name. name.items) l.names
