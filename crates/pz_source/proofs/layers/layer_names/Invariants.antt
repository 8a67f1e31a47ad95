use Rattle.std.proofs.Common.{◌≡◌, ◌++◌, map, drop}
use Rattle.pz_source.specs.Layers.{layer_names}
use Rattle.pz_base.specs.Name.{name_of}
use Rattle.pz_source.proofs.layers.layer_names.Given as goal

abbrev pub invariant-loop-word : goal.invariant-loop-word
invariant-loop-word l = l.items.items ++ map name_of (map (λ word. word.now) (drop l.word-index l.word-items)) ≡ layer_names l.line
