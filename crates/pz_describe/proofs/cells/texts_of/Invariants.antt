use Rattle.std.proofs.Common.{◌≡◌, ◌++◌, drop, map}
use Rattle.pz_json_text.specs.CellTexts.{text_of_names}
use Rattle.pz_describe.proofs.cells.texts_of.Given as goal

abbrev pub invariant-loop-set : goal.invariant-loop-set
invariant-loop-set l = l.texts.items ++ map text_of_names (drop l.set-index l.sets) ≡ map text_of_names l.sets
