use Rattle.std.proofs.Common.{◌≡◌, map, take}
use Rattle.pz_base.specs.NameSet.{number_in}
use Rattle.pz_json_text.specs.Labels.{text_at}
use Rattle.pz_json_text.proofs.draft.number_labels.Given as goal

abbrev pub invariant-loop-number : goal.invariant-loop-number
invariant-loop-number l = l.numbers.items ≡ map (number_in (map (text_at l.texts) (take l.number l.firsts))) l.texts
