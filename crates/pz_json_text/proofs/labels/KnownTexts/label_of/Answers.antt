use Rattle.std.proofs.Common.{string_bytes, ap, sym, ◌∙◌}
use Rattle.pz_base.specs.NameSet.{number_in}
use Rattle.pz_json_text.proofs.KnownCells.{is_new}
use Rattle.pz_json_text.proofs.LabelTexts.{has_label}
use Rattle.pz_json_text.proofs.labels.KnownTexts.label_of.Goals as goal

pub add-requires : goal.add-requires
add-requires c = is_new c.args.self.now (string_bytes c.args.text) (sym (c.number_of.ensures ∙ ap (number_in c.args.self.now) c.as_str.ensures.value) ∙ c.in-None.is)

pub returns-in-Some-clause-label : goal.returns-in-Some-clause-label
returns-in-Some-clause-label c = has_label c.args.self.now (string_bytes c.args.text) c.in-Some.label (sym (c.number_of.ensures ∙ ap (number_in c.args.self.now) c.as_str.ensures.value) ∙ c.in-Some.is)
