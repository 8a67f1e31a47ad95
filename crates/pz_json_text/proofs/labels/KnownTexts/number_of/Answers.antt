use Rattle.std.proofs.Common.{ap, ◌∙◌}
use Rattle.std.specs.String.{string_bytes}
use Rattle.std.specs.Str.{bytes_eq}
use Rattle.pz_base.specs.NameSet.{number_in}
use Rattle.pz_base.proofs.NameLemmas.{position-map}
use Rattle.pz_json_text.proofs.labels.KnownTexts.number_of.Goals as goal

pub returns : goal.returns
returns c = c.get_index_of.ensures.index ∙ (position-map string_bytes (bytes_eq c.args.text.now) c.self.inside.texts.keys ∙ ap (λ t. number_in t c.args.text.now) c.self.view_is)
