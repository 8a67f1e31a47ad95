use Rattle.std.proofs.Common.{ap, ◌∙◌}
use Rattle.pz_base.specs.NameSet.{is_name_of}
use Rattle.pz_base.proofs.NameLemmas.{is_name_of-texts}
use Rattle.pz_base.proofs.name_set.NameSet.contains.Goals as goal

pub returns : goal.returns
returns c = c.contains.ensures ∙ (is_name_of-texts c.self.inside.texts.keys c.args.name.now ∙ ap (λ t. is_name_of t c.args.name.now) c.self.view_is)
