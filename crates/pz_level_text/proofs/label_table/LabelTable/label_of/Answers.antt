use Rattle.pz_level_text.proofs.Labelling.{labels_kept}
use Rattle.pz_level_text.proofs.label_table.LabelTable.label_of.Goals as goal

pub invariant_of-self : goal.invariant_of-self
invariant_of-self c = labels_kept c.self.inside.game.now.objects c.self.inside.texts c.label_of.new.self c.self.inside.known.items c.label_of.ensures.kept c.self.invariant

pub invariant_of-self-2 : goal.invariant_of-self-2
invariant_of-self-2 c = labels_kept c.self.inside.game.now.objects c.self.inside.texts c.label_of.new.self c.self.inside.known.items c.label_of.ensures.kept c.self.invariant
