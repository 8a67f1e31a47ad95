use Rattle.pz_level_text.proofs.Common.{ap, ◌∙◌, set_of, text_of_names, GameParts, WriterView, standing_names, known_still, labels_still}
use Rattle.pz_level_text.proofs.Labelling.{set_standing}
use Rattle.pz_level_text.proofs.cell_labels.CellLabels.label_at.Goals as goal

pub invariant_of-self : goal.invariant_of-self
invariant_of-self c = known_still c.self.inside.table.texts c.label.new.self.texts c.self.inside.labels.items c.self.invariant c.label.ensures.kept

pub invariant_of-self-2 : goal.invariant_of-self-2
invariant_of-self-2 c = known_still c.self.inside.table.texts c.label.new.self.texts c.self.inside.labels.items c.self.invariant c.label.ensures.kept

pub returns-in_err-label-clause-cells : goal.returns-in_err-label-clause-cells
returns-in_err-label-clause-cells c =
    labels_still c.self.inside.table.texts c.label.new.self.texts c.self.inside.labels.items c.self.invariant c.label.ensures.kept ∙ ap (λ (s : WriterView). s.cells) c.self.view_is

pub returns-clause-cells : goal.returns-clause-cells
returns-clause-cells c =
    labels_still c.self.inside.table.texts c.label.new.self.texts c.self.inside.labels.items c.self.invariant c.label.ensures.kept ∙ ap (λ (s : WriterView). s.cells) c.self.view_is

pub returns-clause-text : goal.returns-clause-text
returns-clause-text c =
    c.in_ok-label.ensures.label.1
    ∙ set_standing c.label.new.self.game.objects c.args.level.now.grid c.args.x c.args.y c.objects_at-objects.result c.objects_at-objects.ensures
    ∙ ap (λ (g : GameParts). text_of_names (set_of (standing_names g.objects c.args.level.now.grid (c.args.x, c.args.y)))) (c.label.ensures.game ∙ ap (λ (s : WriterView). s.table.game) c.self.view_is)
