use Rattle.pz_level_text.proofs.Common.{slice_set, ap, ◌∙◌, map-set, text_at, WriterView}
use Rattle.pz_level_text.proofs.cell_labels.CellLabels.put.Goals as goal

pub returns-clause-cells : goal.returns-clause-cells
returns-clause-cells c =
    map-set (text_at c.self.inside.table.texts) c.self.inside.labels.items c.args.number c.args.label
    ∙ ap (λ (s : WriterView). slice_set s.cells c.args.number (text_at s.table.texts c.args.label)) c.self.view_is
