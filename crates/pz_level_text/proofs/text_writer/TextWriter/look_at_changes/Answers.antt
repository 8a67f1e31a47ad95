use Rattle.pz_level_text.proofs.Common.{Option, IfSome, sym, subst}
use Rattle.pz_level_text.specs.LastText.{IsLastOf}
use Rattle.pz_level_text.specs.declared.last_text.LastText.{LastText}
use Rattle.pz_level_text.proofs.text_writer.TextWriter.look_at_changes.Goals as goal

pub look_at_changes-requires-clause-last : goal.look_at_changes-requires-clause-last
look_at_changes-requires-clause-last c =
    let before = c.self.inside in
    subst (λ (o : Option LastText). IfSome o (IsLastOf before.cells.cells before.cells.table.texts before.room)) (sym c.take-last.ensures.value) c.self.invariant
