use Rattle.pz_sheet.proofs.Common.{layers_in}
use Rattle.pz_sheet.proofs.StillLemmas.{still_seen, still_heads}
use Rattle.pz_sheet.proofs.Sheet.is_still.Goals as goal

pub returns : goal.returns
returns g c =
    let layering = layers_in c.args.self.now.grid in
    let there = rw c.index.ensures.index at c.cell.ensures.cell in (
      λ t. rw (← there) (still_seen g.row.N layering c.cell.result.now c.cell.ensures.sound (c.is_still.ensures.0 t)),
      λ still. c.is_still.ensures.1 (still_heads g.row.N layering c.cell.result.now c.layers-layers.ensures.law.layered c.cell.ensures.sound (rw (← there) at still)),
    )
