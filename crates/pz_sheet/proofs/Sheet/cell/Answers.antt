use Rattle.pz_sheet.proofs.Common.{ap, sound_at, BareState}
use Rattle.pz_sheet.proofs.SheetLemmas.{seen_within}
use Rattle.pz_sheet.proofs.Sheet.cell.Goals as goal

pub returns-clause-sound : goal.returns-clause-sound
returns-clause-sound g c =
    let within = seen_within _ _ _ c.self.inside.layers c.self.inside.cells.items _ c.args.index (ap (λ (s : BareState). s.grid) c.self.view_is) c.requires in
    rw (← c.self.view_is) (sound_at c.self.inside.layers c.self.inside.cells.items c.args.index c.index.result.now c.self.invariant.stored.sound within c.index.ensures)
