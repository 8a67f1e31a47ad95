use Rattle.pz_sheet.proofs.Common.{ap, sound_at, member_seen, BareState}
use Rattle.pz_sheet.proofs.SheetLemmas.{seen_within, seen_at}
use Rattle.pz_sheet.proofs.Sheet.objects_in.Goals as goal

pub returns-clause-objects : goal.returns-clause-objects
returns-clause-objects g c object =
    let a = c.self.inside in
    let cell = c.index.result.now in
    let e = ap (λ (s : BareState). s.grid) c.self.view_is in
    let within = seen_within _ _ _ a.layers a.cells.items _ c.args.index e c.requires in
    let sound = sound_at a.layers a.cells.items c.args.index cell c.self.invariant.stored.sound within c.index.ensures in
    rw (c.objects_of.ensures.objects, ← seen_at _ _ _ a.layers a.cells.items c.args.self.now.grid c.args.index cell e within c.index.ensures) (member_seen a.layers.depth a.layers.layers cell.objects cell.movement object c.self.invariant.stored.law.layered sound)
