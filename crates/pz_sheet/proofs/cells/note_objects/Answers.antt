use Rattle.pz_sheet.proofs.Common.{refl}
use Rattle.pz_sheet.proofs.PlacedLemmas.{unchanged}
use Rattle.pz_sheet.proofs.cells.note_objects.Goals as goal

pub returns-then-same : goal.returns-then-same
returns-then-same g c = unchanged c.args.planes.now _ _ c.args.before.now.objects c.args.cell.now.objects c.requires.there (c.if-same.ensures.0 refl)

pub note_at-requires-clause-known_before : goal.note_at-requires-clause-known_before
note_at-requires-clause-known_before g c = rw c.objects_of.ensures.objects c.requires.known_before

pub note_at-requires-clause-known : goal.note_at-requires-clause-known
note_at-requires-clause-known g c = rw c.objects_of-2.ensures.objects c.requires.known

pub returns : goal.returns
returns g c = rw c.objects_of-2.ensures.objects at c.note_at.ensures
