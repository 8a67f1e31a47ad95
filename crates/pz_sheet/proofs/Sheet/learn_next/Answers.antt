use Rattle.pz_sheet.proofs.Common.{None, Some, length, ap, sym, ◌∙◌, refl, small_cell}
use Rattle.pz_sheet.proofs.SheetLemmas.{lawful_here}
use Rattle.pz_sheet.proofs.StillLemmas.{nowhere_read}
use Rattle.pz_sheet.proofs.TellLemmas.{as_many, as_many_seen, same_room, next_is, next_by_planes, known_row}
use Rattle.pz_sheet.proofs.Sheet.learn_next.Goals as goal

pub next_differing-requires-clause-room : goal.next_differing-requires-clause-room
next_differing-requires-clause-room g c = rw (c.lines-rows.ensures, c.lines-others.ensures) (same_room c.self.inside c.other.inside c.requires.size c.self.view_is c.other.view_is c.self.invariant c.other.invariant)

pub returns-in_default-clause-next : goal.returns-in_default-clause-next
returns-in_default-clause-next g c = next_by_planes c.self.inside c.other.inside c.requires.size c.self.view_is c.other.view_is c.self.invariant c.other.invariant (c.if-is_told_by_planes.ensures refl) (c.if-are_still.ensures.0 refl).0 (c.if-are_still.ensures.0 refl).1 c.args.from None (rw (c.lines-rows.ensures, c.lines-others.ensures) at c.in_default.ensures)

pub returns-then-is_told_by_planes-clause-next : goal.returns-then-is_told_by_planes-clause-next
returns-then-is_told_by_planes-clause-next g c = next_by_planes c.self.inside c.other.inside c.requires.size c.self.view_is c.other.view_is c.self.invariant c.other.invariant (c.if-is_told_by_planes.ensures refl) (c.if-are_still.ensures.0 refl).0 (c.if-are_still.ensures.0 refl).1 c.args.from (Some c.in-Some.row.found) (rw (c.lines-rows.ensures, c.lines-others.ensures) at c.in-Some.ensures).0

pub returns-then-is_told_by_planes-clause-known : goal.returns-then-is_told_by_planes-clause-known
returns-then-is_told_by_planes-clause-known g c = known_row c.self.inside c.other.inside c.requires.size c.self.view_is c.other.view_is c.self.invariant c.other.invariant (c.if-is_told_by_planes.ensures refl) (c.if-are_still.ensures.0 refl).0 (c.if-are_still.ensures.0 refl).1 c.args.from c.in-Some.row _ (rw (c.lines-rows.ensures, c.lines-others.ensures) at c.in-Some.ensures) refl refl refl

pub next_differing-requires-2 : goal.next_differing-requires-2
next_differing-requires-2 g c =
    let long = ap length c.deref.ensures.value ∙ as_many c.self.inside c.other.inside c.requires.size c.self.view_is c.other.view_is c.self.invariant c.other.invariant ∙ sym (ap length c.deref-2.ensures.value) in
    let nowhere = nowhere_read _ _ _ _ _ _ _ _ c.self.invariant.stored c.deref.ensures.value (λ t. (c.are_empty-are_still.ensures.0 t).0) in
    let nowhere_there = nowhere_read _ _ _ _ _ _ _ _ c.other.invariant.stored c.deref-2.ensures.value (λ t. (c.are_empty-are_still.ensures.0 t).1) in
    (small_cell _ c.self.invariant.stored.law.short, (c.self.invariant.stored.law.short, (long, λ still. (nowhere still, nowhere_there still))))

pub returns-clause-next : goal.returns-clause-next
returns-clause-next g c = next_is c.self.inside c.other.inside c.requires.size c.self.view_is c.other.view_is c.self.invariant c.other.invariant c.args.from c.next_differing-2.result (rw (c.deref.ensures.value, c.deref-2.ensures.value) at c.next_differing-2.ensures)

pub returns-clause-lawful : goal.returns-clause-lawful
returns-clause-lawful g c = lawful_here _ _ _ _ _ _ _ c.self.invariant.stored c.self.view_is

pub returns-clause-as_many : goal.returns-clause-as_many
returns-clause-as_many g c = as_many_seen c.self.inside c.other.inside c.requires.size c.self.view_is c.other.view_is c.self.invariant c.other.invariant

pub returns-in_default-clause-as_many : goal.returns-in_default-clause-as_many
returns-in_default-clause-as_many g c = as_many_seen c.self.inside c.other.inside c.requires.size c.self.view_is c.other.view_is c.self.invariant c.other.invariant

pub returns-in_default-clause-lawful : goal.returns-in_default-clause-lawful
returns-in_default-clause-lawful g c = lawful_here _ _ _ _ _ _ _ c.self.invariant.stored c.self.view_is

pub returns-then-is_told_by_planes-clause-as_many : goal.returns-then-is_told_by_planes-clause-as_many
returns-then-is_told_by_planes-clause-as_many g c = as_many_seen c.self.inside c.other.inside c.requires.size c.self.view_is c.other.view_is c.self.invariant c.other.invariant

pub returns-then-is_told_by_planes-clause-lawful : goal.returns-then-is_told_by_planes-clause-lawful
returns-then-is_told_by_planes-clause-lawful g c = lawful_here _ _ _ _ _ _ _ c.self.invariant.stored c.self.view_is
