use Rattle.std.proofs.Common.{◌++◌, [], ap, ◌∙◌}
use Rattle.std.specs.Bool.{⊤}
use Rattle.std.proofs.lemmas.Result.{MatchResult-from_err}
use Rattle.pz_lines.specs.Packed.{lines_of_parts}
use Rattle.pz_lines.proofs.Packing.{one_line_more, one_packed, packed_still, same_lines}
use Rattle.pz_lines.proofs.packed.Packer.push.Goals as goal

pub invariant_of-self-in_err-part : goal.invariant_of-self-in_err-part
invariant_of-self-in_err-part c = packed_still _ _ _ _ _ _ c.keep.ensures.grown c.self.invariant

pub returns-in_err-part-clause-err : goal.returns-in_err-part-clause-err
returns-in_err-part-clause-err c =
    MatchResult-from_err c.from_residual-in_err-part.result (λ _. ⊤) _ c.from_residual-in_err-part.ensures.0 (λ _. same_lines _ _ _ _ _ _ c.keep.ensures.grown c.self.invariant ∙ c.self.view_is)

pub invariant_of-self-in_err-push : goal.invariant_of-self-in_err-push
invariant_of-self-in_err-push c = rw c.in_err-push.ensures.items (packed_still _ _ _ _ _ _ c.keep.ensures.grown c.self.invariant)

pub returns-in_err-push-clause-err : goal.returns-in_err-push-clause-err
returns-in_err-push-clause-err c =
    MatchResult-from_err c.from_residual-in_err-push.result (λ _. ⊤) _ c.from_residual-in_err-push.ensures.0
    (λ _. ap (lines_of_parts c.keep.new.self.places.items c.keep.new.self.bytes.items []) c.in_err-push.ensures.items ∙ (same_lines _ _ _ _ _ _ c.keep.ensures.grown c.self.invariant ∙ c.self.view_is))

pub invariant_of-self-2 : goal.invariant_of-self-2
invariant_of-self-2 c =
    let changes = rw (c.deref.ensures.value, c.deref-2.ensures.value) at c.in_ok-front.ensures.changes in
    let part = rw c.deref-3.ensures.value at c.in_ok-part.ensures.part in
    rw (c.in_ok-push.ensures.items, c.replace.ensures.after) (one_packed _ _ _ _ _ _ c.keep.ensures.grown c.self.invariant _ _ _ _ c.in_ok-part.part changes part)

pub returns-clause-ok : goal.returns-clause-ok
returns-clause-ok c =
    let changes = rw (c.deref.ensures.value, c.deref-2.ensures.value) at c.in_ok-front.ensures.changes in
    let part = rw c.deref-3.ensures.value at c.in_ok-part.ensures.part in
    ap (lines_of_parts c.keep.new.self.places.items c.keep.new.self.bytes.items []) c.in_ok-push.ensures.items
    ∙ (one_line_more _ _ _ _ _ _ c.keep.ensures.grown c.self.invariant _ _ _ _ c.in_ok-part.part changes part ∙ ap (λ xs. xs ++ c.args.line.items) c.self.view_is)
