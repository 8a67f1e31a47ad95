use Rattle.std.proofs.Common.{[], ◌∷◌, sym, ◌∙◌, append_assoc}
use Rattle.std.proofs.lemmas.List.{append-nil}
use Rattle.pz_rules.proofs.kept.Kept.into_instances.Goals as goal

pub loop-form-preserved : goal.loop-form-preserved
loop-form-preserved c =
    let before = rw c.in-Some.ensures.steps at c.loop-form.invariant in
    rw (c.in_ok-push.ensures.items, c.into_instance.ensures) (append_assoc c.loop-form.instances.items (c.in-Some.form ∷ []) c.next.new.self ∙ before)

pub returns : goal.returns
returns c = sym (append-nil c.loop-form.instances.items) ∙ (rw c.in-None.ensures.steps.0 at c.loop-form.invariant)
