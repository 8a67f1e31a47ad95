use Rattle.std.proofs.Common.{sym, subst}
use Rattle.pz_job.specs.Sources.{IsKnown}
use Rattle.pz_job.proofs.sources.Source.expand.Goals as goal

pub invariant_of-self : goal.invariant_of-self
invariant_of-self c =
    let text = c.self.inside.text.now in
    let before = subst (λ k. IsKnown text k) (sym c.replace-known.ensures.value) c.self.invariant in
    subst (λ k. IsKnown text k) (sym c.replace.ensures.after) (c.expanded.ensures text before)
