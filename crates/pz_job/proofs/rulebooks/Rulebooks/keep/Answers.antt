use Rattle.std.proofs.Common.{ap, sym, ◌∙◌}
use Rattle.pz_job.specs.Rulebooks.{rulebook_of}
use Rattle.pz_job.proofs.Kept.{kept_after}
use Rattle.pz_job.proofs.rulebooks.Rulebooks.keep.Goals as goal

pub invariant_of-self : goal.invariant_of-self
invariant_of-self c =
    let is = c.in_ok-kept.ensures ∙ c.requires ∙ ap rulebook_of (sym c.in_ok-text.ensures.ok) in
    record { are_kept = kept_after c.args.self.now.answers c.insert.new.self c.args.self.now.are_kept c.insert.result c.in_ok-text.text c.in_ok-kept.kept is c.insert.ensures.updates c.insert.ensures.err }
