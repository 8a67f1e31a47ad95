use Rattle.std.proofs.Common.{◌≡◌, ◌++◌}
use Rattle.pz_rules.proofs.kept.Kept.into_instances.Given as goal

abbrev pub invariant-loop-form : goal.invariant-loop-form
invariant-loop-form l = l.instances.items ++ l.form-iterator ≡ l.fn.self
