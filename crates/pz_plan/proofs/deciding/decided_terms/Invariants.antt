use Rattle.std.proofs.Common.{◌≡◌, drop}
use Rattle.pz_plan.specs.Deciding.{decided_terms}
use Rattle.pz_plan.proofs.Joining.{after}
use Rattle.pz_plan.proofs.deciding.decided_terms.Given as goal

abbrev pub invariant-loop-mention : goal.invariant-loop-mention
invariant-loop-mention l = after l.terms.items (decided_terms l.choices l.spot (drop l.mention-index l.mentions)) ≡ decided_terms l.choices l.spot l.mentions
