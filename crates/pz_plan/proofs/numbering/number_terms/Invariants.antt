use Rattle.std.proofs.Common.{◌≡◌, ◌++◌, drop, length}
use Rattle.pz_plan.specs.Numbering.{terms_of, choices_at}
use Rattle.pz_plan.proofs.numbering.number_terms.Given as goal

abbrev pub invariant-loop-mention : goal.invariant-loop-mention
invariant-loop-mention l = record {
  terms : l.terms.items ++ terms_of (length l.choices.items) (drop l.mention-index l.mentions) ≡ terms_of (length l.fn.choices.items) l.mentions;
  choices : l.choices.items ++ choices_at l.spot (drop l.mention-index l.mentions) ≡ l.fn.choices.items ++ choices_at l.spot l.mentions;
}
