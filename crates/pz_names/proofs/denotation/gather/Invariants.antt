use Rattle.std.proofs.Common.{◌≡◌, drop}
use Rattle.pz_names.specs.Denotation.{AreMarked, members_of_parts, known_at}
use Rattle.pz_names.proofs.denotation.gather.Given as goal

abbrev pub invariant-loop-part : goal.invariant-loop-part
invariant-loop-part l = record {
  gathered : members_of_parts (known_at l.known) l.mentions.items (drop l.part-index l.parts) ≡ members_of_parts (known_at l.known) l.initial.mentions.items l.parts;
  marked : AreMarked l.marks l.mentions.items;
}
