use Rattle.std.proofs.Common.{◌≡◌, drop}
use Rattle.pz_names.specs.Denotation.{with_mentions, AreMarked}
use Rattle.pz_names.proofs.denotation.add_mentions.Given as goal

abbrev pub invariant-loop-number : goal.invariant-loop-number
invariant-loop-number l = record {
  mentions : with_mentions l.mentions.items (drop l.number-index l.more) ≡ with_mentions l.initial.mentions.items l.more;
  marked : AreMarked l.marks l.mentions.items;
}
