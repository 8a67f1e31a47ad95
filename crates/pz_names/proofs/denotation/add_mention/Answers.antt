use Rattle.std.proofs.Common.{sym, subst}
use Rattle.std.specs.Prelude.{true, slice_set}
use Rattle.pz_names.specs.Denotation.{AreMarked}
use Rattle.pz_names.proofs.RoundLemmas.{marked-more}
use Rattle.pz_names.proofs.denotation.add_mention.Goals as goal

pub returns-then-number-marks-clause-marked : goal.returns-then-number-marks-clause-marked
returns-then-number-marks-clause-marked c =
    subst (AreMarked (slice_set c.args.marks.now c.args.number true)) (sym c.in_ok-push.ensures.items)
    (marked-more c.args.marks.now c.args.mentions.now.items c.args.number c.requires c.if-number-marks.true)
