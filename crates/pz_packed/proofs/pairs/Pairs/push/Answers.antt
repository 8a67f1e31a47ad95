use Rattle.pz_packed.proofs.PairedLemmas.{paired_push}
use Rattle.pz_packed.proofs.pairs.Pairs.push.Goals as goal

pub returns-in_ok-push-in-Some-clause-ok : goal.returns-in_ok-push-in-Some-clause-ok
returns-in_ok-push-in-Some-clause-ok c =
    rw (c.in_ok-push-in-Some.ensures.items, ← c.self.view_is, c.in-Some.is) (paired_push c.self.inside.bytes.items c.in-Some.first c.args.number (c.self.invariant c.in-Some.first c.in-Some.is))
