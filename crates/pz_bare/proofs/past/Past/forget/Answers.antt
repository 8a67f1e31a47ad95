use Rattle.std.proofs.Common.{reverse, sym, subst}
use Rattle.pz_bare.specs.Past.{AreWays}
use Rattle.pz_bare.proofs.PastLemmas.{ways_fewer}
use Rattle.pz_bare.proofs.past.Past.forget.Goals as goal

pub give_back-requires : goal.give_back-requires
give_back-requires c =
    let held = ways_fewer c.self.inside.before.items c.pop.new.self.items c.in-Some.way c.in-Some-newest.newest c.self.inside.newest c.in-Some.ensures.items c.in-Some-newest.is c.self.invariant in
    held.0

pub invariant_of-self-in-Some-newest : goal.invariant_of-self-in-Some-newest
invariant_of-self-in-Some-newest c =
    let held = ways_fewer c.self.inside.before.items c.pop.new.self.items c.in-Some.way c.in-Some-newest.newest c.self.inside.newest c.in-Some.ensures.items c.in-Some-newest.is c.self.invariant in
    subst (AreWays (reverse c.pop.new.self.items)) (sym c.give_back.ensures) held.1
