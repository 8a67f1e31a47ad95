use Rattle.pz_solve.proofs.origin.Origin.settle.Goals as goal

pub take_cells_of-requires-clause-within : goal.take_cells_of-requires-clause-within
take_cells_of-requires-clause-within c =
    let played = c.self.invariant.played c.in-Some.work c.in-Some.is in
    rw c.deref.ensures.value (rw played.long c.self.invariant.within)

pub take_cells_of-requires-clause-size : goal.take_cells_of-requires-clause-size
take_cells_of-requires-clause-size c = (c.self.invariant.played c.in-Some.work c.in-Some.is).size
