use Rattle.pz_grid.proofs.Common.{arith, ◌≡◌}
use Rattle.std.proofs.lemmas.Bool.Decides.{same_from_decides}
use Rattle.pz_grid.proofs.SameLemmas.{same_grid_decides}
use Rattle.pz_grid.proofs.Level.same.Goals as goal

pub returns-clause-same : goal.returns-clause-same
returns-clause-same c =
    let a = c.self.inside.bare.grid in
    let b = c.other.inside.bare.grid in
    grind (arith, same_from_decides {P = a ≡ b} _ _ c.equals.ensures (same_grid_decides a b))
