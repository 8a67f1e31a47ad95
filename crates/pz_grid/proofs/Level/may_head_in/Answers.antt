use Rattle.pz_grid.proofs.SomewhereLemmas.{nowhere_none}
use Rattle.pz_grid.proofs.Level.may_head_in.Goals as goal

pub returns : goal.returns
returns c absent row dir are asks = nowhere_none c.args.self.now.grid row dir _ (λ hold. c.may_head_in.ensures row.cells (rw c.bare.ensures are) (rw c.words.ensures asks) (rw c.bare.ensures hold)) absent
