use Rattle.pz_grid.proofs.SomewhereLemmas.{nowhere_none}
use Rattle.pz_grid.proofs.Level.may_hold.Goals as goal

pub returns : goal.returns
returns c = record {
  none = λ absent dir. nowhere_none c.args.self.now.grid c.args.row.now dir _ (λ hold. c.may_hold.ensures (rw c.bare.ensures hold)) absent;
}
