use Rattle.pz_grid.proofs.MarkLemmas.{marked_mark}
use Rattle.pz_grid.proofs.Level.mark.Goals as goal

pub invariant_of-self : goal.invariant_of-self
invariant_of-self c =
    marked_mark _ c.args.x c.args.y c.args.object _ _ _ c.mark_in.ensures.count c.mark_in-2.ensures.count c.mark_in.ensures.more c.mark_in-2.ensures.more c.insert.ensures c.self.invariant
