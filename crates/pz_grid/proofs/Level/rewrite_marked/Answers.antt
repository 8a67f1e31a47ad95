use Rattle.pz_grid.proofs.Common.{IsMarkedAt, LevelState, arith, cell_at, names_object, rewritten_cell, subst, sym}
use Rattle.pz_grid.proofs.MarkLemmas.{has_rewritten, marked_cell}
use Rattle.pz_grid.proofs.Level.rewrite_marked.Goals as goal

pub invariant_of-self : goal.invariant_of-self
invariant_of-self c =
    let left = c.args.left.now in
    let right = c.args.right.now in
    let cell = cell_at c.self.inside.bare.grid c.args.x c.args.y in
    let at = subst (λ (s : LevelState). IsMarkedAt s c.args.x c.args.y (λ object. names_object object right)) (sym c.self.view_is) c.requires.marked in
    rw c.rewrite.ensures.level (marked_cell _ c.args.x c.args.y (rewritten_cell left right cell) (λ object. names_object object right) (grind arith) (has_rewritten left right cell) at c.self.invariant)
