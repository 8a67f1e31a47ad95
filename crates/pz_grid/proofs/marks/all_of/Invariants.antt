use Rattle.pz_grid.proofs.Common.{list_any, member, take, ℕ, ◌≡◌}
use Rattle.pz_grid.proofs.marks.all_of.Given as goal

abbrev pub invariant-loop-line : goal.invariant-loop-line
invariant-loop-line l = (object : ℕ) → member l.set object ≡ list_any (λ set. member set object) (take l.line-index l.marks)
