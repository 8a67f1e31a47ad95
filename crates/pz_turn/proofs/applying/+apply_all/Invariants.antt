use Rattle.pz_turn.proofs.Common.{length, ◌≡◌, ◌++◌, ◌+◌, map, fold, take, drop, SameSize, in_rewrite, applied_at}
use Rattle.pz_turn.proofs.Combining.{ending}
use Rattle.pz_turn.proofs.applying.+apply_all.Given as goal

abbrev pub decreases-apply_all : goal.decreases-apply_all
decreases-apply_all l = length l.lists.now

-- each combination that ends with one of the first places has been applied
abbrev pub invariant-places : goal.invariant-places
invariant-places l = record {
  so_far : in_rewrite l.level.grid l.changed ≡ fold (applied_at l.instance) (in_rewrite l.fn.level.grid l.fn.changed_before) (map (λ places. places ++ drop (length l.others + 1) l.fn.chosen) (ending l.others (take l.place-index l.place-items)));
  size : SameSize l.fn.level.grid l.level.grid;
  chosen : drop (length l.others + 1) l.chosen ≡ drop (length l.others + 1) l.fn.chosen;
  room : length l.chosen ≡ length l.fn.chosen;
}
