use Rattle.pz_turn.proofs.Common.{◌≡◌, take, length, min, combinations}
use Rattle.pz_turn.proofs.applying.combination_count.Given as goal

abbrev pub invariant-loop-list : goal.invariant-loop-list
invariant-loop-list l = l.count ≡ min (length (combinations (take l.list-index l.lists))) 1048577
