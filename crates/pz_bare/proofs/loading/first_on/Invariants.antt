use Rattle.std.proofs.Common.{◌≡◌, map, None}
use Rattle.std.specs.List.{range_with_len}
use Rattle.pz_bare.specs.Loading.{first_of, first_in_column}
use Rattle.pz_bare.proofs.loading.first_on.Given as goal

abbrev pub invariant-loop-x : goal.invariant-loop-x
invariant-loop-x g l = first_of (map (first_in_column l.sheet.grid l.layer) (range_with_len 0 l.x)) ≡ None
